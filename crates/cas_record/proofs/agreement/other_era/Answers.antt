use Rattle.std.proofs.Common.{◌≡◌, Bool, false, not, ap, sym, subst, ◌∙◌, arith}
use Rattle.std.specs.Prelude.{MatchOption}
use Rattle.std.proofs.lemmas.Bool.{not_from_true}
use Rattle.std.proofs.lemmas.List.{take_all}
use Rattle.cas_record.specs.Agreement.{accepted_told, is_of_era, has_other_era, IsOtherEra}
use Rattle.cas_record.specs.declared.operator.Probe.{Probe}
use Rattle.cas_record.proofs.Agreements.{any_past, other_of}
use Rattle.cas_record.proofs.agreement.other_era.Goals as goal

pub loop-probe-preserved : goal.loop-probe-preserved
loop-probe-preserved c =
    let other : Probe → Bool = λ probe. not (is_of_era c.args.number (accepted_told probe.told)) in
    any_past other c.args.found.now c.loop-probe.probe-index c.probe-item.result (omega arith) c.probe-item.is c.loop-probe.invariant
    (not_from_true _ (sym c.is_of_era.ensures ∙ c.if-not-is_of_era.false))

pub returns : goal.returns
returns c = ap (has_other_era c.args.number) (sym (take_all c.loop-probe.probe-index c.args.found.now (omega arith))) ∙ c.loop-probe.invariant

pub returns-then-not-is_of_era : goal.returns-then-not-is_of_era
returns-then-not-is_of_era c =
    subst (λ result. MatchOption result (has_other_era c.args.number c.args.found.now ≡ false) (λ other. IsOtherEra c.args.number c.args.found.now other)) (sym c.era_told.ensures)
    (other_of c.args.number c.args.found.now c.loop-probe.probe-index c.probe-item.result (omega arith) c.probe-item.is (sym c.is_of_era.ensures ∙ c.if-not-is_of_era.true))
