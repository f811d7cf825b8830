use Rattle.std.proofs.Common.{Bool, ap, sym, ◌∙◌, arith}
use Rattle.std.specs.List.{list_any}
use Rattle.std.proofs.lemmas.List.{take_all}
use Rattle.cas_record.specs.Agreement.{ballot_told, tells_agreed}
use Rattle.cas_record.specs.declared.operator.Probe.{Probe}
use Rattle.cas_record.proofs.Agreements.{any_past, agreed_some, none_agreed}
use Rattle.cas_record.proofs.agreement.agreed_ballot.Goals as goal

pub returns-then-tells_agreed : goal.returns-then-tells_agreed
returns-then-tells_agreed c = agreed_some c.args.era.now c.args.found.now c.ballot_told-told.result (sym c.tells_agreed.ensures ∙ c.if-tells_agreed.true)

pub loop-probe-preserved : goal.loop-probe-preserved
loop-probe-preserved c =
    let agreed : Probe → Bool = λ probe. tells_agreed c.args.era.now c.args.found.now (ballot_told probe.told) in
    any_past agreed c.args.found.now c.loop-probe.probe-index c.probe-item.result (omega arith) c.probe-item.is c.loop-probe.invariant
    (ap (tells_agreed c.args.era.now c.args.found.now) (sym c.ballot_told-told.ensures) ∙ sym c.tells_agreed.ensures ∙ c.if-tells_agreed.false)

pub returns : goal.returns
returns c =
    let agreed : Probe → Bool = λ probe. tells_agreed c.args.era.now c.args.found.now (ballot_told probe.told) in
    none_agreed c.args.era.now c.args.found.now c.requires (ap (list_any agreed) (sym (take_all c.loop-probe.probe-index c.args.found.now (omega arith))) ∙ c.loop-probe.invariant)
