use Rattle.std.proofs.Common.{◌+◌, Bool, List, take, ap, sym, subst, ◌∙◌, arith, refl}
use Rattle.std.specs.Prelude.{◌||◌}
use Rattle.std.proofs.lemmas.List.{take_all}
use Rattle.cas_ballot.specs.declared.ballot.Ballot.{Ballot}
use Rattle.cas_record.specs.Agreement.{is_ballot_told, tells_ballot, is_told, IsSpan}
use Rattle.cas_record.specs.declared.operator.Probe.{Probe}
use Rattle.cas_record.proofs.Agreements.{any_more}
use Rattle.cas_record.proofs.agreement.span.Goals as goal

pub loop-probe-init : goal.loop-probe-init
loop-probe-init c = λ ballot. refl

pub loop-probe-preserved : goal.loop-probe-preserved
loop-probe-preserved c =
    let found = c.args.found.now in
    let at = c.loop-probe.probe-index in
    let before : Ballot → Bool = is_told (take at found) in
    c.widened-span.ensures before (is_told (take (at + 1) found))
    (λ ballot. any_more (tells_ballot ballot) found at c.probe-item.result (omega arith) c.probe-item.is ∙ ap (λ told. before ballot || is_ballot_told ballot told) (sym c.ballot_told.ensures))
    c.loop-probe.invariant

pub returns : goal.returns
returns c = subst (λ (found : List Probe). IsSpan (is_told found) c.loop-probe.span) (take_all c.loop-probe.probe-index c.args.found.now (omega arith)) c.loop-probe.invariant
