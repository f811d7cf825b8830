use Rattle.std.proofs.Common.{ap, ◌∙◌}
use Rattle.cas_change.specs.declared.state.State.{State}
use Rattle.cas_slot.specs.Contents.{Contents, nothing, with_kept}
use Rattle.cas_model.specs.Openings.{slot_of}
use Rattle.cas_world.specs.Openings.OpeningOn.{opening_of}
use Rattle.test_world.proofs.Floors.{holds_one}
use Rattle.test_world.proofs.openings.holding.Goals as goal

pub returns-in-Ok-clause-holds : goal.returns-in-Ok-clause-holds
returns-in-Ok-clause-holds c =
    (let kept = λ (was : Contents) (state : State). with_kept was c.args.floor.now.key (slot_of (record { key = c.args.floor.now.key; ballot = c.args.floor.now.ballot; state = state })) in
    holds_one (opening_of c.args.floor.now) c.put.new.self
    (c.in-Ok.ensures.ok ∙ ap (λ (was : Contents). kept was c.in_ok-copy.field-0) c.new-shelf.ensures.nothing ∙ ap (λ (state : State). kept nothing state) c.in_ok-copy.ensures))
