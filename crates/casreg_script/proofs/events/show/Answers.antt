use Rattle.std.proofs.Common.{Bool, true, Some, slice_get, sym, ap, subst, ◌∙◌}
use Rattle.cas_model.specs.View.{meaning}
use Rattle.casreg_script.specs.Events.{IsShownSlot, absent, down, keeps, shown_of}
use Rattle.casreg_script.proofs.Happenings.{up_there}
use Rattle.casreg_script.proofs.events.show.Goals as goal

pub returns-in_ok-slot_of-in-Some-true : goal.returns-in_ok-slot_of-in-Some-true
returns-in_ok-slot_of-in-Some-true g c =
    let up = sym c.acceptor_up.ensures ∙ c.in-Some-true.is ∙ ap (λ (b : Bool). Some b) c.in-Some-true.field-0-test in
    let there = up_there c.args.world.now.council.used c.args.id (slice_get c.args.world.now.acceptors c.args.id) true up in
    subst (IsShownSlot (meaning g.S.Shelf g.V.Disk) c.args.world.now c.args.id c.args.key.now)
    (sym (c.shown.ensures ∙ ap shown_of (c.in_ok-slot_of-in-Some-true.ensures there.0 there.1))) (keeps up there.0 there.1)

pub returns-in-Some-false : goal.returns-in-Some-false
returns-in-Some-false g c = down (sym c.acceptor_up.ensures ∙ c.in-Some-false.is ∙ ap (λ (b : Bool). Some b) c.in-Some-false.field-0-test)

pub returns-in-None : goal.returns-in-None
returns-in-None g c = absent (sym c.acceptor_up.ensures ∙ c.in-None.is)
