use Rattle.cas_record.specs.declared.operator.OpAnswer.{OpAnswer}
use Rattle.cas_model.proofs.Collection.Laws.{collected_floors}
use Rattle.cas_quorum.specs.declared.era.Era.{Era}
use Rattle.cas_model.specs.View.{era_in}
use Rattle.cas_model.proofs.Eras.Finishing.{finished_as_asked, finished_have_entered}
use Rattle.cas_model.specs.SafeLaws.{HaveEnteredIts, IsEraTold}
use Rattle.cas_model.specs.Collection.Laws.{HasItsFloor}
use Rattle.cas_model.specs.Council.{Council}
use Rattle.cas_model.specs.Exchanges.Step.{IsCollectedBy, IsFinishedBy, told_marks}
use Rattle.std.proofs.Common.{List, ◌++◌, Option, refl, sym, ap, subst, reverse, ◌∙◌, arith}
use Rattle.std.specs.Prelude.{option_map}
use Rattle.cas_model.specs.Council.{reserved_by, reserved_for_order}
use Rattle.cas_model.specs.Step as step
use Rattle.cas_model.specs.Step.{Step}
use Rattle.cas_model.specs.View.{View, meaning}
use Rattle.cas_model.proofs.Safety.Steps.{steps_are_safe}
use Rattle.cas_world_calls.specs.Council.{council_view, order_view, concluded}
use Rattle.cas_world.specs.World.{view_of}
use Rattle.cas_world_calls.specs.declared.council.Order.{Order}
use Rattle.cas_world.proofs.Exchanges.Exchanges.{council_world, may_tell, may_close, over_there, plain_there, told_step, concluded_reserves}
use Rattle.cas_world.proofs.Parts.{seen_from, remembered_then}
use Rattle.cas_world.proofs.world.World.tell.Given.{Over}
use Rattle.cas_world.proofs.world.World.tell.Goals as goal
use Rattle.cas_world.proofs.world.World.tell.Goals.{After-mark_told}

pub close-asked-requires : goal.close-asked-requires
close-asked-requires g c = may_close c.self.inside.council c.args.answer
    (may_tell c.self.inside.council c.args.self.now c.args.answer (ap (λ (v : View g.row.S.Denot g.row.V.Denot). v.council) c.self.view_is) c.requires)

pub conclude-told-requires : goal.conclude-told-requires
conclude-told-requires g c none =
    plain_there c.self.inside.council c.args.answer c.close-asked.result.collected c.close-asked.ensures.collected
    (over_there c.self.inside.council c.args.answer c.close-asked.result.order
    (may_tell c.self.inside.council c.args.self.now c.args.answer (ap (λ (v : View g.row.S.Denot g.row.V.Denot). v.council) c.self.view_is) c.requires) c.close-asked.ensures.order none)

pub mark_told-requires : goal.mark_told-requires
mark_told-requires g c = omega (arith, c.self.invariant.room, ap (λ (o : Option Order). reserved_for_order (option_map order_view o)) c.close-asked.ensures.order)

step_so : (g : Over) (c : After-mark_told g) → Step (meaning g.S.Shelf g.V.Disk)
    (view_of c.self.inside.setup.proposers c.self.inside.council c.self.inside.acceptors.items c.self.inside.desks.items c.self.inside.callers.items c.self.inside.flow c.self.inside.record)
    (step.Tell c.args.answer)
    (view_of c.self.inside.setup.proposers c.conclude-told.new.self c.self.inside.acceptors.items c.self.inside.desks.items c.self.inside.callers.items c.abandon.new.self c.mark_told.new.record)
step_so g c =
    told_step c.self.inside.setup.proposers c.self.inside.council c.conclude-told.new.self c.self.inside.acceptors.items c.self.inside.desks.items c.self.inside.callers.items
    c.self.inside.flow c.abandon.new.self c.self.inside.record c.mark_told.new.record c.args.answer
    (may_tell c.self.inside.council c.args.self.now c.args.answer (ap (λ (v : View g.row.S.Denot g.row.V.Denot). v.council) c.self.view_is) c.requires) c.close-asked.result.order
    c.self.invariant.safe c.close-asked.ensures.order c.abandon.ensures
    (c.conclude-told.ensures.concluded ∙ ap (concluded c.close-asked.result.order.told) c.close-asked.ensures.closed) (c.conclude-told.ensures.eras ∙ c.close-asked.ensures.eras)
    (c.mark_told.ensures.marks ∙ ap (λ (a : OpAnswer). c.self.inside.record.marks ++ told_marks c.close-asked.result.order.asked a) c.conclude-told.ensures.answer)

pub invariant_of-self : goal.invariant_of-self
invariant_of-self g c =
    council_world (view_of c.self.inside.setup.proposers c.self.inside.council c.self.inside.acceptors.items c.self.inside.desks.items c.self.inside.callers.items c.self.inside.flow
    c.self.inside.record) _ c.self.inside.callers.items c.self.inside.record.room c.mark_told.new.record.room c.self.invariant refl
    (steps_are_safe (meaning g.S.Shelf g.V.Disk) _ (step.Tell c.args.answer) _ c.self.invariant.safe (step_so g c))
    (remembered_then (meaning g.S.Shelf g.V.Disk) (step.Tell c.args.answer) (step_so g c) c.self.invariant.remembered)
    (omega (
      arith,
      c.self.invariant.room,
      c.mark_told.ensures.room,
      ap reserved_by (c.conclude-told.ensures.concluded ∙ ap (concluded c.close-asked.result.order.told) c.close-asked.ensures.closed),
      concluded_reserves c.close-asked.result.order.told (council_view c.self.inside.council),
      ap (λ (o : Option Order). reserved_for_order (option_map order_view o)) c.close-asked.ensures.order,
    ))

pub returns-clause-step : goal.returns-clause-step
returns-clause-step g c = seen_from (meaning g.S.Shelf g.V.Disk) (step.Tell c.args.answer)
    (view_of c.self.inside.setup.proposers c.conclude-told.new.self c.self.inside.acceptors.items c.self.inside.desks.items c.self.inside.callers.items c.abandon.new.self
    c.mark_told.new.record) c.self.view_is (step_so g c)

pub returns-clause-floor : goal.returns-clause-floor
returns-clause-floor g c shelves disks all =
    subst (λ (v : (View g.row.S.Denot g.row.V.Denot)). HasItsFloor c.args.answer (reverse v.marks)) c.self.view_is
    (collected_floors (meaning g.S.Shelf g.V.Disk) (view_of c.self.inside.setup.proposers c.self.inside.council c.self.inside.acceptors.items c.self.inside.desks.items
    c.self.inside.callers.items c.self.inside.flow c.self.inside.record) all.order c.args.answer (c.self.invariant.remembered shelves disks)
    (subst (λ (k : Council). IsCollectedBy k all.order c.args.answer) (sym (ap (λ (v : View g.row.S.Denot g.row.V.Denot). v.council) c.self.view_is)) all.collected))

pub returns-clause-entered : goal.returns-clause-entered
returns-clause-entered g c all =
    subst (λ (v : (View g.row.S.Denot g.row.V.Denot)). HaveEnteredIts v.last_proposer c.args.answer (reverse v.marks)) c.self.view_is
    (finished_have_entered (view_of c.self.inside.setup.proposers c.self.inside.council c.self.inside.acceptors.items c.self.inside.desks.items c.self.inside.callers.items c.self.inside.flow
    c.self.inside.record) all.order c.args.answer c.self.invariant.safe
    (subst (λ (k : Council). IsFinishedBy k all.order c.args.answer) (sym (ap (λ (v : View g.row.S.Denot g.row.V.Denot). v.council) c.self.view_is)) all.finished))

pub returns-clause-as_asked : goal.returns-clause-as_asked
returns-clause-as_asked g c all =
    subst (λ (eras : List Era). IsEraTold c.args.answer (era_in eras 0)) (λ i. (sym (c.conclude-told.ensures.eras ∙ c.close-asked.ensures.eras) i).0)
    (finished_as_asked (view_of c.self.inside.setup.proposers c.self.inside.council c.self.inside.acceptors.items c.self.inside.desks.items c.self.inside.callers.items c.self.inside.flow
    c.self.inside.record) all.order c.args.answer c.self.invariant.safe
    (subst (λ (k : Council). IsFinishedBy k all.order c.args.answer) (sym (ap (λ (v : View g.row.S.Denot g.row.V.Denot). v.council) c.self.view_is)) all.finished))
