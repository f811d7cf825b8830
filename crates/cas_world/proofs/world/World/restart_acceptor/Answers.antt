use Rattle.std.proofs.Common.{◌≡◌, ℕ, slice_set, sym, subst, ◌∙◌, arith}
use Rattle.cas_model.specs.Step as step
use Rattle.cas_model.specs.Step.{StepRestartAcceptor}
use Rattle.cas_model.specs.View.{View, IsAt, meaning, shelf_meaning}
use Rattle.cas_model.proofs.Safety.Steps.{steps_are_safe}
use Rattle.cas_world.specs.World.{view_of}
use Rattle.cas_world.proofs.Stops.Stops.{restarted, acceptor_tells}
use Rattle.cas_world.proofs.Parts.{at_place, left_now, seen_from, remembered_then}
use Rattle.cas_world.proofs.world.World.restart_acceptor.Given.{Over}
use Rattle.cas_world.proofs.world.World.restart_acceptor.Goals as goal

restarts : (g : Over) (c : goal.After-self-1 g) → StepRestartAcceptor (meaning g.S.Shelf g.V.Disk)
    (view_of c.self.inside.setup.proposers c.self.inside.council c.self.inside.acceptors.items c.self.inside.desks.items c.self.inside.callers.items c.self.inside.flow c.self.inside.record) c.args.id
    (view_of c.self.inside.setup.proposers c.self.inside.council (slice_set c.self.inside.acceptors.items c.from.result c.restart.new.self) c.self.inside.desks.items c.self.inside.callers.items c.self.inside.flow c.self.inside.record)
restarts g c =
    let same : c.from.result ≡ c.args.id = c.from.ensures ∙ c.number.ensures.value in
    let by = c.restart.ensures in
    subst (λ (i : ℕ). StepRestartAcceptor (meaning g.S.Shelf g.V.Disk)
    (view_of c.self.inside.setup.proposers c.self.inside.council c.self.inside.acceptors.items c.self.inside.desks.items c.self.inside.callers.items c.self.inside.flow c.self.inside.record) c.args.id
    (view_of c.self.inside.setup.proposers c.self.inside.council (slice_set c.self.inside.acceptors.items i c.restart.new.self) c.self.inside.desks.items c.self.inside.callers.items c.self.inside.flow c.self.inside.record)) (sym same)
    (restarted _ _ c.args.id c.index_mut.result.now c.restart.new.self c.restart.result
    (at_place c.self.inside.acceptors.items c.from.result c.args.id c.index_mut.result.now same (omega (arith, c.self.invariant.safe.sound.acceptors, c.number.ensures.value, c.number.ensures.within)) c.index_mut.ensures.value)
    by.same by.up by.still_down (λ up. (by.unchanged up).1) by.started by.not_started by.kept by.afresh by.reopened
    (λ tells started. left_now g.S.Shelf.moment g.S.Shelf.left_since g.S.Shelf.may_leave _ _ _ (λ t left later may. g.met.S.Shelf.counts_now _ t left tells later may) (by.any_moment tells started)) by.cause.never_falls)

pub invariant_of-self : goal.invariant_of-self
invariant_of-self g c = record {
  safe = steps_are_safe _ _ (step.RestartAcceptor c.args.id) _ c.self.invariant.safe (restarts g c);
  remembered = remembered_then _ (step.RestartAcceptor c.args.id) (restarts g c) c.self.invariant.remembered;
  room = c.self.invariant.room;
  copies = c.self.invariant.copies;
}

pub returns-clause-step : goal.returns-clause-step
returns-clause-step g c = seen_from _ (step.RestartAcceptor c.args.id) _ c.self.view_is (restarts g c)

pub returns-clause-tells : goal.returns-clause-tells
returns-clause-tells g c was now at_was at_now =
    let same : c.from.result ≡ c.args.id = c.from.ensures ∙ c.number.ensures.value in
    let by = c.restart.ensures in
    acceptor_tells (shelf_meaning g.S.Shelf) c.self.inside.acceptors.items c.from.result c.args.id c.index_mut.result.now c.restart.new.self was now c.restart.result same
    (at_place c.self.inside.acceptors.items c.from.result c.args.id c.index_mut.result.now same (omega (arith, c.self.invariant.safe.sound.acceptors, c.number.ensures.value, c.number.ensures.within)) c.index_mut.ensures.value)
    (subst (λ (v : View _ _). IsAt v.acceptors c.args.id was) (sym c.self.view_is) at_was) at_now
    (record { up = by.up; down = by.still_down; cause = by.cause; foreign = by.foreign; start_not_foreign = by.start_not_foreign; not_full = by.not_full })
