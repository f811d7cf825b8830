use Rattle.std.proofs.Common.{◌≡◌, ℕ, true, slice_set, ap, ◌∙◌, arith}
use Rattle.cas_model.specs.Step as step
use Rattle.cas_model.specs.Step.{StepCrashAcceptor}
use Rattle.cas_model.specs.View.{meaning}
use Rattle.cas_model.proofs.Safety.Steps.{steps_are_safe}
use Rattle.cas_world.specs.World.{view_of}
use Rattle.cas_world.proofs.Parts.{at_place, same_but, seen_from, remembered_then}
use Rattle.cas_world.proofs.world.World.crash_acceptor.Given.{Over}
use Rattle.cas_world.proofs.world.World.crash_acceptor.Goals as goal

crashes : (g : Over) (c : goal.After-self-1 g) → StepCrashAcceptor (meaning g.S.Shelf g.V.Disk)
    (view_of c.self.inside.setup.proposers c.self.inside.council c.self.inside.acceptors.items c.self.inside.desks.items c.self.inside.callers.items c.self.inside.flow c.self.inside.record) c.args.id
    (view_of c.self.inside.setup.proposers c.self.inside.council (slice_set c.self.inside.acceptors.items c.from.result c.crash.new.self) c.self.inside.desks.items c.self.inside.callers.items c.self.inside.flow c.self.inside.record)
crashes g c =
    let same : c.from.result ≡ c.args.id = c.from.ensures ∙ c.number.ensures.value in
    step.crashes c.index_mut.result.now c.crash.new.self
    (at_place c.self.inside.acceptors.items c.from.result c.args.id c.index_mut.result.now same (omega (arith, c.self.invariant.safe.sound.acceptors, c.number.ensures.value, c.number.ensures.within)) c.index_mut.ensures.value)
    (record { acceptor = same_but c.index_mut.result.now c.crash.new.self true c.crash.ensures.same.0 c.crash.ensures.same.1 c.crash.ensures.down; settled = c.crash.ensures.settled; never_falls = c.crash.ensures.never_falls })
    (ap (λ (i : ℕ). view_of c.self.inside.setup.proposers c.self.inside.council (slice_set c.self.inside.acceptors.items i c.crash.new.self) c.self.inside.desks.items c.self.inside.callers.items c.self.inside.flow c.self.inside.record) same)

-- src/parties.rt:25:5
pub invariant_of-self : goal.invariant_of-self
invariant_of-self g c = record {
  safe = steps_are_safe _ _ (step.CrashAcceptor c.args.id) _ c.self.invariant.safe (crashes g c);
  remembered = remembered_then _ (step.CrashAcceptor c.args.id) (crashes g c) c.self.invariant.remembered;
  room = c.self.invariant.room;
  copies = c.self.invariant.copies;
}

-- src/parties.rt:25:5
pub returns : goal.returns
returns g c = seen_from _ (step.CrashAcceptor c.args.id) _ c.self.view_is (crashes g c)
