use Rattle.std.proofs.Common.{refl, sym, subst, arith}
use Rattle.std.specs.Prelude.{IfOk}
use Rattle.cas_model.specs.Step as step
use Rattle.cas_model.specs.View.{View, meaning}
use Rattle.cas_model.proofs.Safety.Steps.{steps_are_safe}
use Rattle.cas_world_calls.specs.Council.{council_view}
use Rattle.cas_world.specs.World.{view_of}
use Rattle.cas_world.proofs.Parts.{seen_from, remembered_then}
use Rattle.cas_model.specs.Collection.Step.{StepGatherRound}
use Rattle.cas_world.specs.Exchanges.Exchange.{HasGathered, MayGatherRound}
use Rattle.cas_world.proofs.Exchanges.Exchanges.{council_next, council_world}
use Rattle.cas_world.proofs.Collection.Gathers.{GathersByStep, gathers_round}
use Rattle.cas_world.proofs.world.World.gather_round.Given.{Over}
use Rattle.cas_world.proofs.world.World.gather_round.Goals as goal
use Rattle.cas_world.proofs.world.World.gather_round.Goals.{After-gather_round}

did : (g : Over) (c : After-gather_round g) → GathersByStep (StepGatherRound (view_of c.self.inside.setup.proposers c.self.inside.council c.self.inside.acceptors.items c.self.inside.desks.items c.self.inside.callers.items c.self.inside.flow c.self.inside.record)) (view_of c.self.inside.setup.proposers c.self.inside.council c.self.inside.acceptors.items c.self.inside.desks.items c.self.inside.callers.items c.self.inside.flow c.self.inside.record) c.gather_round.result (view_of c.self.inside.setup.proposers c.gather_round.new.self c.self.inside.acceptors.items c.self.inside.desks.items c.self.inside.callers.items c.self.inside.flow c.self.inside.record)
did g c = subst (λ (v : (View g.row.S.Denot g.row.V.Denot)). GathersByStep (StepGatherRound (view_of c.self.inside.setup.proposers c.self.inside.council c.self.inside.acceptors.items c.self.inside.desks.items c.self.inside.callers.items c.self.inside.flow c.self.inside.record)) (view_of c.self.inside.setup.proposers c.self.inside.council c.self.inside.acceptors.items c.self.inside.desks.items c.self.inside.callers.items c.self.inside.flow c.self.inside.record) c.gather_round.result v) (sym (council_next c.self.inside.setup.proposers c.self.inside.council c.gather_round.new.self c.self.inside.acceptors.items c.self.inside.desks.items c.self.inside.callers.items c.self.inside.flow c.self.inside.record (council_view c.gather_round.new.self) c.gather_round.ensures.eras refl))
    (gathers_round (view_of c.self.inside.setup.proposers c.self.inside.council c.self.inside.acceptors.items c.self.inside.desks.items c.self.inside.callers.items c.self.inside.flow c.self.inside.record) c.gather_round.result (council_view c.gather_round.new.self) c.self.invariant.safe (subst (λ (v : (View g.row.S.Denot g.row.V.Denot)). MayGatherRound v) (sym c.self.view_is) c.requires) c.gather_round.ensures.gathers)

pub invariant_of-self : goal.invariant_of-self
invariant_of-self g c =
    council_world (view_of c.self.inside.setup.proposers c.self.inside.council c.self.inside.acceptors.items c.self.inside.desks.items c.self.inside.callers.items c.self.inside.flow c.self.inside.record) _ c.self.inside.callers.items c.self.inside.record.room c.self.inside.record.room c.self.invariant refl
    (steps_are_safe (meaning g.S.Shelf g.V.Disk) _ step.GatherRound _ c.self.invariant.safe (did g c).step_) (remembered_then (meaning g.S.Shelf g.V.Disk) step.GatherRound (did g c).step_ c.self.invariant.remembered)
    (omega (arith, c.self.invariant.room, (did g c).reserves))

pub returns-clause-step : goal.returns-clause-step
returns-clause-step g c = seen_from (meaning g.S.Shelf g.V.Disk) step.GatherRound _ c.self.view_is (did g c).step_

pub returns-clause-ok : goal.returns-clause-ok
returns-clause-ok g c = subst (λ (v : (View g.row.S.Denot g.row.V.Denot)). IfOk c.gather_round.result (λ found. HasGathered v found (view_of c.self.inside.setup.proposers c.gather_round.new.self c.self.inside.acceptors.items c.self.inside.desks.items c.self.inside.callers.items c.self.inside.flow c.self.inside.record))) c.self.view_is (did g c).ok

pub returns-clause-err : goal.returns-clause-err
returns-clause-err g c = (did g c).err
