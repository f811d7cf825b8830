use Rattle.std.proofs.Common.{refl, sym, ap, subst, ◌∙◌, arith}
use Rattle.std.specs.Prelude.{IfOk}
use Rattle.cas_model.specs.Step as step
use Rattle.cas_model.specs.View.{View, meaning}
use Rattle.cas_model.proofs.Safety.Steps.{steps_are_safe}
use Rattle.cas_world_calls.specs.Council.{council_view}
use Rattle.cas_world.specs.World.{view_of}
use Rattle.cas_world.proofs.Parts.{seen_from, remembered_then}
use Rattle.cas_model.specs.Collection.Step.{StepGatherCollect}
use Rattle.cas_model.specs.Council.{exchange_place}
use Rattle.cas_flow.specs.Flow.{queue_at}
use Rattle.cas_model.specs.Collection.State.{CollectionView}
use Rattle.std.proofs.Common.{Option}
use Rattle.std.specs.Prelude.{IsSome}
use Rattle.cas_world_calls.specs.Collecting.{GathersCollectAs}
use Rattle.cas_model.proofs.Collection.Laws.{removals_done}
use Rattle.cas_world.specs.Collection.Collect.{AreRemovalsDone}
use Rattle.cas_world.specs.Exchanges.Exchange.{HasGathered, MayGatherCollected}
use Rattle.cas_world.proofs.Exchanges.Exchanges.{council_next, council_world, in_world, open_code}
use Rattle.cas_world.proofs.Collection.Gathers.{GathersByStep, gathers_collect}
use Rattle.cas_world.proofs.world.World.gather_collection.Given.{Over}
use Rattle.cas_world.proofs.world.World.gather_collection.Goals as goal
use Rattle.cas_world.proofs.world.World.gather_collection.Goals.{After-gather_collection}

pub gather_collection-requires-clause-open : goal.gather_collection-requires-clause-open
gather_collection-requires-clause-open g c = open_code c.self.inside.council.exchange c.requires.exchange (ap (λ (v : (View g.row.S.Denot g.row.V.Denot)). v.council.exchange) c.self.view_is ∙ c.requires.is_open)

pub gather_collection-requires-clause-under_way : goal.gather_collection-requires-clause-under_way
gather_collection-requires-clause-under_way g c =
    subst (λ (o : Option CollectionView). IsSome o) (sym (c.self.invariant.safe.collection.exchange c.requires.exchange (ap (λ (v : (View g.row.S.Denot g.row.V.Denot)). v.council.exchange) c.self.view_is ∙ c.requires.is_open) c.requires.asks).is_collection) refl

abbrev may : (g : Over) (c : After-gather_collection g) → MayGatherCollected (view_of c.self.inside.setup.proposers c.self.inside.council c.self.inside.acceptors.items c.self.inside.desks.items c.self.inside.callers.items c.self.inside.flow c.self.inside.record)
may g c = record {
  exchange = c.requires.exchange;
  is_open = ap (λ (v : (View g.row.S.Denot g.row.V.Denot)). v.council.exchange) c.self.view_is ∙ c.requires.is_open;
  asks = c.requires.asks;
  none_waits = ap (λ (v : (View g.row.S.Denot g.row.V.Denot)). (queue_at v.flow exchange_place).messages) c.self.view_is ∙ c.requires.none_waits;
}

did : (g : Over) (c : After-gather_collection g) → GathersByStep (StepGatherCollect (view_of c.self.inside.setup.proposers c.self.inside.council c.self.inside.acceptors.items c.self.inside.desks.items c.self.inside.callers.items c.self.inside.flow c.self.inside.record)) (view_of c.self.inside.setup.proposers c.self.inside.council c.self.inside.acceptors.items c.self.inside.desks.items c.self.inside.callers.items c.self.inside.flow c.self.inside.record) c.gather_collection.result (view_of c.self.inside.setup.proposers c.gather_collection.new.self c.self.inside.acceptors.items c.self.inside.desks.items c.self.inside.callers.items c.self.inside.flow c.self.inside.record)
did g c = subst (λ (v : (View g.row.S.Denot g.row.V.Denot)). GathersByStep (StepGatherCollect (view_of c.self.inside.setup.proposers c.self.inside.council c.self.inside.acceptors.items c.self.inside.desks.items c.self.inside.callers.items c.self.inside.flow c.self.inside.record)) (view_of c.self.inside.setup.proposers c.self.inside.council c.self.inside.acceptors.items c.self.inside.desks.items c.self.inside.callers.items c.self.inside.flow c.self.inside.record) c.gather_collection.result v) (sym (council_next c.self.inside.setup.proposers c.self.inside.council c.gather_collection.new.self c.self.inside.acceptors.items c.self.inside.desks.items c.self.inside.callers.items c.self.inside.flow c.self.inside.record (council_view c.gather_collection.new.self) c.gather_collection.ensures.eras refl))
    (gathers_collect (view_of c.self.inside.setup.proposers c.self.inside.council c.self.inside.acceptors.items c.self.inside.desks.items c.self.inside.callers.items c.self.inside.flow c.self.inside.record) c.gather_collection.result (council_view c.gather_collection.new.self) c.self.invariant.safe (may g c)
    (in_world c.self.inside.council.exchange c.requires.exchange (λ e. GathersCollectAs e (council_view c.self.inside.council) c.gather_collection.result (council_view c.gather_collection.new.self)) (may g c).is_open c.gather_collection.ensures.gathers))

pub invariant_of-self : goal.invariant_of-self
invariant_of-self g c =
    council_world (view_of c.self.inside.setup.proposers c.self.inside.council c.self.inside.acceptors.items c.self.inside.desks.items c.self.inside.callers.items c.self.inside.flow c.self.inside.record) _ c.self.inside.callers.items c.self.inside.record.room c.self.inside.record.room c.self.invariant refl
    (steps_are_safe (meaning g.S.Shelf g.V.Disk) _ step.GatherCollect _ c.self.invariant.safe (did g c).step_) (remembered_then (meaning g.S.Shelf g.V.Disk) step.GatherCollect (did g c).step_ c.self.invariant.remembered)
    (omega (arith, c.self.invariant.room, (did g c).reserves))

pub returns-clause-step : goal.returns-clause-step
returns-clause-step g c = seen_from (meaning g.S.Shelf g.V.Disk) step.GatherCollect _ c.self.view_is (did g c).step_

pub returns-clause-ok : goal.returns-clause-ok
returns-clause-ok g c = subst (λ (v : (View g.row.S.Denot g.row.V.Denot)). IfOk c.gather_collection.result (λ found. HasGathered v found (view_of c.self.inside.setup.proposers c.gather_collection.new.self c.self.inside.acceptors.items c.self.inside.desks.items c.self.inside.callers.items c.self.inside.flow c.self.inside.record))) c.self.view_is (did g c).ok

pub returns-clause-err : goal.returns-clause-err
returns-clause-err g c = (did g c).err

pub returns-clause-removed : goal.returns-clause-removed
returns-clause-removed g c shelves disks = subst (λ (v : (View g.row.S.Denot g.row.V.Denot)). AreRemovalsDone (meaning g.S.Shelf g.V.Disk) v (view_of c.self.inside.setup.proposers c.gather_collection.new.self c.self.inside.acceptors.items c.self.inside.desks.items c.self.inside.callers.items c.self.inside.flow c.self.inside.record)) c.self.view_is
    (λ exchange collection is_open asks is_collection at_end. removals_done (meaning g.S.Shelf g.V.Disk) shelves disks (view_of c.self.inside.setup.proposers c.self.inside.council c.self.inside.acceptors.items c.self.inside.desks.items c.self.inside.callers.items c.self.inside.flow c.self.inside.record) _ exchange collection (c.self.invariant.remembered shelves disks) (did g c).step_ is_open is_collection at_end)
