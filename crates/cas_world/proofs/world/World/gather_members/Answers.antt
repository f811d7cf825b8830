use Rattle.std.proofs.Common.{◌≡◌, ◌<◌, Some, refl, ap, subst, ◌∙◌, arith}
use Rattle.std.specs.Prelude.{IfOk, IfSome}
use Rattle.cas_quorum.specs.Era.{Meet}
use Rattle.cas_model.specs.Council.{exchange_place}
use Rattle.cas_model.specs.Step as step
use Rattle.cas_model.specs.Exchanges.Step.{StepGather}
use Rattle.cas_flow.specs.Flow.{queue_at}
use Rattle.cas_model.specs.View.{View, era_in, meaning}
use Rattle.cas_model.proofs.Safety.Steps.{steps_are_safe}
use Rattle.cas_world_calls.specs.Council.{council_view, MayList, left_to_list}
use Rattle.cas_world_calls.specs.Read.{GathersIn, MarksFit}
use Rattle.cas_world.specs.Exchanges.Exchange.{HasGathered}
use Rattle.cas_world.specs.World.{view_of}
use Rattle.cas_world.proofs.Exchanges.Exchanges.{council_world, gathers_in_so, gathered_in_reserves, gathered_in_ok, gathered_in_less, gathered_in_err, gathered_in_stops, marks_fit, read_meets, open_code, in_code, in_world, may_list}
use Rattle.cas_world.proofs.Parts.{seen_from, remembered_then}
use Rattle.cas_world.proofs.world.World.gather_members.Given.{Over}
use Rattle.cas_world.proofs.world.World.gather_members.Goals as goal
use Rattle.cas_world.proofs.world.World.gather_members.Goals.{After-gather}

pub gather-requires-clause-open : goal.gather-requires-clause-open
gather-requires-clause-open g c =
    open_code c.self.inside.council.exchange c.requires.may.exchange (ap (λ (v : View g.row.S.Denot g.row.V.Denot). v.council.exchange) c.self.view_is ∙ c.requires.may.is_open)

pub gather-requires-clause-lists : goal.gather-requires-clause-lists
gather-requires-clause-lists g c =
    let is_open = ap (λ (v : View g.row.S.Denot g.row.V.Denot). v.council.exchange) c.self.view_is ∙ c.requires.may.is_open in
    in_code (λ e. MayList e.question (council_view c.self.inside.council).plan) c.self.inside.council.exchange c.requires.may.exchange is_open
    (may_list (view_of c.self.inside.setup.proposers c.self.inside.council c.self.inside.acceptors.items c.self.inside.desks.items c.self.inside.callers.items c.self.inside.flow c.self.inside.record) c.requires.may.exchange c.requires.may.exchange.question c.self.invariant.safe c.requires.may.beside is_open refl)

pub gather-requires-clause-room : goal.gather-requires-clause-room
gather-requires-clause-room g c =
    let is_open = ap (λ (v : View g.row.S.Denot g.row.V.Denot). v.council.exchange) c.self.view_is ∙ c.requires.may.is_open in
    in_code (λ e. MarksFit e c.self.inside.record) c.self.inside.council.exchange c.requires.may.exchange is_open
    (marks_fit (view_of c.self.inside.setup.proposers c.self.inside.council c.self.inside.acceptors.items c.self.inside.desks.items c.self.inside.callers.items c.self.inside.flow c.self.inside.record) c.requires.may.exchange c.self.inside.record c.self.invariant.safe is_open c.self.invariant.room)

pub gather-requires-clause-meets : goal.gather-requires-clause-meets
gather-requires-clause-meets g c =
    let is_open = ap (λ (v : View g.row.S.Denot g.row.V.Denot). v.council.exchange) c.self.view_is ∙ c.requires.may.is_open in
    in_code (λ e. IfSome e.reads (λ era. Meet era era)) c.self.inside.council.exchange c.requires.may.exchange is_open
    (read_meets (view_of c.self.inside.setup.proposers c.self.inside.council c.self.inside.acceptors.items c.self.inside.desks.items c.self.inside.callers.items c.self.inside.flow c.self.inside.record) c.requires.may.exchange c.self.invariant.safe is_open)

-- the exchange in the world
exchange_is : (g : Over) (c : After-gather g) → (council_view c.self.inside.council).exchange ≡ Some c.requires.may.exchange
exchange_is g c = ap (λ (v : View g.row.S.Denot g.row.V.Denot). v.council.exchange) c.self.view_is ∙ c.requires.may.is_open

gathers : (g : Over) (c : After-gather g) → GathersIn (era_in c.self.inside.council.eras.0 0) c.requires.may.exchange (council_view c.self.inside.council) c.self.inside.record c.gather.new.record c.gather.result (council_view c.gather.new.self)
gathers g c =
    in_world c.self.inside.council.exchange c.requires.may.exchange
    (λ e. GathersIn (era_in c.self.inside.council.eras.0 0) e (council_view c.self.inside.council) c.self.inside.record c.gather.new.record c.gather.result (council_view c.gather.new.self))
    (exchange_is g c) c.gather.ensures.gathers

step_so : (g : Over) (c : After-gather g) → StepGather (view_of c.self.inside.setup.proposers c.self.inside.council c.self.inside.acceptors.items c.self.inside.desks.items c.self.inside.callers.items c.self.inside.flow c.self.inside.record) (view_of c.self.inside.setup.proposers c.gather.new.self c.self.inside.acceptors.items c.self.inside.desks.items c.self.inside.callers.items c.self.inside.flow c.gather.new.record)
step_so g c = record {
  at = record { exchange = c.requires.may.exchange; is_open = exchange_is g c };
  none_waits = ap (λ (v : View g.row.S.Denot g.row.V.Denot). (queue_at v.flow exchange_place).messages) c.self.view_is ∙ c.requires.may.none_waits;
  gathers = gathers_in_so c.self.inside.setup.proposers c.self.inside.council c.gather.new.self c.self.inside.acceptors.items c.self.inside.desks.items c.self.inside.callers.items c.self.inside.flow c.self.inside.record c.gather.new.record c.requires.may.exchange c.gather.result c.self.invariant.safe (exchange_is g c) (gathers g c) c.gather.ensures.eras;
}

pub invariant_of-self : goal.invariant_of-self
invariant_of-self g c =
    council_world (view_of c.self.inside.setup.proposers c.self.inside.council c.self.inside.acceptors.items c.self.inside.desks.items c.self.inside.callers.items c.self.inside.flow c.self.inside.record) _ c.self.inside.callers.items c.self.inside.record.room c.gather.new.record.room c.self.invariant refl
    (steps_are_safe (meaning g.S.Shelf g.V.Disk) _ step.Gather _ c.self.invariant.safe (step_so g c)) (remembered_then (meaning g.S.Shelf g.V.Disk) step.Gather (step_so g c) c.self.invariant.remembered)
    (omega (arith, c.self.invariant.room, gathered_in_reserves (era_in c.self.inside.council.eras.0 0) (view_of c.self.inside.setup.proposers c.self.inside.council c.self.inside.acceptors.items c.self.inside.desks.items c.self.inside.callers.items c.self.inside.flow c.self.inside.record) c.requires.may.exchange (council_view c.gather.new.self) c.self.inside.record c.gather.new.record c.gather.result c.self.invariant.safe (exchange_is g c) (gathers g c)))

pub returns-clause-step : goal.returns-clause-step
returns-clause-step g c = seen_from (meaning g.S.Shelf g.V.Disk) step.Gather _ c.self.view_is (step_so g c)

pub returns-clause-ok : goal.returns-clause-ok
returns-clause-ok g c =
    subst (λ (v : View g.row.S.Denot g.row.V.Denot). IfOk c.gather.result (λ found. HasGathered v found (view_of c.self.inside.setup.proposers c.gather.new.self c.self.inside.acceptors.items c.self.inside.desks.items c.self.inside.callers.items c.self.inside.flow c.gather.new.record))) c.self.view_is
    (gathered_in_ok (era_in c.self.inside.council.eras.0 0) (view_of c.self.inside.setup.proposers c.self.inside.council c.self.inside.acceptors.items c.self.inside.desks.items c.self.inside.callers.items c.self.inside.flow c.self.inside.record) (view_of c.self.inside.setup.proposers c.gather.new.self c.self.inside.acceptors.items c.self.inside.desks.items c.self.inside.callers.items c.self.inside.flow c.gather.new.record) c.requires.may.order c.requires.may.exchange c.self.inside.record c.gather.new.record c.gather.result c.self.invariant.safe (ap (λ (v : View g.row.S.Denot g.row.V.Denot). v.council.order) c.self.view_is ∙ c.requires.may.is_order) (exchange_is g c) (gathers g c))

pub returns-clause-less : goal.returns-clause-less
returns-clause-less g c more =
    subst (λ (v : View g.row.S.Denot g.row.V.Denot). left_to_list (council_view c.gather.new.self).plan < left_to_list v.council.plan) c.self.view_is
    (gathered_in_less (era_in c.self.inside.council.eras.0 0) c.requires.may.exchange (council_view c.self.inside.council) (council_view c.gather.new.self) c.self.inside.record c.gather.new.record c.gather.result (gathers g c) more)

pub returns-clause-err : goal.returns-clause-err
returns-clause-err g c = gathered_in_err (era_in c.self.inside.council.eras.0 0) (view_of c.self.inside.setup.proposers c.self.inside.council c.self.inside.acceptors.items c.self.inside.desks.items c.self.inside.callers.items c.self.inside.flow c.self.inside.record) (view_of c.self.inside.setup.proposers c.gather.new.self c.self.inside.acceptors.items c.self.inside.desks.items c.self.inside.callers.items c.self.inside.flow c.gather.new.record) c.requires.may.order c.requires.may.exchange c.self.inside.record c.gather.new.record c.gather.result (ap (λ (v : View g.row.S.Denot g.row.V.Denot). v.council.order) c.self.view_is ∙ c.requires.may.is_order) (gathers g c)

pub returns-clause-stopped : goal.returns-clause-stopped
returns-clause-stopped g c =
    gathered_in_stops (era_in c.self.inside.council.eras.0 0) c.requires.may.exchange (council_view c.self.inside.council)
    (council_view c.gather.new.self) c.self.inside.record c.gather.new.record c.gather.result (gathers g c)
