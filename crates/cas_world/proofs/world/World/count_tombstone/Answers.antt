use Rattle.std.proofs.Common.{◌≡◌, refl, sym, ap, subst, ◌∙◌, arith, slice_set}
use Rattle.std.specs.Prelude.{is_some}
use Rattle.cas_flow.specs.Flow.{queue_at}
use Rattle.cas_proposer.specs.Desk.{DeskView}
use Rattle.cas_model.specs.Step as step
use Rattle.cas_model.specs.Step.{Step, StepCount}
use Rattle.cas_model.specs.View.{View, IsAt, meaning, disk_meaning}
use Rattle.cas_model.proofs.Places.{at_one}
use Rattle.cas_model.proofs.Safety.Steps.{steps_are_safe}
use Rattle.cas_world.specs.Collection.Collect.{CountsTombstone, IsCollectingCall}
use Rattle.cas_world.specs.Calls.Count.{Counts}
use Rattle.cas_world.specs.World.{view_of}
use Rattle.cas_world.proofs.Collection.Collects.{not_acknowledged, counts_collect, counts_tombstone, counted_room}
use Rattle.cas_world.proofs.Calls.Counts.{IsCounting, counting, counted, quorum_of}
use Rattle.cas_world.proofs.Parts.{at_place, remembered_then}
use Rattle.cas_world.proofs.Calls.Proposes.{was_told}
use Rattle.cas_world.proofs.Eras.Planning.{none_there}
use Rattle.cas_world.proofs.Stops.Stops.{copies_idle}
use Rattle.cas_world.proofs.world.World.count_tombstone.Given.{Over}
use Rattle.cas_world.proofs.world.World.count_tombstone.Goals as goal
use Rattle.cas_world.proofs.world.World.count_tombstone.Goals.{After-count_round}

-- ---- no quorum accepted
pub returns-then-is_some-clause-step : goal.returns-then-is_some-clause-step
returns-then-is_some-clause-step g c =
    not_acknowledged (meaning g.S.Shelf g.V.Disk) c.args.self.now c.count.new.self c.index.result.now c.count.result c.verdict.result
    (subst (λ (v : (View g.row.S.Denot g.row.V.Denot)). IsAt v.desks 0 c.index.result.now) c.self.view_is (at_place c.self.inside.desks.items 0 0 c.index.result.now refl (omega (arith, c.self.invariant.safe.sound.desks)) c.index.ensures))
    (λ round is. c.verdict.ensures.quorum round is) (ap is_some (sym c.cause_by.ensures) ∙ sym c.if-is_some.ensures) c.count.ensures.step c.count.ensures.told

-- ---- a quorum accepted
pub acknowledge-answer-requires : goal.acknowledge-answer-requires
acknowledge-answer-requires g c = (counting c.self.inside.setup.proposers c.self.inside.council c.self.inside.acceptors.items c.self.inside.desks.items c.self.inside.callers.items c.self.inside.flow c.self.inside.record c.args.self.now 0 0 c.index_mut-desk.result.now c.index_mut-caller.result.now refl c.self.view_is (omega arith) c.self.invariant c.index_mut-desk.ensures.value c.index_mut-caller.ensures.value c.requires.counting).may

found : (g : Over) (c : After-count_round g) → IsCounting c.self.inside.desks.items c.self.inside.callers.items 0 c.index_mut-desk.result.now c.index_mut-caller.result.now c.self.inside.record.room
found g c = counting c.self.inside.setup.proposers c.self.inside.council c.self.inside.acceptors.items c.self.inside.desks.items c.self.inside.callers.items c.self.inside.flow c.self.inside.record c.args.self.now 0 0 c.index_mut-desk.result.now c.index_mut-caller.result.now refl c.self.view_is (omega arith) c.self.invariant c.index_mut-desk.ensures.value c.index_mut-caller.ensures.value c.requires.counting

counts : (g : Over) (c : After-count_round g) → Counts (disk_meaning g.V.Disk) c.index_mut-desk.result.now c.acknowledge-answer.new.desk (found g c).may.round c.index_mut-caller.result.now c.acknowledge-answer.new.caller (found g c).may.call (found g c).may.outcome c.self.inside.record c.acknowledge-answer.new.record c.acknowledge-answer.result
counts g c = c.acknowledge-answer.ensures (found g c).may.round (found g c).may.is_round (found g c).may.call (found g c).may.is_open (found g c).may.outcome (found g c).may.proposed

calling : (g : Over) (c : After-count_round g) → IsCollectingCall (view_of c.self.inside.setup.proposers c.self.inside.council c.self.inside.acceptors.items c.self.inside.desks.items c.self.inside.callers.items c.self.inside.flow c.self.inside.record)
calling g c = subst (λ (v : (View g.row.S.Denot g.row.V.Denot)). IsCollectingCall v) (sym c.self.view_is) c.requires.calling

same_desk : (g : Over) (c : After-count_round g) → c.index.result.now ≡ c.index_mut-desk.result.now
same_desk g c = at_one c.self.inside.desks.items 0 (at_place c.self.inside.desks.items 0 0 c.index.result.now refl (omega (arith, c.self.invariant.safe.sound.desks)) c.index.ensures) (found g c).at_desk

steps : (g : Over) (c : After-count_round g) → StepCount (meaning g.S.Shelf g.V.Disk) (view_of c.self.inside.setup.proposers c.self.inside.council c.self.inside.acceptors.items c.self.inside.desks.items c.self.inside.callers.items c.self.inside.flow c.self.inside.record) 0 (view_of c.self.inside.setup.proposers c.self.inside.council c.self.inside.acceptors.items (slice_set c.self.inside.desks.items 0 c.acknowledge-answer.new.desk) (slice_set c.self.inside.callers.items 0 c.acknowledge-answer.new.caller) c.self.inside.flow c.acknowledge-answer.new.record)
steps g c =
    counted (meaning g.S.Shelf g.V.Disk) c.self.inside.setup.proposers c.self.inside.council c.self.inside.acceptors.items c.self.inside.desks.items c.self.inside.callers.items c.self.inside.flow c.self.inside.record c.acknowledge-answer.new.record 0 c.index_mut-desk.result.now c.acknowledge-answer.new.desk c.index_mut-caller.result.now c.acknowledge-answer.new.caller c.acknowledge-answer.result
    (ap (λ (v : (View g.row.S.Denot g.row.V.Denot)). (queue_at v.flow 0).messages) c.self.view_is ∙ c.requires.counting.none_waits) (found g c)
    ((c.verdict.ensures.quorum (found g c).may.round (ap (λ (d : DeskView g.row.V.Denot). d.round) (same_desk g c) ∙ (found g c).may.is_round)).0 (quorum_of c.verdict.result (sym c.cause_by.ensures ∙ none_there c.cause_by.result (sym c.if-is_some.ensures)))) (counts g c)

did : (g : Over) (c : After-count_round g) → Step (meaning g.S.Shelf g.V.Disk) (view_of c.self.inside.setup.proposers c.self.inside.council c.self.inside.acceptors.items c.self.inside.desks.items c.self.inside.callers.items c.self.inside.flow c.self.inside.record) step.CountCollect (view_of c.self.inside.setup.proposers c.count_round.new.self c.self.inside.acceptors.items (slice_set c.self.inside.desks.items 0 c.acknowledge-answer.new.desk) (slice_set c.self.inside.callers.items 0 c.acknowledge-answer.new.caller) c.self.inside.flow c.acknowledge-answer.new.record)
did g c = counts_collect (meaning g.S.Shelf g.V.Disk) c.self.inside.setup.proposers c.self.inside.council c.count_round.new.self c.self.inside.acceptors.items c.self.inside.desks.items c.self.inside.callers.items c.self.inside.flow c.self.inside.record c.acknowledge-answer.new.record c.index_mut-desk.result.now c.acknowledge-answer.new.desk c.index_mut-caller.result.now c.acknowledge-answer.new.caller c.acknowledge-answer.result (found g c) (counts g c) c.self.invariant.safe (calling g c) (steps g c) c.count_round.ensures.eras c.confirmers-by.result (c.confirmers-by.ensures.shown (found g c).may.round (found g c).may.is_round) c.count_round.ensures.counted

pub invariant_of-self : goal.invariant_of-self
invariant_of-self g c = record {
  safe = steps_are_safe (meaning g.S.Shelf g.V.Disk) _ step.CountCollect _ c.self.invariant.safe (did g c);
  remembered = remembered_then (meaning g.S.Shelf g.V.Disk) step.CountCollect (did g c) c.self.invariant.remembered;
  room = counted_room (meaning g.S.Shelf g.V.Disk) c.self.inside.setup.proposers c.self.inside.council c.count_round.new.self c.self.inside.acceptors.items c.self.inside.desks.items c.self.inside.callers.items c.self.inside.flow c.self.inside.record c.acknowledge-answer.new.record c.index_mut-desk.result.now c.acknowledge-answer.new.desk c.index_mut-caller.result.now c.acknowledge-answer.new.caller c.acknowledge-answer.result (found g c) (counts g c) c.self.invariant.safe (calling g c) (steps g c) c.count_round.ensures.eras c.confirmers-by.result c.count_round.ensures.counted c.self.invariant.room;
  copies = copies_idle c.self.inside.desks.items c.self.inside.callers.items 0 c.acknowledge-answer.new.desk c.acknowledge-answer.new.caller (ap (λ (d : DeskView g.row.V.Denot). d.round) (counts g c).ends.desk) c.self.invariant.copies;
}

pub returns-clause-step : goal.returns-clause-step
returns-clause-step g c = subst (λ (v : (View g.row.S.Denot g.row.V.Denot)). CountsTombstone (meaning g.S.Shelf g.V.Disk) v c.acknowledge-answer.result (view_of c.self.inside.setup.proposers c.count_round.new.self c.self.inside.acceptors.items (slice_set c.self.inside.desks.items 0 c.acknowledge-answer.new.desk) (slice_set c.self.inside.callers.items 0 c.acknowledge-answer.new.caller) c.self.inside.flow c.acknowledge-answer.new.record)) c.self.view_is (counts_tombstone (meaning g.S.Shelf g.V.Disk) c.self.inside.setup.proposers c.self.inside.council c.count_round.new.self c.self.inside.acceptors.items c.self.inside.desks.items c.self.inside.callers.items c.self.inside.flow c.self.inside.record c.acknowledge-answer.new.record c.index_mut-desk.result.now c.acknowledge-answer.new.desk c.index_mut-caller.result.now c.acknowledge-answer.new.caller c.acknowledge-answer.result (found g c) (counts g c) c.self.invariant.safe (calling g c) (steps g c) c.count_round.ensures.eras (did g c))

pub returns-clause-told : goal.returns-clause-told
returns-clause-told g c seen at_seen =
    let told = was_told c.self.inside.setup.proposers c.self.inside.council c.self.inside.acceptors.items c.self.inside.desks.items c.self.inside.callers.items c.self.inside.flow c.self.inside.record c.args.self.now (slice_set c.self.inside.desks.items 0 c.acknowledge-answer.new.desk) c.self.inside.flow c.acknowledge-answer.new.record 0 seen c.index_mut-caller.result.now c.acknowledge-answer.new.caller (found g c).may.call c.acknowledge-answer.result
    c.self.view_is at_seen (found g c).at_caller (counts g c).caller_is in
    record { caller = told.caller; at_caller = told.at_caller; same_number = told.same_number; call = told.call; is_open = told.is_open; told = told.told }
