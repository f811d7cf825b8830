use Rattle.std.proofs.Common.{Err, ◌≡◌, ◌<◌, ℕ, Option, Some, slice_set, refl, sym, ap, subst, ◌∙◌, arith}
use Rattle.std.specs.Prelude.{⊤, IsSome, IfSome}
use Rattle.cas_model.specs.History.{IsRemembered}
use Rattle.cas_world.proofs.Calls.Told.{propose_cause, propose_above}
use Rattle.cas_flow.specs.Flow.{queue_at}
use Rattle.cas_model.specs.Step as step
use Rattle.cas_model.specs.Step.{StepPropose}
use Rattle.cas_model.specs.View.{View, IsAt, meaning, disk_meaning}
use Rattle.cas_model.proofs.Safety.Steps.{steps_are_safe}
use Rattle.cas_model.specs.Council.{reserved_by}
use Rattle.cas_world_calls.specs.Council.{council_view}
use Rattle.cas_world_calls.specs.Call.{over, with_proposal}
use Rattle.cas_world.specs.Calls.Reading.{Proposes, EndsShort, HasProposed}
use Rattle.cas_world.specs.World.{WasTold, view_of}
use Rattle.cas_world_calls.specs.declared.call.OpenCall.{OpenCall}
use Rattle.cas_world.proofs.Calls.Counts.{room_over}
use Rattle.cas_world.proofs.Parts.{seen_from, remembered_then}
use Rattle.cas_world.proofs.Calls.Proposes.{IsProposing, proposing_in, proposes, ends, not_done, idle_then, told_next, made_next, room_proposed, copies_made, has_proposed, was_told}
use Rattle.cas_world.proofs.Stops.Stops.{copies_idle}
use Rattle.cas_world.proofs.world.World.propose.Given.{Over}
use Rattle.cas_world.proofs.world.World.propose.Goals as goal

pub end_prepare-requires : goal.end_prepare-requires
end_prepare-requires g c = (proposing_in c.self.inside.setup.proposers c.self.inside.council c.self.inside.acceptors.items c.self.inside.desks.items c.self.inside.callers.items c.self.inside.flow c.self.inside.record c.args.self.now c.from-place.result c.args.proposer c.index_mut-desk.result.now c.index_mut-caller.result.now
    c.from-place.ensures c.self.view_is c.requires.known c.self.invariant c.index_mut-desk.ensures.value c.index_mut-caller.ensures.value c.requires.preparing).may

pub propose-requires-clause-open : goal.propose-requires-clause-open
propose-requires-clause-open g c = subst (λ (o : Option OpenCall). IsSome o) (sym (proposing_in c.self.inside.setup.proposers c.self.inside.council c.self.inside.acceptors.items c.self.inside.desks.items c.self.inside.callers.items c.self.inside.flow c.self.inside.record c.args.self.now c.from-place.result c.args.proposer c.index_mut-desk.result.now c.index_mut-caller.result.now
    c.from-place.ensures c.self.view_is c.requires.known c.self.invariant c.index_mut-desk.ensures.value c.index_mut-caller.ensures.value c.requires.preparing).may.is_open) refl

pub propose-requires-clause-reserved : goal.propose-requires-clause-reserved
propose-requires-clause-reserved g c =
    let is : IsProposing c.self.inside.desks.items c.self.inside.callers.items c.self.inside.flow c.args.proposer c.index_mut-desk.result.now c.index_mut-caller.result.now c.self.inside.record.room = proposing_in c.self.inside.setup.proposers c.self.inside.council c.self.inside.acceptors.items c.self.inside.desks.items c.self.inside.callers.items c.self.inside.flow c.self.inside.record c.args.self.now c.from-place.result c.args.proposer c.index_mut-desk.result.now c.index_mut-caller.result.now
    c.from-place.ensures c.self.view_is c.requires.known c.self.invariant c.index_mut-desk.ensures.value c.index_mut-caller.ensures.value c.requires.preparing in
    subst (λ (o : Option OpenCall). IfSome o (λ call. 0 < call.reserved)) (sym is.may.is_open) is.reserved

pub propose-requires-clause-room : goal.propose-requires-clause-room
propose-requires-clause-room g c = (proposing_in c.self.inside.setup.proposers c.self.inside.council c.self.inside.acceptors.items c.self.inside.desks.items c.self.inside.callers.items c.self.inside.flow c.self.inside.record c.args.self.now c.from-place.result c.args.proposer c.index_mut-desk.result.now c.index_mut-caller.result.now
    c.from-place.ensures c.self.view_is c.requires.known c.self.invariant c.index_mut-desk.ensures.value c.index_mut-caller.ensures.value c.requires.preparing).room

pub end_round-requires-clause-open : goal.end_round-requires-clause-open
end_round-requires-clause-open g c = subst (λ (o : Option OpenCall). IsSome o) (sym (proposing_in c.self.inside.setup.proposers c.self.inside.council c.self.inside.acceptors.items c.self.inside.desks.items c.self.inside.callers.items c.self.inside.flow c.self.inside.record c.args.self.now c.from-place.result c.args.proposer c.index_mut-desk.result.now c.index_mut-caller.result.now
    c.from-place.ensures c.self.view_is c.requires.known c.self.invariant c.index_mut-desk.ensures.value c.index_mut-caller.ensures.value c.requires.preparing).may.is_open) refl

pub end_round-requires-clause-copied : goal.end_round-requires-clause-copied
end_round-requires-clause-copied g c =
    let is : IsProposing c.self.inside.desks.items c.self.inside.callers.items c.self.inside.flow c.args.proposer c.index_mut-desk.result.now c.index_mut-caller.result.now c.self.inside.record.room = proposing_in c.self.inside.setup.proposers c.self.inside.council c.self.inside.acceptors.items c.self.inside.desks.items c.self.inside.callers.items c.self.inside.flow c.self.inside.record c.args.self.now c.from-place.result c.args.proposer c.index_mut-desk.result.now c.index_mut-caller.result.now
    c.from-place.ensures c.self.view_is c.requires.known c.self.invariant c.index_mut-desk.ensures.value c.index_mut-caller.ensures.value c.requires.preparing in
    not_done (disk_meaning g.V.Disk) is.may.round c.index_mut-desk.result.now c.end_prepare.new.desk c.in-Err.refusal (c.in-Err.ensures.ends is.may.round is.may.is_round)

-- ---- what was read is proposed
found : (g : Over) (c : goal.After-self-in-Ok-1 g) → IsProposing c.self.inside.desks.items c.self.inside.callers.items c.self.inside.flow c.args.proposer c.index_mut-desk.result.now c.index_mut-caller.result.now c.self.inside.record.room
found g c = proposing_in c.self.inside.setup.proposers c.self.inside.council c.self.inside.acceptors.items c.self.inside.desks.items c.self.inside.callers.items c.self.inside.flow c.self.inside.record c.args.self.now c.from-place.result c.args.proposer c.index_mut-desk.result.now c.index_mut-caller.result.now
    c.from-place.ensures c.self.view_is c.requires.known c.self.invariant c.index_mut-desk.ensures.value c.index_mut-caller.ensures.value c.requires.preparing

by : (g : Over) (c : goal.After-self-in-Ok-1 g) → Proposes (disk_meaning g.V.Disk) c.args.proposer c.index_mut-caller.result.now.number (found g c).may.round (found g c).may.call c.index_mut-desk.result.now c.end_prepare.new.desk c.self.inside.flow c.end_prepare.new.flow c.in-Ok.proposing
by g c = c.in-Ok.ensures.proposes (found g c).may.round (found g c).may.is_round (found g c).may.call (found g c).may.is_open

next_is : (g : Over) (c : goal.After-self-in-Ok-1 g) → c.propose.new.self ≡ record c.index_mut-caller.result.now { call = Some (with_proposal (found g c).may.call c.in-Ok.proposing) }
next_is g c = made_next c.index_mut-caller.result.now c.propose.new.self (found g c).may.call c.in-Ok.proposing (found g c).may.is_open c.propose.ensures.call

step_is : (g : Over) (c : goal.After-self-in-Ok-1 g) → StepPropose (meaning g.S.Shelf g.V.Disk) (view_of c.self.inside.setup.proposers c.self.inside.council c.self.inside.acceptors.items c.self.inside.desks.items c.self.inside.callers.items c.self.inside.flow c.self.inside.record) c.args.proposer
    (view_of c.self.inside.setup.proposers c.self.inside.council c.self.inside.acceptors.items (slice_set c.self.inside.desks.items c.from-place.result c.end_prepare.new.desk) (slice_set c.self.inside.callers.items c.from-place.result c.propose.new.self) c.end_prepare.new.flow c.propose.new.record)
step_is g c =
    subst (λ (i : ℕ). StepPropose (meaning g.S.Shelf g.V.Disk) (view_of c.self.inside.setup.proposers c.self.inside.council c.self.inside.acceptors.items c.self.inside.desks.items c.self.inside.callers.items c.self.inside.flow c.self.inside.record) c.args.proposer
    (view_of c.self.inside.setup.proposers c.self.inside.council c.self.inside.acceptors.items (slice_set c.self.inside.desks.items i c.end_prepare.new.desk) (slice_set c.self.inside.callers.items i c.propose.new.self) c.end_prepare.new.flow c.propose.new.record)) (sym c.from-place.ensures)
    (proposes (meaning g.S.Shelf g.V.Disk) c.self.inside.setup.proposers c.self.inside.council c.self.inside.acceptors.items c.self.inside.desks.items c.self.inside.callers.items c.self.inside.flow c.end_prepare.new.flow c.self.inside.record c.propose.new.record c.args.proposer c.index_mut-desk.result.now c.end_prepare.new.desk c.index_mut-caller.result.now c.propose.new.self c.in-Ok.proposing
    (ap (λ (v : View _ _). (queue_at v.flow c.args.proposer).messages) c.self.view_is ∙ c.requires.preparing.none_waits) (found g c) (by g c) (next_is g c) c.propose.ensures.marks)

pub invariant_of-self : goal.invariant_of-self
invariant_of-self g c = record {
  safe = steps_are_safe _ _ (step.Propose c.args.proposer) _ c.self.invariant.safe (step_is g c);
  remembered = remembered_then _ (step.Propose c.args.proposer) (step_is g c) c.self.invariant.remembered;
  room = room_proposed (reserved_by (council_view c.self.inside.council)) c.self.inside.callers.items c.from-place.result c.index_mut-caller.result.now c.propose.new.self (found g c).may.call c.in-Ok.proposing c.self.inside.record.room c.propose.new.record.room
      (subst (λ (i : ℕ). IsAt c.self.inside.callers.items i c.index_mut-caller.result.now) (sym c.from-place.ensures) (found g c).at_caller) (found g c).may.is_open (next_is g c) (found g c).reserved c.propose.ensures.room c.self.invariant.room;
  copies = copies_made (disk_meaning g.V.Disk) c.self.inside.desks.items c.self.inside.callers.items c.from-place.result c.args.proposer c.index_mut-caller.result.now.number (found g c).may.round (found g c).may.call c.index_mut-desk.result.now c.end_prepare.new.desk c.index_mut-caller.result.now c.propose.new.self c.self.inside.flow c.end_prepare.new.flow c.in-Ok.proposing
      (by g c) (next_is g c) c.self.invariant.copies;
}

pub returns-in-Ok-clause-step : goal.returns-in-Ok-clause-step
returns-in-Ok-clause-step g c = seen_from _ (step.Propose c.args.proposer) _ c.self.view_is (step_is g c)

pub returns-in-Ok-clause-proposed : goal.returns-in-Ok-clause-proposed
returns-in-Ok-clause-proposed g c =
    subst (λ (i : ℕ). HasProposed (view_of c.self.inside.setup.proposers c.self.inside.council c.self.inside.acceptors.items (slice_set c.self.inside.desks.items i c.end_prepare.new.desk) (slice_set c.self.inside.callers.items i c.propose.new.self) c.end_prepare.new.flow c.propose.new.record) c.args.proposer) (sym c.from-place.ensures)
    (has_proposed (disk_meaning g.V.Disk) c.self.inside.setup.proposers c.self.inside.council c.self.inside.acceptors.items c.self.inside.desks.items c.self.inside.callers.items c.self.inside.flow c.end_prepare.new.flow c.propose.new.record c.args.proposer c.args.proposer c.index_mut-caller.result.now.number (found g c).may.round (found g c).may.call c.index_mut-desk.result.now c.end_prepare.new.desk c.index_mut-caller.result.now c.propose.new.self c.in-Ok.proposing
    (found g c).at_desk (found g c).at_caller (by g c) (next_is g c))

-- ---- the round ends without a proposal
found_short : (g : Over) (c : goal.After-self-in-Err-1 g) → IsProposing c.self.inside.desks.items c.self.inside.callers.items c.self.inside.flow c.args.proposer c.index_mut-desk.result.now c.index_mut-caller.result.now c.self.inside.record.room
found_short g c = proposing_in c.self.inside.setup.proposers c.self.inside.council c.self.inside.acceptors.items c.self.inside.desks.items c.self.inside.callers.items c.self.inside.flow c.self.inside.record c.args.self.now c.from-place.result c.args.proposer c.index_mut-desk.result.now c.index_mut-caller.result.now
    c.from-place.ensures c.self.view_is c.requires.known c.self.invariant c.index_mut-desk.ensures.value c.index_mut-caller.ensures.value c.requires.preparing

short : (g : Over) (c : goal.After-self-in-Err-1 g) → EndsShort (disk_meaning g.V.Disk) (found_short g c).may.round c.index_mut-desk.result.now c.end_prepare.new.desk c.in-Err.refusal
short g c = c.in-Err.ensures.ends (found_short g c).may.round (found_short g c).may.is_round

over_is : (g : Over) (c : goal.After-self-in-Err-1 g) → c.end_round.new.self ≡ record c.index_mut-caller.result.now { call = Some (over (found_short g c).may.call c.in-Err.refusal) }
over_is g c = told_next c.index_mut-caller.result.now c.end_round.new.self (found_short g c).may.call c.in-Err.refusal (found_short g c).may.is_open c.end_round.ensures

step_short : (g : Over) (c : goal.After-self-in-Err-1 g) → StepPropose (meaning g.S.Shelf g.V.Disk) (view_of c.self.inside.setup.proposers c.self.inside.council c.self.inside.acceptors.items c.self.inside.desks.items c.self.inside.callers.items c.self.inside.flow c.self.inside.record) c.args.proposer
    (view_of c.self.inside.setup.proposers c.self.inside.council c.self.inside.acceptors.items (slice_set c.self.inside.desks.items c.from-place.result c.end_prepare.new.desk) (slice_set c.self.inside.callers.items c.from-place.result c.end_round.new.self) c.end_prepare.new.flow c.self.inside.record)
step_short g c =
    subst (λ (i : ℕ). StepPropose (meaning g.S.Shelf g.V.Disk) (view_of c.self.inside.setup.proposers c.self.inside.council c.self.inside.acceptors.items c.self.inside.desks.items c.self.inside.callers.items c.self.inside.flow c.self.inside.record) c.args.proposer
    (view_of c.self.inside.setup.proposers c.self.inside.council c.self.inside.acceptors.items (slice_set c.self.inside.desks.items i c.end_prepare.new.desk) (slice_set c.self.inside.callers.items i c.end_round.new.self) c.end_prepare.new.flow c.self.inside.record)) (sym c.from-place.ensures)
    (ends (meaning g.S.Shelf g.V.Disk) c.self.inside.setup.proposers c.self.inside.council c.self.inside.acceptors.items c.self.inside.desks.items c.self.inside.callers.items c.self.inside.flow c.end_prepare.new.flow c.self.inside.record c.args.proposer c.index_mut-desk.result.now c.end_prepare.new.desk c.index_mut-caller.result.now c.end_round.new.self c.in-Err.refusal
    (ap (λ (v : View _ _). (queue_at v.flow c.args.proposer).messages) c.self.view_is ∙ c.requires.preparing.none_waits) (found_short g c) (short g c) c.in-Err.ensures.not_sent (over_is g c))

pub invariant_of-self-in-Err : goal.invariant_of-self-in-Err
invariant_of-self-in-Err g c = record {
  safe = steps_are_safe _ _ (step.Propose c.args.proposer) _ c.self.invariant.safe (step_short g c);
  remembered = remembered_then _ (step.Propose c.args.proposer) (step_short g c) c.self.invariant.remembered;
  room = room_over (reserved_by (council_view c.self.inside.council)) c.self.inside.callers.items c.from-place.result c.index_mut-caller.result.now c.end_round.new.self (found_short g c).may.call c.in-Err.refusal c.self.inside.record.room c.self.inside.record.room 0
      (subst (λ (i : ℕ). IsAt c.self.inside.callers.items i c.index_mut-caller.result.now) (sym c.from-place.ensures) (found_short g c).at_caller) (found_short g c).may.is_open (over_is g c) (omega (arith, (found_short g c).reserved)) (omega arith) c.self.invariant.room;
  copies = copies_idle c.self.inside.desks.items c.self.inside.callers.items c.from-place.result c.end_prepare.new.desk c.end_round.new.self (idle_then (disk_meaning g.V.Disk) (found_short g c).may.round c.index_mut-desk.result.now c.end_prepare.new.desk c.in-Err.refusal (short g c)) c.self.invariant.copies;
}

pub returns-in-Err-clause-step : goal.returns-in-Err-clause-step
returns-in-Err-clause-step g c = seen_from _ (step.Propose c.args.proposer) _ c.self.view_is (step_short g c)

pub returns-in-Err-clause-told : goal.returns-in-Err-clause-told
returns-in-Err-clause-told g c seen at_seen =
    subst (λ (i : ℕ). WasTold (view_of c.self.inside.setup.proposers c.self.inside.council c.self.inside.acceptors.items (slice_set c.self.inside.desks.items i c.end_prepare.new.desk) (slice_set c.self.inside.callers.items i c.end_round.new.self) c.end_prepare.new.flow c.self.inside.record) c.args.proposer seen.number c.in-Err.refusal) (sym c.from-place.ensures)
    (was_told c.self.inside.setup.proposers c.self.inside.council c.self.inside.acceptors.items c.self.inside.desks.items c.self.inside.callers.items c.self.inside.flow c.self.inside.record c.args.self.now (slice_set c.self.inside.desks.items c.args.proposer c.end_prepare.new.desk) c.end_prepare.new.flow c.self.inside.record c.args.proposer seen c.index_mut-caller.result.now c.end_round.new.self (found_short g c).may.call c.in-Err.refusal
    c.self.view_is at_seen (found_short g c).at_caller (over_is g c))

pub returns-in-Err-clause-cause : goal.returns-in-Err-clause-cause
returns-in-Err-clause-cause g c = propose_cause {A = ⊤} (meaning g.S.Shelf g.V.Disk) c.args.self.now _ c.args.proposer (Err c.in-Err.refusal) (returns-in-Err-clause-step g c) (returns-in-Err-clause-told g c)

pub returns-in-Err-clause-above : goal.returns-in-Err-clause-above
returns-in-Err-clause-above g c shelves vaults = propose_above {A = ⊤} (meaning g.S.Shelf g.V.Disk) c.args.self.now _ c.args.proposer (Err c.in-Err.refusal) (returns-in-Err-clause-step g c) (returns-in-Err-clause-told g c) shelves vaults
    (subst (λ (v : View _ _). IsRemembered (meaning g.S.Shelf g.V.Disk) v) c.self.view_is (c.self.invariant.remembered shelves vaults))
