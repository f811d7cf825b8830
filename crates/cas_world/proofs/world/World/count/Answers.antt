use Rattle.std.proofs.Common.{◌≡◌, ℕ, [], Option, None, Some, slice_set, refl, sym, ap, subst, ◌∙◌, arith}
use Rattle.std.specs.Prelude.{IsSome, IfSome}
use Rattle.cas_model.specs.History.{IsRemembered}
use Rattle.cas_world.proofs.Calls.Told.{count_cause, count_above}
use Rattle.cas_flow.specs.Flow.{queue_at}
use Rattle.cas_proposer.specs.Desk.{DeskView, counter_without}
use Rattle.cas_proposer.specs.declared.round.Round.{Round}
use Rattle.cas_record.specs.declared.answer.Answer.TheVariants as answer
use Rattle.cas_vault.specs.Vault.{counter_of}
use Rattle.cas_model.specs.Step as step
use Rattle.cas_model.specs.Step.{StepCount}
use Rattle.cas_model.specs.Calls.Desks.{EndsRound}
use Rattle.cas_model.specs.View.{View, IsAt, meaning, disk_meaning}
use Rattle.cas_model.proofs.Safety.Steps.{steps_are_safe}
use Rattle.cas_model.proofs.ViewLaws.{done_kept, dones_stand}
use Rattle.cas_model.specs.Council.{reserved_by}
use Rattle.cas_world_calls.specs.Council.{council_view}
use Rattle.cas_world_calls.specs.Call.{over}
use Rattle.cas_world.specs.Calls.Count.{Counts}
use Rattle.cas_world_calls.specs.declared.call.OpenCall.{OpenCall}
use Rattle.cas_world.specs.World.{WasTold, caller_view, view_of}
use Rattle.cas_world.proofs.Calls.Callers.{at_map}
use Rattle.cas_world.proofs.Calls.Counts.{IsCounting, counting, counted, fell_short, room_over, quorum_of}
use Rattle.cas_world.proofs.Parts.{seen_from, remembered_then}
use Rattle.cas_world.proofs.Calls.Proposes.{was_told}
use Rattle.cas_world.proofs.Stops.Stops.{end_goes_on, copies_idle}
use Rattle.cas_world.proofs.world.World.count.Given.{Over}
use Rattle.cas_world.proofs.world.World.count.Goals as goal

pub acknowledge-requires : goal.acknowledge-requires
acknowledge-requires g c = (counting c.self.inside.setup.proposers c.self.inside.council c.self.inside.acceptors.items c.self.inside.desks.items c.self.inside.callers.items c.self.inside.flow c.self.inside.record c.args.self.now c.from-place.result c.args.proposer c.index_mut-desk.result.now c.index_mut-caller.result.now
    c.from-place.ensures c.self.view_is c.requires.known c.self.invariant c.index_mut-desk.ensures.value c.index_mut-caller.ensures.value c.requires.counting).may

pub end-requires : goal.end-requires
end-requires g c = subst (λ (r : Option Round). IsSome r) (sym (counting c.self.inside.setup.proposers c.self.inside.council c.self.inside.acceptors.items c.self.inside.desks.items c.self.inside.callers.items c.self.inside.flow c.self.inside.record c.args.self.now c.from-place.result c.args.proposer c.index_mut-desk.result.now c.index_mut-caller.result.now
    c.from-place.ensures c.self.view_is c.requires.known c.self.invariant c.index_mut-desk.ensures.value c.index_mut-caller.ensures.value c.requires.counting).may.is_round) refl

pub end_round-requires-clause-open : goal.end_round-requires-clause-open
end_round-requires-clause-open g c = subst (λ (o : Option OpenCall). IsSome o) (sym (counting c.self.inside.setup.proposers c.self.inside.council c.self.inside.acceptors.items c.self.inside.desks.items c.self.inside.callers.items c.self.inside.flow c.self.inside.record c.args.self.now c.from-place.result c.args.proposer c.index_mut-desk.result.now c.index_mut-caller.result.now
    c.from-place.ensures c.self.view_is c.requires.known c.self.invariant c.index_mut-desk.ensures.value c.index_mut-caller.ensures.value c.requires.counting).may.is_open) refl

-- ---- a quorum accepted
found : (g : Over) (c : goal.After-self-in-None-1 g) → IsCounting c.self.inside.desks.items c.self.inside.callers.items c.args.proposer c.index_mut-desk.result.now c.index_mut-caller.result.now c.self.inside.record.room
found g c = counting c.self.inside.setup.proposers c.self.inside.council c.self.inside.acceptors.items c.self.inside.desks.items c.self.inside.callers.items c.self.inside.flow c.self.inside.record c.args.self.now c.from-place.result c.args.proposer c.index_mut-desk.result.now c.index_mut-caller.result.now
    c.from-place.ensures c.self.view_is c.requires.known c.self.invariant c.index_mut-desk.ensures.value c.index_mut-caller.ensures.value c.requires.counting

none_waits : (g : Over) (c : goal.After-self-in-None-1 g) → (queue_at c.self.inside.flow c.args.proposer).messages ≡ []
none_waits g c = ap (λ (v : View _ _). (queue_at v.flow c.args.proposer).messages) c.self.view_is ∙ c.requires.counting.none_waits

counts : (g : Over) (c : goal.After-self-in-None-1 g) → Counts (disk_meaning g.V.Disk) c.index_mut-desk.result.now c.acknowledge.new.desk (found g c).may.round c.index_mut-caller.result.now c.acknowledge.new.caller
    (found g c).may.call (found g c).may.outcome c.self.inside.record c.acknowledge.new.record c.acknowledge.result
counts g c = c.acknowledge.ensures (found g c).may.round (found g c).may.is_round (found g c).may.call (found g c).may.is_open (found g c).may.outcome (found g c).may.proposed

acknowledges : (g : Over) (c : goal.After-self-in-None-1 g) → StepCount (meaning g.S.Shelf g.V.Disk) (view_of c.self.inside.setup.proposers c.self.inside.council c.self.inside.acceptors.items c.self.inside.desks.items c.self.inside.callers.items c.self.inside.flow c.self.inside.record) c.args.proposer
    (view_of c.self.inside.setup.proposers c.self.inside.council c.self.inside.acceptors.items (slice_set c.self.inside.desks.items c.from-place.result c.acknowledge.new.desk) (slice_set c.self.inside.callers.items c.from-place.result c.acknowledge.new.caller) c.self.inside.flow c.acknowledge.new.record)
acknowledges g c =
    subst (λ (i : ℕ). StepCount (meaning g.S.Shelf g.V.Disk) (view_of c.self.inside.setup.proposers c.self.inside.council c.self.inside.acceptors.items c.self.inside.desks.items c.self.inside.callers.items c.self.inside.flow c.self.inside.record) c.args.proposer
    (view_of c.self.inside.setup.proposers c.self.inside.council c.self.inside.acceptors.items (slice_set c.self.inside.desks.items i c.acknowledge.new.desk) (slice_set c.self.inside.callers.items i c.acknowledge.new.caller) c.self.inside.flow c.acknowledge.new.record)) (sym c.from-place.ensures)
    (counted (meaning g.S.Shelf g.V.Disk) c.self.inside.setup.proposers c.self.inside.council c.self.inside.acceptors.items c.self.inside.desks.items c.self.inside.callers.items c.self.inside.flow c.self.inside.record c.acknowledge.new.record c.args.proposer c.index_mut-desk.result.now c.acknowledge.new.desk c.index_mut-caller.result.now c.acknowledge.new.caller c.acknowledge.result
    (none_waits g c) (found g c) ((c.verdict.ensures.quorum (found g c).may.round (found g c).may.is_round).0 (quorum_of c.verdict.result (sym c.in-None.ensures))) (counts g c))

pub invariant_of-self : goal.invariant_of-self
invariant_of-self g c = record {
  safe = steps_are_safe _ _ (step.Count c.args.proposer) _ c.self.invariant.safe (acknowledges g c);
  remembered = remembered_then _ (step.Count c.args.proposer) (acknowledges g c) c.self.invariant.remembered;
  room = room_over (reserved_by (council_view c.self.inside.council)) c.self.inside.callers.items c.from-place.result c.index_mut-caller.result.now c.acknowledge.new.caller (found g c).may.call c.acknowledge.result c.self.inside.record.room c.acknowledge.new.record.room 1
      (subst (λ (i : ℕ). IsAt c.self.inside.callers.items i c.index_mut-caller.result.now) (sym c.from-place.ensures) (found g c).at_caller) (found g c).may.is_open (counts g c).caller_is (omega (arith, (found g c).three)) (counts g c).room c.self.invariant.room;
  copies = copies_idle c.self.inside.desks.items c.self.inside.callers.items c.from-place.result c.acknowledge.new.desk c.acknowledge.new.caller (ap (λ (d : DeskView _). d.round) (counts g c).ends.desk) c.self.invariant.copies;
}

pub returns-in-None-clause-step : goal.returns-in-None-clause-step
returns-in-None-clause-step g c = seen_from _ (step.Count c.args.proposer) _ c.self.view_is (acknowledges g c)

pub returns-in-None-clause-told : goal.returns-in-None-clause-told
returns-in-None-clause-told g c seen at_seen =
    subst (λ (i : ℕ). WasTold (view_of c.self.inside.setup.proposers c.self.inside.council c.self.inside.acceptors.items (slice_set c.self.inside.desks.items i c.acknowledge.new.desk) (slice_set c.self.inside.callers.items i c.acknowledge.new.caller) c.self.inside.flow c.acknowledge.new.record) c.args.proposer seen.number c.acknowledge.result) (sym c.from-place.ensures)
    (was_told c.self.inside.setup.proposers c.self.inside.council c.self.inside.acceptors.items c.self.inside.desks.items c.self.inside.callers.items c.self.inside.flow c.self.inside.record c.args.self.now (slice_set c.self.inside.desks.items c.args.proposer c.acknowledge.new.desk) c.self.inside.flow c.acknowledge.new.record c.args.proposer seen c.index_mut-caller.result.now c.acknowledge.new.caller (found g c).may.call c.acknowledge.result
    c.self.view_is at_seen (found g c).at_caller (counts g c).caller_is)

pub returns-in-None-clause-kept : goal.returns-in-None-clause-kept
returns-in-None-clause-kept g c shelves vaults a stands above = done_kept _ shelves _ a (remembered_then _ (step.Count c.args.proposer) (acknowledges g c) c.self.invariant.remembered shelves vaults) stands above

pub returns-in-None-clause-done : goal.returns-in-None-clause-done
returns-in-None-clause-done g c shelves vaults state took ballot is =
    let m = meaning g.S.Shelf g.V.Disk in
    let told = returns-in-None-clause-told g c _ (subst (λ (v : View _ _). IsAt v.callers c.args.proposer (caller_view c.index_mut-caller.result.now)) c.self.view_is
    (at_map caller_view c.self.inside.callers.items c.args.proposer c.index_mut-caller.result.now (found g c).at_caller)) in
    dones_stand m shelves vaults c.args.self.now _ c.args.proposer told.caller told.call state took ballot (subst (IsRemembered m) c.self.view_is (c.self.invariant.remembered shelves vaults)) c.requires.known
    (returns-in-None-clause-step g c) told.at_caller told.is_open (told.told ∙ ap (λ a. Some a) is)

-- ---- no quorum accepted
found_short : (g : Over) (c : goal.After-self-in-Some-2-1 g) → IsCounting c.self.inside.desks.items c.self.inside.callers.items c.args.proposer c.index_mut-desk.result.now c.index_mut-caller.result.now c.self.inside.record.room
found_short g c = counting c.self.inside.setup.proposers c.self.inside.council c.self.inside.acceptors.items c.self.inside.desks.items c.self.inside.callers.items c.self.inside.flow c.self.inside.record c.args.self.now c.from-place.result c.args.proposer c.index_mut-desk.result.now c.index_mut-caller.result.now
    c.from-place.ensures c.self.view_is c.requires.known c.self.invariant c.index_mut-desk.ensures.value c.index_mut-caller.ensures.value c.requires.counting

ends : (g : Over) (c : goal.After-self-in-Some-2-1 g) → EndsRound (disk_meaning g.V.Disk) c.index_mut-desk.result.now c.end.new.self (found_short g c).may.round None
ends g c = record {
  desk = c.end.ensures.desk (found_short g c).may.round (found_short g c).may.is_round;
  counter = c.end.ensures.counter ∙ ap (λ (r : Option Round). counter_without r (counter_of c.index_mut-desk.result.now.vault)) (found_short g c).may.is_round;
  kept = c.end.ensures.kept;
  goes_on = end_goes_on _ c.index_mut-desk.result.now.vault c.end.new.self.vault c.end.ensures.kept c.end.ensures.disk c.end.ensures.still_past;
}

falls_short : (g : Over) (c : goal.After-self-in-Some-2-1 g) → StepCount (meaning g.S.Shelf g.V.Disk) (view_of c.self.inside.setup.proposers c.self.inside.council c.self.inside.acceptors.items c.self.inside.desks.items c.self.inside.callers.items c.self.inside.flow c.self.inside.record) c.args.proposer
    (view_of c.self.inside.setup.proposers c.self.inside.council c.self.inside.acceptors.items (slice_set c.self.inside.desks.items c.from-place.result c.end.new.self) (slice_set c.self.inside.callers.items c.from-place.result c.end_round.new.self) c.self.inside.flow c.self.inside.record)
falls_short g c =
    subst (λ (i : ℕ). StepCount (meaning g.S.Shelf g.V.Disk) (view_of c.self.inside.setup.proposers c.self.inside.council c.self.inside.acceptors.items c.self.inside.desks.items c.self.inside.callers.items c.self.inside.flow c.self.inside.record) c.args.proposer
    (view_of c.self.inside.setup.proposers c.self.inside.council c.self.inside.acceptors.items (slice_set c.self.inside.desks.items i c.end.new.self) (slice_set c.self.inside.callers.items i c.end_round.new.self) c.self.inside.flow c.self.inside.record)) (sym c.from-place.ensures)
    (fell_short (meaning g.S.Shelf g.V.Disk) c.self.inside.setup.proposers c.self.inside.council c.self.inside.acceptors.items c.self.inside.desks.items c.self.inside.callers.items c.self.inside.flow c.self.inside.record c.args.proposer c.index_mut-desk.result.now c.end.new.self c.index_mut-caller.result.now c.end_round.new.self c.verdict.result c.in-Some.why
    (ap (λ (v : View _ _). (queue_at v.flow c.args.proposer).messages) c.self.view_is ∙ c.requires.counting.none_waits) (found_short g c)
    (c.verdict.ensures.verdict (found_short g c).may.round (found_short g c).may.is_round) (sym c.in-Some.ensures) (ends g c) c.end_round.ensures)

caller_is : (g : Over) (c : goal.After-self-in-Some-2-1 g) → c.end_round.new.self ≡ record c.index_mut-caller.result.now { call = Some (over (found_short g c).may.call (answer.Unsettled c.in-Some.why)) }
caller_is g c = subst (λ (o : Option OpenCall). IfSome o (λ call. c.end_round.new.self ≡ record c.index_mut-caller.result.now { call = Some (over call (answer.Unsettled c.in-Some.why)) })) (found_short g c).may.is_open c.end_round.ensures

pub invariant_of-self-in-Some : goal.invariant_of-self-in-Some
invariant_of-self-in-Some g c = record {
  safe = steps_are_safe _ _ (step.Count c.args.proposer) _ c.self.invariant.safe (falls_short g c);
  remembered = remembered_then _ (step.Count c.args.proposer) (falls_short g c) c.self.invariant.remembered;
  room = room_over (reserved_by (council_view c.self.inside.council)) c.self.inside.callers.items c.from-place.result c.index_mut-caller.result.now c.end_round.new.self (found_short g c).may.call (answer.Unsettled c.in-Some.why) c.self.inside.record.room c.self.inside.record.room 0
      (subst (λ (i : ℕ). IsAt c.self.inside.callers.items i c.index_mut-caller.result.now) (sym c.from-place.ensures) (found_short g c).at_caller) (found_short g c).may.is_open (caller_is g c) (omega (arith, (found_short g c).three)) (omega arith) c.self.invariant.room;
  copies = copies_idle c.self.inside.desks.items c.self.inside.callers.items c.from-place.result c.end.new.self c.end_round.new.self (ap (λ (d : DeskView _). d.round) (ends g c).desk) c.self.invariant.copies;
}

pub returns-in-Some-clause-step : goal.returns-in-Some-clause-step
returns-in-Some-clause-step g c = seen_from _ (step.Count c.args.proposer) _ c.self.view_is (falls_short g c)

pub returns-in-Some-clause-told : goal.returns-in-Some-clause-told
returns-in-Some-clause-told g c seen at_seen =
    subst (λ (i : ℕ). WasTold (view_of c.self.inside.setup.proposers c.self.inside.council c.self.inside.acceptors.items (slice_set c.self.inside.desks.items i c.end.new.self) (slice_set c.self.inside.callers.items i c.end_round.new.self) c.self.inside.flow c.self.inside.record) c.args.proposer seen.number (answer.Unsettled c.in-Some.why)) (sym c.from-place.ensures)
    (was_told c.self.inside.setup.proposers c.self.inside.council c.self.inside.acceptors.items c.self.inside.desks.items c.self.inside.callers.items c.self.inside.flow c.self.inside.record c.args.self.now (slice_set c.self.inside.desks.items c.args.proposer c.end.new.self) c.self.inside.flow c.self.inside.record c.args.proposer seen c.index_mut-caller.result.now c.end_round.new.self (found_short g c).may.call (answer.Unsettled c.in-Some.why)
    c.self.view_is at_seen (found_short g c).at_caller (caller_is g c))

pub returns-in-Some-clause-kept : goal.returns-in-Some-clause-kept
returns-in-Some-clause-kept g c shelves vaults a stands above = done_kept _ shelves _ a (remembered_then _ (step.Count c.args.proposer) (falls_short g c) c.self.invariant.remembered shelves vaults) stands above

pub returns-in-None-clause-cause : goal.returns-in-None-clause-cause
returns-in-None-clause-cause g c = count_cause (meaning g.S.Shelf g.V.Disk) c.args.self.now _ c.args.proposer c.acknowledge.result (returns-in-None-clause-step g c) (returns-in-None-clause-told g c)

pub returns-in-None-clause-above : goal.returns-in-None-clause-above
returns-in-None-clause-above g c shelves vaults = count_above (meaning g.S.Shelf g.V.Disk) c.args.self.now _ c.args.proposer c.acknowledge.result (returns-in-None-clause-step g c) (returns-in-None-clause-told g c) shelves vaults
    (subst (λ (v : View _ _). IsRemembered (meaning g.S.Shelf g.V.Disk) v) c.self.view_is (c.self.invariant.remembered shelves vaults))

pub returns-in-Some-clause-cause : goal.returns-in-Some-clause-cause
returns-in-Some-clause-cause g c = count_cause (meaning g.S.Shelf g.V.Disk) c.args.self.now _ c.args.proposer (answer.Unsettled c.in-Some.why) (returns-in-Some-clause-step g c) (returns-in-Some-clause-told g c)

pub returns-in-Some-clause-above : goal.returns-in-Some-clause-above
returns-in-Some-clause-above g c shelves vaults = count_above (meaning g.S.Shelf g.V.Disk) c.args.self.now _ c.args.proposer (answer.Unsettled c.in-Some.why) (returns-in-Some-clause-step g c) (returns-in-Some-clause-told g c) shelves vaults
    (subst (λ (v : View _ _). IsRemembered (meaning g.S.Shelf g.V.Disk) v) c.self.view_is (c.self.invariant.remembered shelves vaults))

pub returns-in-Some-clause-done : goal.returns-in-Some-clause-done
returns-in-Some-clause-done g c shelves vaults state took ballot is = absurd (cc is)
