use Rattle.std.proofs.Common.{◌≡◌, ℕ, ◌≤◌, ◌+◌, ◌++◌, ◌∷◌, [], None, Some, slice_set, refl, sym, ap, subst, ◌∙◌}
use Rattle.std.specs.Prelude.{◌⊎◌, map}
use Rattle.cas_flow.specs.Flow.{FlowView, abandoned}
use Rattle.cas_proposer.specs.declared.round.Round.{Round}
use Rattle.cas_record.specs.declared.mark.Mark.TheVariants.{Ended}
use Rattle.cas_model.specs.Step as step
use Rattle.cas_model.specs.Step.{StepEnd}
use Rattle.cas_model.specs.Calls.Desks.{EndsRound}
use Rattle.cas_model.specs.View.{IsAt, meaning, reserved_of, disk_meaning}
use Rattle.cas_model.proofs.Safety.Steps.{steps_are_safe}
use Rattle.cas_model.specs.Council.{reserved_by}
use Rattle.cas_world_calls.specs.Council.{council_view}
use Rattle.cas_world_calls.specs.declared.call.Caller.{Caller}
use Rattle.cas_world.specs.World.{view_of, caller_view}
use Rattle.cas_model.specs.Calls.Step.{Rescans}
use Rattle.cas_world_calls.specs.declared.call.EndedCall.{EndedCall}
use Rattle.cas_world.proofs.Calls.Ends.{rescan_reserves, IsEnding, ending, ended_as, may_end, closed_or, none_after, ends, room_ended, some_room}
use Rattle.cas_world.proofs.Parts.{seen_from, remembered_then}
use Rattle.cas_world.proofs.Stops.Stops.{copies_idle}
use Rattle.cas_world.proofs.world.World.end.Given.{Over}
use Rattle.cas_world.proofs.world.World.end.Goals as goal

pub end_call-ended-requires : goal.end_call-ended-requires
end_call-ended-requires g c =
    let is = ending c.self.inside.setup.proposers c.self.inside.council c.self.inside.acceptors.items c.self.inside.desks.items c.self.inside.callers.items c.self.inside.flow c.self.inside.record c.args.self.now
    c.from-place.result c.args.caller c.args.call c.args.answer c.index_mut.result.now c.index_mut-2.result.now c.from-place.ensures c.self.view_is c.requires.known c.self.invariant.safe c.index_mut.ensures.value c.index_mut-2.ensures.value c.requires.told in
    may_end c.index_mut-2.result.now is.told.call c.args.answer is.told.is_open is.told.told

pub push-requires : goal.push-requires
push-requires g c =
    let is = ending c.self.inside.setup.proposers c.self.inside.council c.self.inside.acceptors.items c.self.inside.desks.items c.self.inside.callers.items c.self.inside.flow c.self.inside.record c.args.self.now
    c.from-place.result c.args.caller c.args.call c.args.answer c.index_mut.result.now c.index_mut-2.result.now c.from-place.ensures c.self.view_is c.requires.known c.self.invariant.safe c.index_mut.ensures.value c.index_mut-2.ensures.value c.requires.told in
    some_room (reserved_by (council_view c.self.inside.council)) c.self.inside.callers.items c.args.caller c.index_mut-2.result.now is.told.call c.self.inside.record.room is.at_caller is.told.is_open is.some c.self.invariant.room

found : (g : Over) (c : goal.After-drop-ended g) → IsEnding c.self.inside.desks.items c.self.inside.callers.items c.args.caller c.args.call c.args.answer c.index_mut.result.now c.index_mut-2.result.now
found g c = ending c.self.inside.setup.proposers c.self.inside.council c.self.inside.acceptors.items c.self.inside.desks.items c.self.inside.callers.items c.self.inside.flow c.self.inside.record c.args.self.now
    c.from-place.result c.args.caller c.args.call c.args.answer c.index_mut.result.now c.index_mut-2.result.now c.from-place.ensures c.self.view_is c.requires.known c.self.invariant.safe c.index_mut.ensures.value c.index_mut-2.ensures.value c.requires.told

closed : (g : Over) (c : goal.After-drop-ended g) → ((c.index_mut.result.now.round ≡ None) × (c.close.new.desk ≡ c.index_mut.result.now))
    ⊎ ((r : Round) × (c.index_mut.result.now.round ≡ Some r) × EndsRound (disk_meaning g.V.Disk) c.index_mut.result.now c.close.new.desk r None)
closed g c = closed_or (disk_meaning g.V.Disk) c.index_mut.result.now c.close.new.desk c.index_mut.result.now.round refl c.close.ensures.idle c.close.ensures.ends

ended_is : (g : Over) (c : goal.After-drop-ended g) → c.end_call-ended.result ≡ record { key = (found g c).told.call.key; rounds = (found g c).told.call.rounds; told = c.args.answer }
ended_is g c = ended_as c.index_mut-2.result.now (found g c).told.call c.args.answer c.end_call-ended.result (found g c).told.is_open (found g c).told.told c.end_call-ended.ensures.told

ends_it : (g : Over) (c : goal.After-drop-ended g) → StepEnd (meaning g.S.Shelf g.V.Disk) (view_of c.self.inside.setup.proposers c.self.inside.council c.self.inside.acceptors.items c.self.inside.desks.items c.self.inside.callers.items c.self.inside.flow c.self.inside.record) c.args.caller c.args.answer
    (view_of c.self.inside.setup.proposers c.end.new.self c.self.inside.acceptors.items (slice_set c.self.inside.desks.items c.from-place.result c.close.new.desk) (slice_set c.self.inside.callers.items c.from-place.result c.end_call-ended.new.self) c.abandon.new.self c.push.new.self)
ends_it g c =
    let m = meaning g.S.Shelf g.V.Disk in
    let old = view_of c.self.inside.setup.proposers c.self.inside.council c.self.inside.acceptors.items c.self.inside.desks.items c.self.inside.callers.items c.self.inside.flow c.self.inside.record in
    subst (λ (f : FlowView). StepEnd m old c.args.caller c.args.answer
    (view_of c.self.inside.setup.proposers c.end.new.self c.self.inside.acceptors.items (slice_set c.self.inside.desks.items c.from-place.result c.close.new.desk) (slice_set c.self.inside.callers.items c.from-place.result c.end_call-ended.new.self) f c.push.new.self)) (sym c.abandon.ensures)
    (subst (λ (i : ℕ). StepEnd m old c.args.caller c.args.answer
    (view_of c.self.inside.setup.proposers c.end.new.self c.self.inside.acceptors.items (slice_set c.self.inside.desks.items i c.close.new.desk) (slice_set c.self.inside.callers.items i c.end_call-ended.new.self) (abandoned c.self.inside.flow c.args.caller) c.push.new.self)) (sym c.from-place.ensures)
    (subst (λ (x : Caller). StepEnd m old c.args.caller c.args.answer
    (view_of c.self.inside.setup.proposers c.end.new.self c.self.inside.acceptors.items (slice_set c.self.inside.desks.items c.args.caller c.close.new.desk) (slice_set c.self.inside.callers.items c.args.caller x) (abandoned c.self.inside.flow c.args.caller) c.push.new.self)) (sym c.end_call-ended.ensures.caller)
    (ends m c.self.inside.setup.proposers c.self.inside.council c.end.new.self c.self.inside.acceptors.items c.self.inside.desks.items c.self.inside.callers.items c.self.inside.flow c.self.inside.record c.push.new.self c.args.caller c.args.call c.args.answer
    c.index_mut.result.now c.close.new.desk c.index_mut-2.result.now (found g c).told (found g c).at_desk (found g c).at_caller (closed g c)
    (subst (λ (e : EndedCall). Rescans (council_view c.self.inside.council) c.args.caller e.key e.told (council_view c.end.new.self)) (ended_is g c) c.end.ensures.rescans) c.end.ensures.eras
    (c.push.ensures.marks ∙ ap (λ (e : EndedCall). c.self.inside.record.marks ++ Ended c.args.caller c.args.call e.rounds e.told ∷ [])
    (ended_as c.index_mut-2.result.now (found g c).told.call c.args.answer c.end_call-ended.result (found g c).told.is_open (found g c).told.told c.end_call-ended.ensures.told)))))

pub invariant_of-self : goal.invariant_of-self
invariant_of-self g c = record {
  safe = steps_are_safe _ _ (step.End c.args.caller c.args.answer) _ c.self.invariant.safe (ends_it g c);
  remembered = remembered_then _ (step.End c.args.caller c.args.answer) (ends_it g c) c.self.invariant.remembered;
  room = subst (λ (x : Caller). reserved_of (map caller_view (slice_set c.self.inside.callers.items c.from-place.result x)) + reserved_by (council_view c.end.new.self) ≤ c.push.new.self.room) (sym c.end_call-ended.ensures.caller)
      (subst (λ (n : ℕ). reserved_of (map caller_view (slice_set c.self.inside.callers.items c.from-place.result (record c.index_mut-2.result.now { call = None }))) + n ≤ c.push.new.self.room) (sym (rescan_reserves _ _ _ _ _ c.end.ensures.rescans))
      (room_ended (reserved_by (council_view c.self.inside.council)) c.self.inside.callers.items c.from-place.result c.index_mut-2.result.now (found g c).told.call c.self.inside.record.room c.push.new.self.room
      (subst (λ (i : ℕ). IsAt c.self.inside.callers.items i c.index_mut-2.result.now) (sym c.from-place.ensures) (found g c).at_caller) (found g c).told.is_open (found g c).some c.push.ensures.room c.self.invariant.room));
  copies = copies_idle c.self.inside.desks.items c.self.inside.callers.items c.from-place.result c.close.new.desk c.end_call-ended.new.self
      (none_after (disk_meaning g.V.Disk) c.index_mut.result.now c.close.new.desk (closed g c)) c.self.invariant.copies;
}

pub returns-clause-step : goal.returns-clause-step
returns-clause-step g c = seen_from _ (step.End c.args.caller c.args.answer) _ c.self.view_is (ends_it g c)
