use Rattle.std.proofs.Common.{◌≡◌, ◌+◌, ◌≤◌, true, None, Some, Option, refl, sym, ap, subst, ◌∙◌, arith, slice_set}
use Rattle.std.specs.Prelude.{map}
use Rattle.std.proofs.lemmas.List.{length-map}
use Rattle.cas_proposer.specs.Desk.{DeskView, counter_without}
use Rattle.cas_proposer.specs.declared.round.Round.{Round}
use Rattle.cas_vault.specs.Vault.{counter_of}
use Rattle.cas_model.specs.Council.{reserved_by}
use Rattle.cas_model.specs.Step as step
use Rattle.cas_model.specs.Step.{Step}
use Rattle.cas_model.specs.Calls.Desks.{EndsRound}
use Rattle.cas_model.specs.View.{View, IsAt, meaning, reserved_of, disk_meaning}
use Rattle.cas_model.proofs.Places.{at_one}
use Rattle.cas_model.proofs.Safety.Steps.{steps_are_safe}
use Rattle.cas_world_calls.specs.Council.{council_view}
use Rattle.cas_world_calls.specs.declared.call.Caller.{Caller}
use Rattle.cas_world.specs.Collection.Collect.{IsCollectingCall}
use Rattle.cas_world.specs.World.{IsInPhase, view_of, caller_view}
use Rattle.cas_world.proofs.Collection.Collects.{reads_held, held_room}
use Rattle.cas_world.proofs.Parts.{at_place, seen_from, remembered_then}
use Rattle.cas_world.proofs.Stops.Stops.{copies_idle, end_goes_on}
use Rattle.cas_world.proofs.world.World.read_held.Given.{Over}
use Rattle.cas_world.proofs.world.World.read_held.Goals as goal
use Rattle.cas_world.proofs.world.World.read_held.Goals.{After-read_held}

at_desk : (g : Over) (c : After-read_held g) → IsAt c.self.inside.desks.items 0 c.index_mut.result.now
at_desk g c = at_place c.self.inside.desks.items 0 0 c.index_mut.result.now refl (omega (arith, c.self.invariant.safe.sound.desks)) c.index_mut.ensures.value

at_caller : (g : Over) (c : After-read_held g) → IsAt c.self.inside.callers.items 0 c.index_mut-2.result.now
at_caller g c = at_place c.self.inside.callers.items 0 0 c.index_mut-2.result.now refl (omega (arith, c.self.invariant.safe.sound.callers, length-map c.self.inside.callers.items caller_view)) c.index_mut-2.ensures.value

ends : (g : Over) (c : After-read_held g) (round : Round) → c.index_mut.result.now.round ≡ Some round → EndsRound (disk_meaning g.V.Disk) c.index_mut.result.now c.end.new.self round None
ends g c round is = record {
  desk = c.end.ensures.desk round is;
  counter = c.end.ensures.counter ∙ ap (λ (r : Option Round). counter_without r (counter_of c.index_mut.result.now.vault)) is;
  kept = c.end.ensures.kept;
  goes_on = end_goes_on _ c.index_mut.result.now.vault c.end.new.self.vault c.end.ensures.kept c.end.ensures.disk c.end.ensures.still_past;
}

did : (g : Over) (c : After-read_held g) → Step (meaning g.S.Shelf g.V.Disk) (view_of c.self.inside.setup.proposers c.self.inside.council c.self.inside.acceptors.items c.self.inside.desks.items c.self.inside.callers.items c.self.inside.flow c.self.inside.record) step.ReadHeld (view_of c.self.inside.setup.proposers c.read_held.new.self c.self.inside.acceptors.items (slice_set c.self.inside.desks.items 0 c.end.new.self) (slice_set c.self.inside.callers.items 0 c.leave.new.self) c.self.inside.flow c.self.inside.record)
did g c = subst (λ (x : Caller). Step (meaning g.S.Shelf g.V.Disk) (view_of c.self.inside.setup.proposers c.self.inside.council c.self.inside.acceptors.items c.self.inside.desks.items c.self.inside.callers.items c.self.inside.flow c.self.inside.record) step.ReadHeld (view_of c.self.inside.setup.proposers c.read_held.new.self c.self.inside.acceptors.items (slice_set c.self.inside.desks.items 0 c.end.new.self) (slice_set c.self.inside.callers.items 0 x) c.self.inside.flow c.self.inside.record)) (sym c.leave.ensures)
    (reads_held (meaning g.S.Shelf g.V.Disk) c.self.inside.setup.proposers c.self.inside.council c.read_held.new.self c.self.inside.acceptors.items c.self.inside.desks.items c.self.inside.callers.items c.self.inside.flow c.self.inside.record c.index_mut.result.now c.end.new.self c.index_mut-2.result.now c.args.version (at_desk g c) (at_caller g c) c.self.invariant.safe
    (subst (λ (v : (View g.row.S.Denot g.row.V.Denot)). IsInPhase v 0 true) (sym c.self.view_is) c.requires.preparing) (subst (λ (v : (View g.row.S.Denot g.row.V.Denot)). IsCollectingCall v) (sym c.self.view_is) c.requires.calling)
    (c.requires.finds c.index_mut.result.now (subst (λ (v : (View g.row.S.Denot g.row.V.Denot)). IsAt v.desks 0 c.index_mut.result.now) c.self.view_is (at_desk g c))) (ends g c) c.read_held.ensures.eras c.read_held.ensures.read)

pub invariant_of-self : goal.invariant_of-self
invariant_of-self g c =
    let phase = subst (λ (v : (View g.row.S.Denot g.row.V.Denot)). IsInPhase v 0 true) (sym c.self.view_is) c.requires.preparing in
    let is_round = ap (λ (d : DeskView g.row.V.Denot). d.round) (at_one c.self.inside.desks.items 0 (at_desk g c) phase.at_desk) ∙ phase.is_round in record {
      safe = steps_are_safe (meaning g.S.Shelf g.V.Disk) _ step.ReadHeld _ c.self.invariant.safe (did g c);
      remembered = remembered_then (meaning g.S.Shelf g.V.Disk) step.ReadHeld (did g c) c.self.invariant.remembered;
      room = subst (λ (x : Caller). reserved_of (map caller_view (slice_set c.self.inside.callers.items 0 x)) + reserved_by (council_view c.read_held.new.self) ≤ c.self.inside.record.room) (sym c.leave.ensures)
          (held_room (meaning g.S.Shelf g.V.Disk) c.self.inside.setup.proposers c.self.inside.council c.read_held.new.self c.self.inside.acceptors.items c.self.inside.desks.items c.self.inside.callers.items c.self.inside.flow c.self.inside.record c.index_mut.result.now c.end.new.self c.index_mut-2.result.now c.args.version (at_desk g c) (at_caller g c) c.self.invariant.safe
          phase (subst (λ (v : (View g.row.S.Denot g.row.V.Denot)). IsCollectingCall v) (sym c.self.view_is) c.requires.calling)
          (c.requires.finds c.index_mut.result.now (subst (λ (v : (View g.row.S.Denot g.row.V.Denot)). IsAt v.desks 0 c.index_mut.result.now) c.self.view_is (at_desk g c))) (ends g c) c.read_held.ensures.eras c.self.inside.record.room c.read_held.ensures.read c.self.invariant.room);
      copies = copies_idle c.self.inside.desks.items c.self.inside.callers.items 0 c.end.new.self c.leave.new.self (ap (λ (d : DeskView g.row.V.Denot). d.round) (ends g c phase.round is_round).desk) c.self.invariant.copies;
    }

pub returns : goal.returns
returns g c = seen_from (meaning g.S.Shelf g.V.Disk) step.ReadHeld _ c.self.view_is (did g c)
