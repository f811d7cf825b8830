use Rattle.std.proofs.Common.{◌≡◌, ℕ, Option, None, slice_set, refl, sym, ap, subst, ◌∙◌, arith}
use Rattle.std.specs.Prelude.{option_map, IsSome}
use Rattle.std.proofs.lemmas.List.{length-map}
use Rattle.cas_flow.specs.Flow.{FlowView, abandoned}
use Rattle.cas_proposer.specs.Desk.{DeskView}
use Rattle.cas_vault.specs.Vault.{disk_of}
use Rattle.cas_model.specs.Stops.Step.{CrashesDesk}
use Rattle.cas_model.specs.Calls.Desks.{Crashes}
use Rattle.cas_model.specs.View.{View, IsAt, meaning}
use Rattle.cas_model.proofs.Places.{at_one}
use Rattle.cas_model.proofs.Stops.Safe.{call_reserves_at}
use Rattle.cas_model.proofs.Safety.Steps.{crashed_desk_safe}
use Rattle.cas_model.proofs.Remembering.{crashed_desk}
use Rattle.cas_world_calls.specs.declared.call.Caller.{Caller}
use Rattle.cas_world_calls.specs.declared.call.OpenCall.{OpenCall}
use Rattle.cas_world.specs.World.{view_of, call_view, caller_view}
use Rattle.cas_world.proofs.Calls.Callers.{at_map, IsRoundOpenIn, open_in, not_lent}
use Rattle.cas_world.proofs.Stops.Stops.{crash_seen, crash_goes_on, crash_idle, crash_closes, crashed_caller, closed_is, room_closed, copies_closed, copies_idle}
use Rattle.cas_world.proofs.Parts.{at_place}
use Rattle.cas_world.proofs.world.World.crash_desk.Given.{Over}
use Rattle.cas_world.proofs.world.World.crash_desk.Goals as goal

-- ---- no round was open
at_desk : (g : Over) (c : goal.Else-closes g) → IsAt c.self.inside.desks.items c.args.proposer c.index_mut.result.now
at_desk g c = at_place c.self.inside.desks.items c.from-place.result c.args.proposer c.index_mut.result.now c.from-place.ensures
    (omega (arith, c.self.invariant.safe.sound.desks, c.requires, ap (λ (v : View _ _). v.last_proposer) c.self.view_is)) c.index_mut.ensures.value

none_open : (g : Over) (c : goal.Else-closes g) → c.index_mut.result.now.round ≡ None
none_open g c =
    let at_index : IsAt c.self.inside.desks.items c.args.proposer c.index.result.now = at_place c.self.inside.desks.items c.from-place.result c.args.proposer c.index.result.now c.from-place.ensures
    (omega (arith, c.self.invariant.safe.sound.desks, c.requires, ap (λ (v : View _ _). v.last_proposer) c.self.view_is)) c.index.ensures in
    ap (λ (d : DeskView _). d.round) (at_one c.self.inside.desks.items c.args.proposer (at_desk g c) at_index) ∙ not_lent (λ one. one.now) c.round.result c.index.result.now.round c.round.ensures (sym c.if-closes.ensures)

crashes : (g : Over) (c : goal.Else-closes g) → Crashes (meaning g.S.Shelf g.V.Disk).disks c.index_mut.result.now c.crash.new.self
crashes g c = record {
  crashed = c.crash.ensures.crashed;
  shows = c.crash.ensures.vault;
  goes_on = crash_goes_on _ c.index_mut.result.now.vault c.crash.new.self.vault (g.V.Disk.seen (disk_of c.crash.new.self.vault)) c.crash.ensures.vault.kept c.crash.ensures.image c.crash.ensures.settled c.crash.ensures.still_past c.crash.ensures.never_falls;
}

idles : (g : Over) (c : goal.Else-closes g) → CrashesDesk (meaning g.S.Shelf g.V.Disk)
    (view_of c.self.inside.setup.proposers c.self.inside.council c.self.inside.acceptors.items c.self.inside.desks.items c.self.inside.callers.items c.self.inside.flow c.self.inside.record) c.args.proposer
    (view_of c.self.inside.setup.proposers c.self.inside.council c.self.inside.acceptors.items (slice_set c.self.inside.desks.items c.from-place.result c.crash.new.self) c.self.inside.callers.items c.abandon.new.self c.self.inside.record)
idles g c =
    let m = meaning g.S.Shelf g.V.Disk in
    let old = view_of c.self.inside.setup.proposers c.self.inside.council c.self.inside.acceptors.items c.self.inside.desks.items c.self.inside.callers.items c.self.inside.flow c.self.inside.record in
    subst (λ (f : FlowView). CrashesDesk m old c.args.proposer
    (view_of c.self.inside.setup.proposers c.self.inside.council c.self.inside.acceptors.items (slice_set c.self.inside.desks.items c.from-place.result c.crash.new.self) c.self.inside.callers.items f c.self.inside.record)) (sym c.abandon.ensures)
    (subst (λ (i : ℕ). CrashesDesk m old c.args.proposer
    (view_of c.self.inside.setup.proposers c.self.inside.council c.self.inside.acceptors.items (slice_set c.self.inside.desks.items i c.crash.new.self) c.self.inside.callers.items (abandoned c.self.inside.flow c.args.proposer) c.self.inside.record)) (sym c.from-place.ensures)
    (crash_idle m old c.args.proposer c.index_mut.result.now c.crash.new.self (at_desk g c) (none_open g c) (crashes g c)))

-- ---- a round was open
pub close_round-requires : goal.close_round-requires
close_round-requires g c =
    let found = open_in (λ one. one.now) c.self.inside.setup.proposers c.self.inside.council c.self.inside.acceptors.items c.self.inside.desks.items c.self.inside.callers.items c.self.inside.flow c.self.inside.record
    c.from-place.result c.args.proposer c.index_mut.result.now c.index.result.now c.round.result c.index_mut-then-closes.result.now c.from-place.ensures (omega (arith, c.requires, ap (λ (v : View _ _). v.last_proposer) c.self.view_is))
    c.self.invariant.safe c.index_mut.ensures.value c.index.ensures c.round.ensures (sym c.if-closes.ensures) c.index_mut-then-closes.ensures.value in
    subst (λ (o : Option OpenCall). IsSome o) (sym found.is_open) refl

found : (g : Over) (c : goal.After-self-then-closes-1 g) → IsRoundOpenIn c.self.inside.desks.items c.self.inside.callers.items c.args.proposer c.index_mut.result.now c.index_mut-then-closes.result.now
found g c = open_in (λ one. one.now) c.self.inside.setup.proposers c.self.inside.council c.self.inside.acceptors.items c.self.inside.desks.items c.self.inside.callers.items c.self.inside.flow c.self.inside.record
    c.from-place.result c.args.proposer c.index_mut.result.now c.index.result.now c.round.result c.index_mut-then-closes.result.now c.from-place.ensures (omega (arith, c.requires, ap (λ (v : View _ _). v.last_proposer) c.self.view_is))
    c.self.invariant.safe c.index_mut.ensures.value c.index.ensures c.round.ensures (sym c.if-closes.ensures) c.index_mut-then-closes.ensures.value

new_caller : (g : Over) (c : goal.After-self-then-closes-1 g) → c.close_round.new.self ≡ crashed_caller c.index_mut-then-closes.result.now (found g c).call
new_caller g c =
    let at_read = at_place c.self.inside.callers.items c.from-place.result c.args.proposer c.index-then-closes.result.now c.from-place.ensures
    (omega (arith, c.self.invariant.safe.sound.callers, c.requires, ap (λ (v : View _ _). v.last_proposer) c.self.view_is, length-map c.self.inside.callers.items caller_view)) c.index-then-closes.ensures in
    closed_is c.index_mut-then-closes.result.now c.index-then-closes.result.now c.close_round.new.self (found g c).call c.crash_answer.result c.has_proposed-proposed.result (found g c).is_open
    (at_one c.self.inside.callers.items c.args.proposer at_read (found g c).at_caller) c.has_proposed-proposed.ensures c.crash_answer.ensures c.close_round.ensures

closes : (g : Over) (c : goal.After-self-then-closes-1 g) → CrashesDesk (meaning g.S.Shelf g.V.Disk)
    (view_of c.self.inside.setup.proposers c.self.inside.council c.self.inside.acceptors.items c.self.inside.desks.items c.self.inside.callers.items c.self.inside.flow c.self.inside.record) c.args.proposer
    (view_of c.self.inside.setup.proposers c.self.inside.council c.self.inside.acceptors.items (slice_set c.self.inside.desks.items c.from-place.result c.crash.new.self) (slice_set c.self.inside.callers.items c.from-place.result c.close_round.new.self) c.abandon.new.self c.self.inside.record)
closes g c =
    let m = meaning g.S.Shelf g.V.Disk in
    let old = view_of c.self.inside.setup.proposers c.self.inside.council c.self.inside.acceptors.items c.self.inside.desks.items c.self.inside.callers.items c.self.inside.flow c.self.inside.record in
    subst (λ (f : FlowView). CrashesDesk m old c.args.proposer
    (view_of c.self.inside.setup.proposers c.self.inside.council c.self.inside.acceptors.items (slice_set c.self.inside.desks.items c.from-place.result c.crash.new.self) (slice_set c.self.inside.callers.items c.from-place.result c.close_round.new.self) f c.self.inside.record)) (sym c.abandon.ensures)
    (subst (λ (i : ℕ). CrashesDesk m old c.args.proposer
    (view_of c.self.inside.setup.proposers c.self.inside.council c.self.inside.acceptors.items (slice_set c.self.inside.desks.items i c.crash.new.self) (slice_set c.self.inside.callers.items i c.close_round.new.self) (abandoned c.self.inside.flow c.args.proposer) c.self.inside.record)) (sym c.from-place.ensures)
    (subst (λ (x : Caller). CrashesDesk m old c.args.proposer
    (view_of c.self.inside.setup.proposers c.self.inside.council c.self.inside.acceptors.items (slice_set c.self.inside.desks.items c.args.proposer c.crash.new.self) (slice_set c.self.inside.callers.items c.args.proposer x) (abandoned c.self.inside.flow c.args.proposer) c.self.inside.record)) (sym (new_caller g c))
    (crash_closes m c.self.inside.setup.proposers c.self.inside.council c.self.inside.acceptors.items c.self.inside.desks.items c.self.inside.callers.items c.self.inside.flow c.self.inside.record c.args.proposer
    c.index_mut.result.now c.crash.new.self (found g c).round c.index_mut-then-closes.result.now (found g c).call (found g c).at_desk (found g c).at_caller (found g c).is_open (found g c).is_round
    (record {
      crashed = c.crash.ensures.crashed;
      shows = c.crash.ensures.vault;
      goes_on = crash_goes_on _ c.index_mut.result.now.vault c.crash.new.self.vault (g.V.Disk.seen (disk_of c.crash.new.self.vault)) c.crash.ensures.vault.kept c.crash.ensures.image c.crash.ensures.settled c.crash.ensures.still_past c.crash.ensures.never_falls;
    }))))

pub invariant_of-self : goal.invariant_of-self
invariant_of-self g c = record {
  safe = crashed_desk_safe (meaning g.S.Shelf g.V.Disk) _ c.args.proposer _ c.self.invariant.safe (closes g c);
  remembered = λ shelves disks. crashed_desk (meaning g.S.Shelf g.V.Disk) _ c.args.proposer _ disks (c.self.invariant.remembered shelves disks) (closes g c);
  room = omega (
    arith,
    c.self.invariant.room,
    room_closed c.self.inside.callers.items c.from-place.result c.index_mut-then-closes.result.now c.close_round.new.self (found g c).call
        (subst (λ (i : ℕ). IsAt c.self.inside.callers.items i c.index_mut-then-closes.result.now) (sym c.from-place.ensures) (found g c).at_caller) (found g c).is_open
        (call_reserves_at _ c.args.proposer (caller_view c.index_mut-then-closes.result.now) (call_view (found g c).call) c.index_mut.result.now c.self.invariant.safe.sound
        (at_map caller_view c.self.inside.callers.items c.args.proposer c.index_mut-then-closes.result.now (found g c).at_caller) (ap (λ (o : Option OpenCall). option_map call_view o) (found g c).is_open) (found g c).at_desk)
        (new_caller g c),
  );
  copies = copies_idle c.self.inside.desks.items c.self.inside.callers.items c.from-place.result c.crash.new.self c.close_round.new.self (ap (λ (d : DeskView _). d.round) c.crash.ensures.crashed) c.self.invariant.copies;
}

pub invariant_of-self-else-closes : goal.invariant_of-self-else-closes
invariant_of-self-else-closes g c = record {
  safe = crashed_desk_safe (meaning g.S.Shelf g.V.Disk) _ c.args.proposer _ c.self.invariant.safe (idles g c);
  remembered = λ shelves disks. crashed_desk (meaning g.S.Shelf g.V.Disk) _ c.args.proposer _ disks (c.self.invariant.remembered shelves disks) (idles g c);
  room = c.self.invariant.room;
  copies = copies_closed c.self.inside.desks.items c.self.inside.callers.items c.from-place.result c.crash.new.self (ap (λ (d : DeskView _). d.round) c.crash.ensures.crashed) c.self.invariant.copies;
}

pub returns-then-closes : goal.returns-then-closes
returns-then-closes g c = crash_seen (meaning g.S.Shelf g.V.Disk) c.args.proposer c.self.view_is (closes g c)

pub returns-else-closes : goal.returns-else-closes
returns-else-closes g c = crash_seen (meaning g.S.Shelf g.V.Disk) c.args.proposer c.self.view_is (idles g c)
