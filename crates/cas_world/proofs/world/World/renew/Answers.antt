use Rattle.std.proofs.Common.{◌≡◌, ◌≤◌, ◌<◌, ℕ, false, List, Option, Some, refl, sym, ap, subst, ◌∙◌, arith, length, slice_set}
use Rattle.std.specs.Prelude.{IfErr, IfOk, IfSome, OnOk, map, option_map}
use Rattle.std.proofs.lemmas.List.{length-map}
use Rattle.cas_ballot.specs.Ballot.{FitsBallot}
use Rattle.cas_ballot.specs.declared.ballot.Ballot.{Ballot}
use Rattle.cas_collect.specs.declared.collect.CollectStep.TheVariants as due
use Rattle.cas_proposer.specs.Desk.{DeskView}
use Rattle.cas_model.specs.Collection.State.{CollectionView}
use Rattle.cas_model.specs.Safe.{IsSafe, renewals_before}
use Rattle.cas_model.specs.Step as step
use Rattle.cas_model.specs.Step.{Step}
use Rattle.cas_model.specs.Collection.Step as collect
use Rattle.cas_model.specs.Calls.Desks.{Renews, FailsToRenew, FindsNoAge}
use Rattle.cas_model.specs.View.{View, IsAt, meaning, disk_meaning}
use Rattle.cas_model.proofs.Places.{at_one, some_is}
use Rattle.cas_model.proofs.Safety.Parts.{at_low}
use Rattle.cas_model.proofs.Safety.Steps.{steps_are_safe}
use Rattle.cas_model.proofs.Stops.Safe.{call_reserves_at}
use Rattle.cas_world_calls.specs.Answers.{aged_answer, crash_answer}
use Rattle.cas_world_calls.specs.declared.call.OpenCall.{OpenCall}
use Rattle.cas_world.specs.Collection.Collect.{GoesOnCollecting, IsDueStep, IsNextAge}
use Rattle.cas_world.specs.Exchanges.Exchange.{WasToldOrder}
use Rattle.cas_world.specs.Eras.Moving.{LeavesDesk, closed_with}
use Rattle.cas_world.specs.World.{IsWorld, view_of, call_view, caller_view}
use Rattle.cas_world.proofs.Calls.Callers.{at_map}
use Rattle.cas_world.proofs.Collection.Gathers.{collecting_at}
use Rattle.cas_world.proofs.Parts.{at_place, seen_from, remembered_then}
use Rattle.cas_world.proofs.Eras.Planning.{open_call, told_last}
use Rattle.cas_world.proofs.Collection.Renewing.{IsRenewal, next_ages, renewed_so, renews_next}
use Rattle.cas_world.proofs.world.World.renew.Given.{Over}
use Rattle.cas_world.proofs.world.World.renew.Goals as goal
use Rattle.cas_world.proofs.world.World.renew.Goals.{After-mark_renewal}

-- ---- it is down
pub returns-then-is_down-clause-step : goal.returns-then-is_down-clause-step
returns-then-is_down-clause-step g c =
    let safe = subst (λ (v : (View g.row.S.Denot g.row.V.Denot)). IsSafe v) c.self.view_is c.self.invariant.safe in
    let caller = at_low (map caller_view c.self.inside.callers.items) c.args.proposer (omega (arith, c.self.invariant.safe.sound.callers, c.requires.known, ap (λ (v : (View g.row.S.Denot g.row.V.Denot)). v.last_proposer) c.self.view_is)) in
    renews_next (meaning g.S.Shelf g.V.Disk) c.args.self.now c.refuse.new.self c.args.proposer c.index.result.now caller.0 safe c.requires.due (subst (λ (v : (View g.row.S.Denot g.row.V.Denot)). IsAt v.desks c.args.proposer c.index.result.now) c.self.view_is (at_place c.self.inside.desks.items c.from-place.result c.args.proposer c.index.result.now c.from-place.ensures (omega (arith, c.self.invariant.safe.sound.desks, c.requires.known, ap (λ (v : (View g.row.S.Denot g.row.V.Denot)). v.last_proposer) c.self.view_is)) c.index.ensures)) (subst (λ (v : (View g.row.S.Denot g.row.V.Denot)). IsAt v.callers c.args.proposer caller.0) c.self.view_is caller.1)
    (collect.is_down (sym c.is_down.ensures ∙ c.if-is_down.true) c.refuse.ensures.told)

pub returns-then-is_down-clause-err : goal.returns-then-is_down-clause-err
returns-then-is_down-clause-err g c =
    let of = (subst (λ (v : (View g.row.S.Denot g.row.V.Denot)). IsSafe v) c.self.view_is c.self.invariant.safe).collection.each c.requires.due.collection c.requires.due.is_collection in
    told_last c.args.self.now c.refuse.new.self of.order _ c.refuse.result of.is_open c.refuse.ensures.told c.refuse.ensures.answer

-- ---- it is renewed, or not
pub grow_older-renewed-requires-clause-tomb : goal.grow_older-renewed-requires-clause-tomb
grow_older-renewed-requires-clause-tomb g c = subst (λ (b : Ballot). FitsBallot b) (sym c.tomb-tomb.ensures) (c.self.invariant.safe.collection.each c.in-Some.collection c.in-Some.is).tomb

pub grow_older-renewed-requires-clause-open : goal.grow_older-renewed-requires-clause-open
grow_older-renewed-requires-clause-open g c some =
    open_call (view_of c.self.inside.setup.proposers c.self.inside.council c.self.inside.acceptors.items c.self.inside.desks.items c.self.inside.callers.items c.self.inside.flow c.self.inside.record) c.args.proposer c.index_mut-desk.result.now c.index_mut-caller.result.now c.self.invariant.safe (at_place c.self.inside.desks.items c.from-place.result c.args.proposer c.index_mut-desk.result.now c.from-place.ensures (omega (arith, c.self.invariant.safe.sound.desks, c.requires.known, ap (λ (v : (View g.row.S.Denot g.row.V.Denot)). v.last_proposer) c.self.view_is)) c.index_mut-desk.ensures.value) (at_map caller_view c.self.inside.callers.items c.args.proposer c.index_mut-caller.result.now (at_place c.self.inside.callers.items c.from-place.result c.args.proposer c.index_mut-caller.result.now c.from-place.ensures (omega (arith, c.self.invariant.safe.sound.callers, c.requires.known, ap (λ (v : (View g.row.S.Denot g.row.V.Denot)). v.last_proposer) c.self.view_is, length-map c.self.inside.callers.items caller_view)) c.index_mut-caller.ensures.value)) c.index_mut-desk.result.now.round refl some

pub mark_renewal-requires-clause-ages : goal.mark_renewal-requires-clause-ages
mark_renewal-requires-clause-ages g c =
    let same : c.in-Some.collection ≡ c.requires.due.collection = some_is (sym c.in-Some.is ∙ ap (λ (v : (View g.row.S.Denot g.row.V.Denot)). v.council.collection) c.self.view_is ∙ c.requires.due.is_collection) in
    subst (λ (o : Option CollectionView). IfSome o (λ x. length x.ages ≤ 16)) (sym c.in-Some.is)
    (omega (
      arith,
      (c.self.invariant.safe.collection.each c.in-Some.collection c.in-Some.is).ages,
      ap (λ (x : CollectionView). renewals_before c.self.inside.setup.proposers x.course.step) same,
      ap (renewals_before c.self.inside.setup.proposers) c.requires.due.is_due,
      c.self.invariant.safe.sound.few,
      c.requires.known,
      ap (λ (v : (View g.row.S.Denot g.row.V.Denot)). v.last_proposer) c.self.view_is,
    ))

at_desk : (g : Over) (c : After-mark_renewal g) → IsAt c.self.inside.desks.items c.args.proposer c.index_mut-desk.result.now
at_desk g c = at_place c.self.inside.desks.items c.from-place.result c.args.proposer c.index_mut-desk.result.now c.from-place.ensures (omega (arith, c.self.invariant.safe.sound.desks, c.requires.known, ap (λ (v : (View g.row.S.Denot g.row.V.Denot)). v.last_proposer) c.self.view_is)) c.index_mut-desk.ensures.value

at_caller : (g : Over) (c : After-mark_renewal g) → IsAt c.self.inside.callers.items c.args.proposer c.index_mut-caller.result.now
at_caller g c = at_place c.self.inside.callers.items c.from-place.result c.args.proposer c.index_mut-caller.result.now c.from-place.ensures (omega (arith, c.self.invariant.safe.sound.callers, c.requires.known, ap (λ (v : (View g.row.S.Denot g.row.V.Denot)). v.last_proposer) c.self.view_is, length-map c.self.inside.callers.items caller_view)) c.index_mut-caller.ensures.value

abbrev is_due : (g : Over) (c : After-mark_renewal g) → IsDueStep (view_of c.self.inside.setup.proposers c.self.inside.council c.self.inside.acceptors.items c.self.inside.desks.items c.self.inside.callers.items c.self.inside.flow c.self.inside.record) (due.Renew c.args.proposer)
is_due g c = record {
  collection = c.in-Some.collection;
  is_collection = c.in-Some.is;
  is_due = ap (λ (x : CollectionView). x.course.step) (some_is (sym c.in-Some.is ∙ ap (λ (v : (View g.row.S.Denot g.row.V.Denot)). v.council.collection) c.self.view_is ∙ c.requires.due.is_collection)) ∙ c.requires.due.is_due;
}

is_up : (g : Over) (c : After-mark_renewal g) → c.index_mut-desk.result.now.down ≡ false
is_up g c = ap (λ (d : DeskView g.row.V.Denot). d.down) (at_one c.self.inside.desks.items c.args.proposer (at_desk g c) (at_place c.self.inside.desks.items c.from-place.result c.args.proposer c.index.result.now c.from-place.ensures (omega (arith, c.self.invariant.safe.sound.desks, c.requires.known, ap (λ (v : (View g.row.S.Denot g.row.V.Denot)). v.last_proposer) c.self.view_is)) c.index.ensures)) ∙ sym c.is_down.ensures ∙ c.if-is_down.false

some_reserved : (g : Over) (c : After-mark_renewal g) (call : OpenCall) → c.index_mut-caller.result.now.call ≡ Some call → 0 < call.reserved
some_reserved g c call is =
    call_reserves_at (view_of c.self.inside.setup.proposers c.self.inside.council c.self.inside.acceptors.items c.self.inside.desks.items c.self.inside.callers.items c.self.inside.flow c.self.inside.record) c.args.proposer (caller_view c.index_mut-caller.result.now) (call_view call) c.index_mut-desk.result.now c.self.invariant.safe.sound
    (at_map caller_view c.self.inside.callers.items c.args.proposer c.index_mut-caller.result.now (at_caller g c)) (ap (λ (o : Option OpenCall). option_map call_view o) is) (at_desk g c)

-- what became of it
did : (g : Over) (c : After-mark_renewal g) → IsRenewal (meaning g.S.Shelf g.V.Disk) (view_of c.self.inside.setup.proposers c.self.inside.council c.self.inside.acceptors.items c.self.inside.desks.items c.self.inside.callers.items c.self.inside.flow c.self.inside.record) (collecting_at (view_of c.self.inside.setup.proposers c.self.inside.council c.self.inside.acceptors.items c.self.inside.desks.items c.self.inside.callers.items c.self.inside.flow c.self.inside.record) c.in-Some.collection c.self.invariant.safe c.in-Some.is) c.args.proposer c.index_mut-desk.result.now (slice_set c.self.inside.desks.items c.args.proposer c.grow_older-renewed.new.desk) (slice_set c.self.inside.callers.items c.args.proposer c.grow_older-renewed.new.caller) c.self.inside.record.room c.mark_renewal.result (view_of c.self.inside.setup.proposers c.mark_renewal.new.council c.self.inside.acceptors.items (slice_set c.self.inside.desks.items c.args.proposer c.grow_older-renewed.new.desk) (slice_set c.self.inside.callers.items c.args.proposer c.grow_older-renewed.new.caller) c.mark_renewal.new.flow c.self.inside.record)
did g c = renewed_so (meaning g.S.Shelf g.V.Disk) c.self.inside.setup.proposers c.self.inside.council c.mark_renewal.new.council c.self.inside.acceptors.items c.self.inside.desks.items c.self.inside.callers.items c.self.inside.flow c.grow_older-renewed.new.flow c.mark_renewal.new.flow c.self.inside.record c.args.proposer c.index_mut-desk.result.now c.grow_older-renewed.new.desk c.index_mut-caller.result.now c.grow_older-renewed.new.caller
    (collecting_at (view_of c.self.inside.setup.proposers c.self.inside.council c.self.inside.acceptors.items c.self.inside.desks.items c.self.inside.callers.items c.self.inside.flow c.self.inside.record) c.in-Some.collection c.self.invariant.safe c.in-Some.is) (at_desk g c) (at_caller g c) (is_up g c) c.mark_renewal.ensures.eras c.self.invariant.copies (some_reserved g c) c.self.invariant.room c.grow_older-renewed.result c.mark_renewal.result
    (subst (λ (t : Ballot). IfOk c.grow_older-renewed.result (λ age. LeavesDesk (Renews (disk_meaning g.V.Disk) c.in-Some.collection.course.key t age) (closed_with (λ proposed. aged_answer proposed age)) c.args.proposer c.index_mut-desk.result.now c.grow_older-renewed.new.desk c.index_mut-caller.result.now c.grow_older-renewed.new.caller c.self.inside.flow c.grow_older-renewed.new.flow)) c.tomb-tomb.ensures
    (subst (λ (k : List ℕ). IfOk c.grow_older-renewed.result (λ age. LeavesDesk (Renews (disk_meaning g.V.Disk) k c.tomb-tomb.result age) (closed_with (λ proposed. aged_answer proposed age)) c.args.proposer c.index_mut-desk.result.now c.grow_older-renewed.new.desk c.index_mut-caller.result.now c.grow_older-renewed.new.caller c.self.inside.flow c.grow_older-renewed.new.flow)) c.key.ensures c.grow_older-renewed.ensures.ok))
    (λ failed. subst (λ (t : Ballot). LeavesDesk (FailsToRenew (disk_meaning g.V.Disk) t) (closed_with crash_answer) c.args.proposer c.index_mut-desk.result.now c.grow_older-renewed.new.desk
    c.index_mut-caller.result.now c.grow_older-renewed.new.caller c.self.inside.flow c.grow_older-renewed.new.flow) c.tomb-tomb.ensures (c.grow_older-renewed.ensures.fault failed))
    c.grow_older-renewed.ensures.spent (λ failed. subst (λ (t : Ballot). FindsNoAge (disk_meaning g.V.Disk) t c.index_mut-desk.result.now c.grow_older-renewed.new.desk) c.tomb-tomb.ensures (c.grow_older-renewed.ensures.no_memory failed))
    c.grow_older-renewed.ensures.stays c.mark_renewal.ensures.marks

step_at : (g : Over) (c : After-mark_renewal g) → Step (meaning g.S.Shelf g.V.Disk) (view_of c.self.inside.setup.proposers c.self.inside.council c.self.inside.acceptors.items c.self.inside.desks.items c.self.inside.callers.items c.self.inside.flow c.self.inside.record) (step.Renew c.args.proposer) (view_of c.self.inside.setup.proposers c.mark_renewal.new.council c.self.inside.acceptors.items (slice_set c.self.inside.desks.items c.args.proposer c.grow_older-renewed.new.desk) (slice_set c.self.inside.callers.items c.args.proposer c.grow_older-renewed.new.caller) c.mark_renewal.new.flow c.self.inside.record)
step_at g c = renews_next (meaning g.S.Shelf g.V.Disk) (view_of c.self.inside.setup.proposers c.self.inside.council c.self.inside.acceptors.items c.self.inside.desks.items c.self.inside.callers.items c.self.inside.flow c.self.inside.record) (view_of c.self.inside.setup.proposers c.mark_renewal.new.council c.self.inside.acceptors.items (slice_set c.self.inside.desks.items c.args.proposer c.grow_older-renewed.new.desk) (slice_set c.self.inside.callers.items c.args.proposer c.grow_older-renewed.new.caller) c.mark_renewal.new.flow c.self.inside.record) c.args.proposer c.index_mut-desk.result.now (caller_view c.index_mut-caller.result.now) c.self.invariant.safe (is_due g c) (at_desk g c) (at_map caller_view c.self.inside.callers.items c.args.proposer c.index_mut-caller.result.now (at_caller g c)) (did g c).renews

pub invariant_of-self : goal.invariant_of-self
invariant_of-self g c =
    subst (λ (i : ℕ). IsWorld (meaning g.S.Shelf g.V.Disk) (view_of c.self.inside.setup.proposers c.mark_renewal.new.council c.self.inside.acceptors.items (slice_set c.self.inside.desks.items i c.grow_older-renewed.new.desk) (slice_set c.self.inside.callers.items i c.grow_older-renewed.new.caller) c.mark_renewal.new.flow c.self.inside.record) (slice_set c.self.inside.callers.items i c.grow_older-renewed.new.caller) c.self.inside.record.room) (sym c.from-place.ensures) (record {
      safe = steps_are_safe (meaning g.S.Shelf g.V.Disk) (view_of c.self.inside.setup.proposers c.self.inside.council c.self.inside.acceptors.items c.self.inside.desks.items c.self.inside.callers.items c.self.inside.flow c.self.inside.record) (step.Renew c.args.proposer) (view_of c.self.inside.setup.proposers c.mark_renewal.new.council c.self.inside.acceptors.items (slice_set c.self.inside.desks.items c.args.proposer c.grow_older-renewed.new.desk) (slice_set c.self.inside.callers.items c.args.proposer c.grow_older-renewed.new.caller) c.mark_renewal.new.flow c.self.inside.record) c.self.invariant.safe (step_at g c);
      room = (did g c).room;
      copies = (did g c).copies;
      remembered = remembered_then (meaning g.S.Shelf g.V.Disk) (step.Renew c.args.proposer) (step_at g c) c.self.invariant.remembered;
    })

pub returns-clause-step : goal.returns-clause-step
returns-clause-step g c = subst (λ (i : ℕ). Step (meaning g.S.Shelf g.V.Disk) c.args.self.now (step.Renew c.args.proposer) (view_of c.self.inside.setup.proposers c.mark_renewal.new.council c.self.inside.acceptors.items (slice_set c.self.inside.desks.items i c.grow_older-renewed.new.desk) (slice_set c.self.inside.callers.items i c.grow_older-renewed.new.caller) c.mark_renewal.new.flow c.self.inside.record)) (sym c.from-place.ensures) (seen_from (meaning g.S.Shelf g.V.Disk) (step.Renew c.args.proposer) (view_of c.self.inside.setup.proposers c.mark_renewal.new.council c.self.inside.acceptors.items (slice_set c.self.inside.desks.items c.args.proposer c.grow_older-renewed.new.desk) (slice_set c.self.inside.callers.items c.args.proposer c.grow_older-renewed.new.caller) c.mark_renewal.new.flow c.self.inside.record) c.self.view_is (step_at g c))

pub returns-clause-ok : goal.returns-clause-ok
returns-clause-ok g c = subst (λ (i : ℕ). OnOk c.mark_renewal.result (GoesOnCollecting c.args.self.now (view_of c.self.inside.setup.proposers c.mark_renewal.new.council c.self.inside.acceptors.items (slice_set c.self.inside.desks.items i c.grow_older-renewed.new.desk) (slice_set c.self.inside.callers.items i c.grow_older-renewed.new.caller) c.mark_renewal.new.flow c.self.inside.record))) (sym c.from-place.ensures)
    (subst (λ (v : (View g.row.S.Denot g.row.V.Denot)). OnOk c.mark_renewal.result (GoesOnCollecting v (view_of c.self.inside.setup.proposers c.mark_renewal.new.council c.self.inside.acceptors.items (slice_set c.self.inside.desks.items c.args.proposer c.grow_older-renewed.new.desk) (slice_set c.self.inside.callers.items c.args.proposer c.grow_older-renewed.new.caller) c.mark_renewal.new.flow c.self.inside.record))) c.self.view_is (did g c).ok)

pub returns-clause-err : goal.returns-clause-err
returns-clause-err g c = subst (λ (i : ℕ). IfErr c.mark_renewal.result (WasToldOrder (view_of c.self.inside.setup.proposers c.mark_renewal.new.council c.self.inside.acceptors.items (slice_set c.self.inside.desks.items i c.grow_older-renewed.new.desk) (slice_set c.self.inside.callers.items i c.grow_older-renewed.new.caller) c.mark_renewal.new.flow c.self.inside.record))) (sym c.from-place.ensures) (did g c).err

pub returns-clause-age : goal.returns-clause-age
returns-clause-age g c = subst (λ (v : (View g.row.S.Denot g.row.V.Denot)). IfOk c.mark_renewal.result (λ age. IsNextAge v c.args.proposer age)) c.self.view_is (next_ages c.self.inside.desks.items c.args.proposer c.index_mut-desk.result.now c.mark_renewal.result (at_desk g c) (did g c).older)
