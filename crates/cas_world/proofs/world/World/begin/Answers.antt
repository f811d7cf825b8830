use Rattle.std.proofs.Common.{◌<◌, ◌≡◌, ℕ, ◌+◌, ◌++◌, List, Option, Err, inl, inr, length, sum_by, slice_set, refl, sym, ap, subst, ◌∙◌, arith}
use Rattle.std.specs.Prelude.{⊤, IsSome, IfOk}
use Rattle.cas_world.proofs.Calls.Told.{begin_cause}
use Rattle.cas_record.specs.declared.answer.Answer.{Answer}
use Rattle.cas_record.specs.declared.mark.Mark.{Mark}
use Rattle.cas_model.specs.Calls.Step.{round_marks}
use Rattle.cas_model.specs.View.{View, IsAt, meaning, new_caller, era_at, era_in, reserved_of as seen_reserved, disk_meaning}
use Rattle.cas_record.specs.declared.answer.Answer.TheVariants as answer
use Rattle.cas_quorum.specs.declared.era.Era.{Era}
use Rattle.cas_model.specs.Council.{reserved_by}
use Rattle.cas_world_calls.specs.Council.{council_view}
use Rattle.cas_world.specs.Calls.Beginning.{OpensRound, refused, reserved_beside, settled_marks, BeginsOrNot, Heeds, HeedsLoss}
use Rattle.cas_model.specs.Safe.{IsSafe}
use Rattle.cas_model.proofs.Places.{some_is}
use Rattle.cas_model.proofs.Safety.Marks.{full_for_rounds}
use Rattle.cas_world_calls.specs.Call.{reserved_of}
use Rattle.cas_world.specs.World.{view_of}
use Rattle.cas_world_calls.specs.declared.call.Caller.{Caller}
use Rattle.cas_world_calls.specs.declared.call.OpenCall.{OpenCall}
use Rattle.cas_world.proofs.Calls.Begins.{beside_none}
use Rattle.cas_world.proofs.Calls.Reserving.{sum_seen}
use Rattle.cas_world.proofs.Calls.Settling.{found, found_caller, found_desk, all_fit, not_more, never_full, SettlesCall, not_made, settles}
use Rattle.cas_world.proofs.world.World.begin.Given.{Over}
use Rattle.cas_world.proofs.world.World.begin.Goals as goal

pub make_room-requires-clause-few : goal.make_room-requires-clause-few
make_room-requires-clause-few g c =
    let all : sum_by reserved_of c.deref.result.now ≡ sum_by reserved_of c.self.inside.callers.items = ap (λ (l : List Caller). sum_by reserved_of l) c.deref.ensures.value in
    omega (arith, all, sum_seen c.self.inside.callers.items, c.self.invariant.safe.sound.room)

-- ---- no room was made
over_full : (g : Over) (c : goal.After-self-1 g) → c.in-Err.refusal ≡ answer.RecordFull → 1000000 < length c.self.inside.record.marks + reserved_beside c.self.inside.callers.items c.args.caller + reserved_by (council_view c.self.inside.council) + round_marks (era_in c.self.inside.council.eras.0 c.args.caller)
over_full g c is_full =
    let beside : reserved_beside c.deref.result.now c.args.caller ≡ reserved_beside c.self.inside.callers.items c.args.caller = ap (λ (l : List Caller). reserved_beside l c.args.caller) c.deref.ensures.value in
    omega (arith, c.in-Err.ensures.full.0 (ap (λ (a : Answer). Err a) is_full), beside, c.round_marks-marks.ensures.value, ap round_marks c.of.ensures)

heeded : (g : Over) (c : goal.After-self-1 g) → Heeds c.index_mut.result.now.call (council_view c.self.inside.council) c.args.caller c.args.key.now c.in-Err.refusal (council_view c.heed.new.council)
heeded g c =
    let asking = found_caller c.self.inside.setup.proposers c.self.inside.council c.self.inside.acceptors.items c.self.inside.desks.items c.self.inside.callers.items c.self.inside.flow c.self.inside.record c.args.self.now c.from-place.result c.args.caller c.args.call c.args.key.now c.args.program.now c.from-place.ensures c.self.view_is c.requires.known c.self.invariant.safe c.requires.may c.index-asking.result.now c.index-asking.ensures in
    let at = found_caller c.self.inside.setup.proposers c.self.inside.council c.self.inside.acceptors.items c.self.inside.desks.items c.self.inside.callers.items c.self.inside.flow c.self.inside.record c.args.self.now c.from-place.result c.args.caller c.args.call c.args.key.now c.args.program.now c.from-place.ensures c.self.view_is c.requires.known c.self.invariant.safe c.requires.may c.index_mut.result.now c.index_mut.ensures.value in
    subst (λ (x : Caller). Heeds x.call (council_view c.self.inside.council) c.args.caller c.args.key.now c.in-Err.refusal (council_view c.heed.new.council)) (some_is (sym asking.1.at_caller ∙ at.1.at_caller)) c.heed.ensures.heeds

not_begun : (g : Over) (c : goal.After-self-1 g) → SettlesCall {A = ⊤} (meaning g.S.Shelf g.V.Disk) (view_of c.self.inside.setup.proposers c.self.inside.council c.self.inside.acceptors.items c.self.inside.desks.items c.self.inside.callers.items c.self.inside.flow c.self.inside.record) c.args.caller c.args.call c.args.key.now c.args.program.now (view_of c.self.inside.setup.proposers c.heed.new.council c.self.inside.acceptors.items c.self.inside.desks.items (slice_set c.self.inside.callers.items c.from-place.result c.refuse.new.caller) c.self.inside.flow c.make_room.new.record) (slice_set c.self.inside.callers.items c.from-place.result c.refuse.new.caller) c.make_room.new.record.room (Err c.refuse.result)
not_begun g c =
    let at = found_caller c.self.inside.setup.proposers c.self.inside.council c.self.inside.acceptors.items c.self.inside.desks.items c.self.inside.callers.items c.self.inside.flow c.self.inside.record c.args.self.now c.from-place.result c.args.caller c.args.call c.args.key.now c.args.program.now c.from-place.ensures c.self.view_is c.requires.known c.self.invariant.safe c.requires.may c.index_mut.result.now c.index_mut.ensures.value in
    subst (λ (i : ℕ). SettlesCall {A = ⊤} (meaning g.S.Shelf g.V.Disk) (view_of c.self.inside.setup.proposers c.self.inside.council c.self.inside.acceptors.items c.self.inside.desks.items c.self.inside.callers.items c.self.inside.flow c.self.inside.record) c.args.caller c.args.call c.args.key.now c.args.program.now (view_of c.self.inside.setup.proposers c.heed.new.council c.self.inside.acceptors.items c.self.inside.desks.items (slice_set c.self.inside.callers.items i c.refuse.new.caller) c.self.inside.flow c.make_room.new.record) (slice_set c.self.inside.callers.items i c.refuse.new.caller) c.make_room.new.record.room (Err c.refuse.result)) (sym c.from-place.ensures)
    (subst (λ (x : Caller). SettlesCall {A = ⊤} (meaning g.S.Shelf g.V.Disk) (view_of c.self.inside.setup.proposers c.self.inside.council c.self.inside.acceptors.items c.self.inside.desks.items c.self.inside.callers.items c.self.inside.flow c.self.inside.record) c.args.caller c.args.call c.args.key.now c.args.program.now (view_of c.self.inside.setup.proposers c.heed.new.council c.self.inside.acceptors.items c.self.inside.desks.items (slice_set c.self.inside.callers.items c.args.caller x) c.self.inside.flow c.make_room.new.record) (slice_set c.self.inside.callers.items c.args.caller x) c.make_room.new.record.room (Err c.refuse.result)) (sym c.refuse.ensures.caller)
    (subst (λ (r : Answer). SettlesCall {A = ⊤} (meaning g.S.Shelf g.V.Disk) (view_of c.self.inside.setup.proposers c.self.inside.council c.self.inside.acceptors.items c.self.inside.desks.items c.self.inside.callers.items c.self.inside.flow c.self.inside.record) c.args.caller c.args.call c.args.key.now c.args.program.now (view_of c.self.inside.setup.proposers c.heed.new.council c.self.inside.acceptors.items c.self.inside.desks.items (slice_set c.self.inside.callers.items c.args.caller (refused c.index_mut.result.now c.in-Err.refusal)) c.self.inside.flow c.make_room.new.record) (slice_set c.self.inside.callers.items c.args.caller (refused c.index_mut.result.now c.in-Err.refusal)) c.make_room.new.record.room (Err r)) (sym c.refuse.ensures.answer)
    (not_made ⊤ (meaning g.S.Shelf g.V.Disk) c.self.inside.setup.proposers c.self.inside.council c.self.inside.acceptors.items c.self.inside.desks.items c.self.inside.callers.items c.self.inside.flow c.self.inside.record c.args.caller c.args.call c.args.key.now c.args.program.now at.0 c.index_mut.result.now c.self.invariant at.1.at_desk at.1.at_caller c.heed.new.council c.heed.ensures.eras c.in-Err.refusal c.make_room.new.record at.1.may c.in-Err.ensures.refused (heeded g c) (over_full g c) c.make_room.ensures.made c.make_room.ensures.grows)))

pub invariant_of-self : goal.invariant_of-self
invariant_of-self g c = (not_begun g c).world

pub returns-in-Err-clause-step : goal.returns-in-Err-clause-step
returns-in-Err-clause-step g c = subst (λ (v : View _ _). BeginsOrNot {A = ⊤} (meaning g.S.Shelf g.V.Disk) v c.args.caller c.args.call c.args.key.now c.args.program.now (Err c.refuse.result) (view_of c.self.inside.setup.proposers c.heed.new.council c.self.inside.acceptors.items c.self.inside.desks.items (slice_set c.self.inside.callers.items c.from-place.result c.refuse.new.caller) c.self.inside.flow c.make_room.new.record)) c.self.view_is (not_begun g c).answers

pub returns-in-Err-clause-full : goal.returns-in-Err-clause-full
returns-in-Err-clause-full g c =
    let at = found_caller c.self.inside.setup.proposers c.self.inside.council c.self.inside.acceptors.items c.self.inside.desks.items c.self.inside.callers.items c.self.inside.flow c.self.inside.record c.args.self.now c.from-place.result c.args.caller c.args.call c.args.key.now c.args.program.now c.from-place.ensures c.self.view_is c.requires.known c.self.invariant.safe c.requires.may c.index_mut.result.now c.index_mut.ensures.value in
    let counted : length c.args.self.now.marks ≡ length c.self.inside.record.marks = ap (λ (v : View _ _). length v.marks) (sym c.self.view_is) in
    let others : seen_reserved (slice_set c.args.self.now.callers c.args.caller new_caller) ≡ reserved_beside c.self.inside.callers.items c.args.caller =
    ap (λ (v : View _ _). seen_reserved (slice_set v.callers c.args.caller new_caller)) (sym c.self.view_is) ∙ beside_none c.self.inside.callers.items c.args.caller at.1.place in
    let beside : reserved_beside c.deref.result.now c.args.caller ≡ reserved_beside c.self.inside.callers.items c.args.caller = ap (λ (l : List Caller). reserved_beside l c.args.caller) c.deref.ensures.value in
    let aside : reserved_by c.args.self.now.council ≡ reserved_by (council_view c.self.inside.council) = ap (λ (v : View _ _). reserved_by v.council) (sym c.self.view_is) in
    let needs : round_marks (era_at c.args.self.now c.args.caller) ≡ c.round_marks-marks.result = ap (λ (v : View _ _). round_marks (era_at v c.args.caller)) (sym c.self.view_is) ∙ sym (c.round_marks-marks.ensures.value ∙ ap round_marks c.of.ensures) in (
      λ full. let is : c.in-Err.refusal ≡ answer.RecordFull = cc (full, c.refuse.ensures.answer) in omega (arith, c.in-Err.ensures.full.0 (ap (λ (a : Answer). Err a) is), counted, others, beside, needs, aside, c.reserved.ensures),
      λ many. let is : c.in-Err.refusal ≡ answer.RecordFull = cc (c.in-Err.ensures.full.1 (omega (arith, many, counted, others, beside, needs, aside, c.reserved.ensures))) in ap (λ (a : Answer). Err a) (c.refuse.ensures.answer ∙ is),
    )

-- ---- room was made
pub open_round-begun-requires-clause-idle : goal.open_round-begun-requires-clause-idle
open_round-begun-requires-clause-idle g c = (found_desk c.self.inside.setup.proposers c.self.inside.council c.self.inside.acceptors.items c.self.inside.desks.items c.self.inside.callers.items c.self.inside.flow c.self.inside.record c.args.self.now c.from-place.result c.args.caller c.args.call c.args.key.now c.args.program.now c.from-place.ensures c.self.view_is c.requires.known c.self.invariant.safe c.requires.may c.index_mut-desk.result.now c.index_mut-desk.ensures.value).1.idle

pub open_round-begun-requires-clause-proposer : goal.open_round-begun-requires-clause-proposer
open_round-begun-requires-clause-proposer g c =
    let at = found_desk c.self.inside.setup.proposers c.self.inside.council c.self.inside.acceptors.items c.self.inside.desks.items c.self.inside.callers.items c.self.inside.flow c.self.inside.record c.args.self.now c.from-place.result c.args.caller c.args.call c.args.key.now c.args.program.now c.from-place.ensures c.self.view_is c.requires.known c.self.invariant.safe c.requires.may c.index_mut-desk.result.now c.index_mut-desk.ensures.value in omega (arith, at.1.same_id, at.1.low)

pub open_round-begun-requires-clause-promise : goal.open_round-begun-requires-clause-promise
open_round-begun-requires-clause-promise g c = all_fit c.args.key.now c.index_mut-desk.result.now.cache _ refl (found_desk c.self.inside.setup.proposers c.self.inside.council c.self.inside.acceptors.items c.self.inside.desks.items c.self.inside.callers.items c.self.inside.flow c.self.inside.record c.args.self.now c.from-place.result c.args.caller c.args.call c.args.key.now c.args.program.now c.from-place.ensures c.self.view_is c.requires.known c.self.invariant.safe c.requires.may c.index_mut-desk.result.now c.index_mut-desk.ensures.value).1.fits

pub settle-requires-clause-open : goal.settle-requires-clause-open
settle-requires-clause-open g c is_none =
    let at = found c.self.inside.setup.proposers c.self.inside.council c.self.inside.acceptors.items c.self.inside.desks.items c.self.inside.callers.items c.self.inside.flow c.self.inside.record c.args.self.now c.from-place.result c.args.caller c.args.call c.args.key.now c.args.program.now c.from-place.ensures c.self.view_is c.requires.known c.self.invariant.safe c.requires.may c.index_mut-desk.result.now c.index_mut-caller.result.now c.index_mut-desk.ensures.value c.index_mut-caller.ensures.value in elim at.may [
      | inl first ↦ absurd (cc (is_none, c.in-Ok.ensures.first c.index_mut-caller.result.now (subst (λ (l : List Caller). IsAt l c.args.caller c.index_mut-caller.result.now) (sym c.deref.ensures.value) at.at_caller) first.none_open))
      | inr another ↦ subst (λ (o : Option OpenCall). IsSome o) (sym another.is_call) refl
    ]

pub settle-requires-clause-number : goal.settle-requires-clause-number
settle-requires-clause-number g c = let at = found c.self.inside.setup.proposers c.self.inside.council c.self.inside.acceptors.items c.self.inside.desks.items c.self.inside.callers.items c.self.inside.flow c.self.inside.record c.args.self.now c.from-place.result c.args.caller c.args.call c.args.key.now c.args.program.now c.from-place.ensures c.self.view_is c.requires.known c.self.invariant.safe c.requires.may c.index_mut-desk.result.now c.index_mut-caller.result.now c.index_mut-desk.ensures.value c.index_mut-caller.ensures.value in omega (arith, at.number_low)

heeded_loss : (g : Over) (c : goal.After-self-3-1 g) → HeedsLoss c.index_mut-caller.result.now.call (council_view c.self.inside.council) c.args.caller c.args.key.now c.open_round-begun.result (council_view c.heed_loss.new.council)
heeded_loss g c =
    let asking = found_caller c.self.inside.setup.proposers c.self.inside.council c.self.inside.acceptors.items c.self.inside.desks.items c.self.inside.callers.items c.self.inside.flow c.self.inside.record c.args.self.now c.from-place.result c.args.caller c.args.call c.args.key.now c.args.program.now c.from-place.ensures c.self.view_is c.requires.known c.self.invariant.safe c.requires.may c.index-asking-2.result.now c.index-asking-2.ensures in
    let at = found_caller c.self.inside.setup.proposers c.self.inside.council c.self.inside.acceptors.items c.self.inside.desks.items c.self.inside.callers.items c.self.inside.flow c.self.inside.record c.args.self.now c.from-place.result c.args.caller c.args.call c.args.key.now c.args.program.now c.from-place.ensures c.self.view_is c.requires.known c.self.invariant.safe c.requires.may c.index_mut-caller.result.now c.index_mut-caller.ensures.value in
    subst (λ (x : Caller). HeedsLoss x.call (council_view c.self.inside.council) c.args.caller c.args.key.now c.open_round-begun.result (council_view c.heed_loss.new.council)) (some_is (sym asking.1.at_caller ∙ at.1.at_caller)) c.heed_loss.ensures.heeds

begun : (g : Over) (c : goal.After-self-3-1 g) → SettlesCall {A = ⊤} (meaning g.S.Shelf g.V.Disk) (view_of c.self.inside.setup.proposers c.self.inside.council c.self.inside.acceptors.items c.self.inside.desks.items c.self.inside.callers.items c.self.inside.flow c.self.inside.record) c.args.caller c.args.call c.args.key.now c.args.program.now (view_of c.self.inside.setup.proposers c.heed_loss.new.council c.self.inside.acceptors.items (slice_set c.self.inside.desks.items c.from-place.result c.open_round-begun.new.desk) (slice_set c.self.inside.callers.items c.from-place.result c.settle.new.caller) c.open_round-begun.new.flow c.settle.new.record) (slice_set c.self.inside.callers.items c.from-place.result c.settle.new.caller) c.settle.new.record.room c.settle.result
begun g c =
    let at = found c.self.inside.setup.proposers c.self.inside.council c.self.inside.acceptors.items c.self.inside.desks.items c.self.inside.callers.items c.self.inside.flow c.self.inside.record c.args.self.now c.from-place.result c.args.caller c.args.call c.args.key.now c.args.program.now c.from-place.ensures c.self.view_is c.requires.known c.self.invariant.safe c.requires.may c.index_mut-desk.result.now c.index_mut-caller.result.now c.index_mut-desk.ensures.value c.index_mut-caller.ensures.value in
    let there : IsAt c.deref.result.now c.args.caller c.index_mut-caller.result.now = subst (λ (l : List Caller). IsAt l c.args.caller c.index_mut-caller.result.now) (sym c.deref.ensures.value) at.at_caller in
    let beside : reserved_beside c.deref.result.now c.args.caller ≡ reserved_beside c.self.inside.callers.items c.args.caller = ap (λ (l : List Caller). reserved_beside l c.args.caller) c.deref.ensures.value in
    let few = not_more (length c.self.inside.record.marks + reserved_beside c.deref.result.now c.args.caller + c.reserved.result + c.round_marks-marks.result) (λ many. absurd (cc (c.in-Ok.ensures.full.1 many))) in
    subst (λ (i : ℕ). SettlesCall {A = ⊤} (meaning g.S.Shelf g.V.Disk) (view_of c.self.inside.setup.proposers c.self.inside.council c.self.inside.acceptors.items c.self.inside.desks.items c.self.inside.callers.items c.self.inside.flow c.self.inside.record) c.args.caller c.args.call c.args.key.now c.args.program.now (view_of c.self.inside.setup.proposers c.heed_loss.new.council c.self.inside.acceptors.items (slice_set c.self.inside.desks.items i c.open_round-begun.new.desk) (slice_set c.self.inside.callers.items i c.settle.new.caller) c.open_round-begun.new.flow c.settle.new.record) (slice_set c.self.inside.callers.items i c.settle.new.caller) c.settle.new.record.room c.settle.result) (sym c.from-place.ensures)
    (subst (λ (x : Caller). SettlesCall {A = ⊤} (meaning g.S.Shelf g.V.Disk) (view_of c.self.inside.setup.proposers c.self.inside.council c.self.inside.acceptors.items c.self.inside.desks.items c.self.inside.callers.items c.self.inside.flow c.self.inside.record) c.args.caller c.args.call c.args.key.now c.args.program.now (view_of c.self.inside.setup.proposers c.heed_loss.new.council c.self.inside.acceptors.items (slice_set c.self.inside.desks.items c.args.caller c.open_round-begun.new.desk) (slice_set c.self.inside.callers.items c.args.caller x) c.open_round-begun.new.flow c.settle.new.record) (slice_set c.self.inside.callers.items c.args.caller x) c.settle.new.record.room c.settle.result) (sym c.settle.ensures.caller)
    (settles ⊤ (meaning g.S.Shelf g.V.Disk) c.self.inside.setup.proposers c.self.inside.council c.self.inside.acceptors.items c.self.inside.desks.items c.self.inside.callers.items c.self.inside.flow c.self.inside.record c.args.caller c.args.call c.args.key.now c.args.program.now c.index_mut-desk.result.now c.index_mut-caller.result.now c.self.invariant at.at_desk at.at_caller
    c.round_marks-marks.result (c.round_marks-marks.ensures.value ∙ ap round_marks c.of.ensures) (omega (arith, few, beside)) c.in-Ok.opening (λ none. c.in-Ok.ensures.first c.index_mut-caller.result.now there none) (λ some. c.in-Ok.ensures.again c.index_mut-caller.result.now there some)
    at.may c.open_round-begun.new.desk c.open_round-begun.new.flow c.settle.new.record c.make_room.new.record.room (omega (arith, beside, c.in-Ok.ensures.room)) c.make_room.ensures.grows c.heed_loss.new.council c.heed_loss.ensures.eras
    c.open_round-begun.result (subst (λ (e : Era). IfOk c.open_round-begun.result (OpensRound (disk_meaning g.V.Disk) e c.args.key.now c.args.program.now (record { caller = c.args.caller; call = c.args.call }) c.index_mut-desk.result.now c.open_round-begun.new.desk c.self.inside.flow c.open_round-begun.new.flow)) c.of.ensures c.open_round-begun.ensures.opens) c.open_round-begun.ensures.refused c.open_round-begun.ensures.not_sent (heeded_loss g c)
    (c.settle.ensures.marks ∙ ap (λ (l : List Mark). l ++ settled_marks c.in-Ok.opening c.open_round-begun.result) c.make_room.ensures.made) c.settle.ensures.left c.settle.result c.settle.ensures.refused c.settle.ensures.begun_))

pub invariant_of-self-2 : goal.invariant_of-self-2
invariant_of-self-2 g c = (begun g c).world

pub returns-clause-step : goal.returns-clause-step
returns-clause-step g c = subst (λ (v : View _ _). BeginsOrNot {A = ⊤} (meaning g.S.Shelf g.V.Disk) v c.args.caller c.args.call c.args.key.now c.args.program.now c.settle.result
    (view_of c.self.inside.setup.proposers c.heed_loss.new.council c.self.inside.acceptors.items (slice_set c.self.inside.desks.items c.from-place.result c.open_round-begun.new.desk) (slice_set c.self.inside.callers.items c.from-place.result c.settle.new.caller) c.open_round-begun.new.flow c.settle.new.record)) c.self.view_is (begun g c).answers

pub returns-clause-full : goal.returns-clause-full
returns-clause-full g c =
    let at = found c.self.inside.setup.proposers c.self.inside.council c.self.inside.acceptors.items c.self.inside.desks.items c.self.inside.callers.items c.self.inside.flow c.self.inside.record c.args.self.now c.from-place.result c.args.caller c.args.call c.args.key.now c.args.program.now c.from-place.ensures c.self.view_is c.requires.known c.self.invariant.safe c.requires.may c.index_mut-desk.result.now c.index_mut-caller.result.now c.index_mut-desk.ensures.value c.index_mut-caller.ensures.value in
    let counted : length c.args.self.now.marks ≡ length c.self.inside.record.marks = ap (λ (v : View _ _). length v.marks) (sym c.self.view_is) in
    let others : seen_reserved (slice_set c.args.self.now.callers c.args.caller new_caller) ≡ reserved_beside c.self.inside.callers.items c.args.caller =
    ap (λ (v : View _ _). seen_reserved (slice_set v.callers c.args.caller new_caller)) (sym c.self.view_is) ∙ beside_none c.self.inside.callers.items c.args.caller at.place in
    let beside : reserved_beside c.deref.result.now c.args.caller ≡ reserved_beside c.self.inside.callers.items c.args.caller = ap (λ (l : List Caller). reserved_beside l c.args.caller) c.deref.ensures.value in
    let aside : reserved_by c.args.self.now.council ≡ reserved_by (council_view c.self.inside.council) = ap (λ (v : View _ _). reserved_by v.council) (sym c.self.view_is) in
    let needs : round_marks (era_at c.args.self.now c.args.caller) ≡ c.round_marks-marks.result = ap (λ (v : View _ _). round_marks (era_at v c.args.caller)) (sym c.self.view_is) ∙ sym (c.round_marks-marks.ensures.value ∙ ap round_marks c.of.ensures) in (
      λ full. absurd (never_full (disk_meaning g.V.Disk) c.args.key.now c.index_mut-desk.result.now c.open_round-begun.new.desk c.open_round-begun.result c.settle.result c.open_round-begun.ensures.refused c.settle.ensures.refused c.settle.ensures.begun_ full),
      λ many. absurd (cc (c.in-Ok.ensures.full.1 (omega (arith, many, counted, others, beside, needs, aside, c.reserved.ensures)))),
    )

pub returns-in-Err-clause-cause : goal.returns-in-Err-clause-cause
returns-in-Err-clause-cause g c = begin_cause _ c.args.self.now _ c.args.caller c.args.call c.args.key.now c.args.program.now _ (λ full. (returns-in-Err-clause-full g c).0 full) (returns-in-Err-clause-step g c)

pub returns-clause-cause : goal.returns-clause-cause
returns-clause-cause g c = begin_cause _ c.args.self.now _ c.args.caller c.args.call c.args.key.now c.args.program.now _ (λ full. (returns-clause-full g c).0 full) (returns-clause-step g c)

-- ---- a full record is long
pub returns-in-Err-clause-long : goal.returns-in-Err-clause-long
returns-in-Err-clause-long g c full = full_for_rounds c.args.self.now c.args.caller (subst (λ (v : View _ _). IsSafe v) c.self.view_is c.self.invariant.safe) ((returns-in-Err-clause-full g c).0 full)

pub returns-clause-long : goal.returns-clause-long
returns-clause-long g c full = full_for_rounds c.args.self.now c.args.caller (subst (λ (v : View _ _). IsSafe v) c.self.view_is c.self.invariant.safe) ((returns-clause-full g c).0 full)
