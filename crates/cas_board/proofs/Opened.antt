-- A store in which nothing has happened but that floors were marked.
use Rattle.std.proofs.Common.{◌≡◌, ℕ, zero, suc, List, [], ◌++◌, ◌+◌, ◌<◌, ◌≤◌, length, All, Option, None, Some, slice_get, refl, sym, ap, ◌∙◌, arith}
use Rattle.std.specs.Prelude.{slice_index_or}
use Rattle.std.specs.List.{range_with_len}
use Rattle.std.proofs.lemmas.List.Elements.{All-map}
use Rattle.std.proofs.lemmas.List.FromFn.{length-range_with_len, get_or-range_with_len}
use Rattle.cas_record.specs.declared.mark.Mark.{Mark}
use Rattle.cas_model.specs.Openings.{Opening, IsOpeningOn}
use Rattle.cas_model.specs.SafeLaws.{HasPlaces}
use Rattle.cas_model.specs.View.{Meaning, View, CallerView, IsAt, new_caller}
use Rattle.cas_turn.specs.Sitting.{Sitting, Turning, fresh_seat, fresh_seats}
use Rattle.cas_board.specs.Passes.{IsPassOf}
use Rattle.cas_board_steps.specs.Calls.Open.{NothingIsOpen}
use Rattle.cas_board_steps.specs.Kept.{IsKept}
use Rattle.cas_board_steps.specs.OwnParts.{caller_part, council_part, own_part}

no_call : {S V : Type 0} (m : Meaning S V) (members used : List ℕ) (floors : List Opening) (view : View S V) → IsOpeningOn m members used floors view → (id : ℕ) (caller : CallerView) → IsAt view.callers id caller → caller.call ≡ None
no_call m members used floors view opening id caller at = ap (λ (c : CallerView). c.call) (opening.callers id caller at)

pub opening_kept : {S V : Type 0} (m : Meaning S V) (members used : List ℕ) (floors : List Opening) (view : View S V) → IsOpeningOn m members used floors view → HasPlaces view → IsKept view
opening_kept m members used floors view opening places = record {
  places = record { desks = places.desks; callers = places.callers };
  staged = λ id desk caller call at_desk at_caller is_call. absurd (cc (sym (no_call m members used floors view opening id caller at_caller) ∙ is_call));
  wanted = λ id caller call at_caller is_call. absurd (cc (sym (no_call m members used floors view opening id caller at_caller) ∙ is_call));
}

caller_none : {S V : Type 0} (m : Meaning S V) (members used : List ℕ) (floors : List Opening) (view : View S V) → IsOpeningOn m members used floors view → (id : ℕ) → caller_part (slice_get view.callers id) ≡ []
caller_none m members used floors view opening id = by_caller (slice_get view.callers id) (λ caller at. opening.callers id caller at)
  where
    by_caller : (o : Option CallerView) → ((caller : CallerView) → o ≡ Some caller → caller ≡ new_caller) → caller_part o ≡ []
    by_caller None new = refl
    by_caller (Some caller) new = ap (λ (c : CallerView). caller_part (Some c)) (new caller refl)

-- nothing is anybody's own
pub opening_parts : {S V : Type 0} (m : Meaning S V) (members used : List ℕ) (floors : List Opening) (view : View S V) → IsOpeningOn m members used floors view → (n : ℕ) → own_part view n ≡ []
opening_parts m members used floors view opening zero = ap (λ (l : List ℕ). l ++ council_part view.council) (caller_none m members used floors view opening zero) ∙ ap council_part opening.council
opening_parts m members used floors view opening (suc n) = caller_none m members used floors view opening (suc n)

-- each pass of a new board is that board's, and has nothing open
pub fresh_passes : {V : Type 0} (turn : Turning) (count : ℕ) (seen : List Mark) → turn.seats ≡ count → count ≤ 17 → All (λ (p : Sitting V Mark). IsPassOf turn p × NothingIsOpen p.own) (fresh_seats turn.id count seen)
fresh_passes {V} turn count seen many few = All-map (λ (p : Sitting V Mark). IsPassOf turn p × NothingIsOpen p.own) (fresh_seat turn.id count seen) (range_with_len 0 count) (λ k d low. (
  record { turn = refl; seats = sym many; idle = refl; seated = (let below = place k d low in omega (arith, below, many)); known = (let below = place k d low in omega (arith, below, few)) },
  record { plan = None; is = refl },
))
  where
    place : (k d : ℕ) → k < length (range_with_len 0 count) → slice_index_or (range_with_len 0 count) k d < count
    place k d low =
        let long = length-range_with_len 0 count in
        let here : slice_index_or (range_with_len 0 count) k d ≡ 0 + k = get_or-range_with_len 0 count k d (omega (arith, low, long)) in
        omega (arith, here, low, long)
