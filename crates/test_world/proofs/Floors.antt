-- Shelves that hold one floor, and a play in a world that goes on from floors.
use Rattle.std.proofs.Common.{◌≡◌, ◌≤◌, ℕ, List, [], ◌∷◌, Bool, None, Some, refl, sym, ap, subst, ◌∙◌, inl, inr, arith}
use Rattle.std.specs.Prelude.{Contains}
use Rattle.cas_round.proofs.Lists.{has}
use Rattle.cas_slot.specs.Contents.{Contents, nothing, kept_at, with_kept}
use Rattle.cas_slot.proofs.SlotsLemmas.{slot_at-with_slot_same, slot_at-with_slot_other}
use Rattle.cas_model.specs.Council.{Council}
use Rattle.cas_model.specs.Openings.{Opening, slot_of, HoldsFloors, IsOpeningOn}
use Rattle.cas_model.specs.SafeLaws.{HasPlaces}
use Rattle.cas_model.specs.View.{Meaning, View, CallerView, IsAt}
use Rattle.cas_protocol.proofs.Events.{none_kept}
use Rattle.cas_model.proofs.Openings.Safe.{opens_on_are_safe}
use Rattle.cas_model.proofs.Safety.Parts.{at_low}
use Rattle.cas_world.specs.Openings.OpeningOn.{opening_of, openings_of, MembersHold}
use Rattle.cas_world.specs.declared.reopen.OpeningFloor.{OpeningFloor}
use Rattle.test_world.specs.Play.{IsPlay}

-- ---- one floor
the_one : (o p : Opening) → Contains (o ∷ []) p → p ≡ o
the_one o p c = elim (has p (o ∷ []) c) [ inl same ↦ sym same | inr none ↦ absurd none ]

pub holds_one : (o : Opening) (kept : Contents) → kept ≡ with_kept nothing o.key (slot_of o) → HoldsFloors (o ∷ []) kept
holds_one o kept is = subst (HoldsFloors (o ∷ [])) (sym is) (record {
  each = λ p c. subst (λ (x : Opening). kept_at (with_kept nothing o.key (slot_of o)) x.key ≡ Some (slot_of x)) (sym (the_one o p c)) (slot_at-with_slot_same nothing.slots o.key (slot_of o));
  no_other = λ key apart. slot_at-with_slot_other nothing.slots o.key (slot_of o) key (λ same. apart o (0, omega arith, refl) (sym same)) ∙ none_kept key;
})

pub members_hold : {S : Type 0} (is_up : S → Type 0) (contents : S → Contents) (members : List ℕ) (floors : List OpeningFloor) (floor : OpeningFloor) (shelves : List S) → floors ≡ floor ∷ []
    → ((id : ℕ) (shelf : S) → IsAt shelves id shelf → is_up shelf × HoldsFloors (opening_of floor ∷ []) (contents shelf)) → MembersHold is_up contents members (openings_of floors) shelves
members_hold is_up contents members floors floor shelves one each = subst (λ (l : List OpeningFloor). MembersHold is_up contents members (openings_of l) shelves) (sym one) (record {
  up = λ id shelf member at. (each id shelf at).0;
  holds = λ id shelf member at. (each id shelf at).1;
})

-- ---- a new play
pub new_play_on : {S V : Type 0} (m : Meaning S V) (members used : List ℕ) (floors : List Opening) (world : View S V) (proposers : ℕ) (calls : List Bool) → IsOpeningOn m members used floors world → HasPlaces world
    → world.last_proposer ≡ proposers → IsPlay world proposers calls None
new_play_on m members used floors world proposers calls opening places known = record {
  known = known;
  few = subst (λ (n : ℕ). n ≤ 16) known opening.few;
  safe = opens_on_are_safe m members used floors world opening places;
  idle = λ id low closed.
      (let there = at_low world.callers id (omega (arith, places.callers, low, known)) in
      record { caller = there.0; at_caller = there.1; none_open = ap (λ (c : CallerView). c.call) (opening.callers id there.0 there.1) });
  quiet = ap (λ (c : Council). c.exchange) opening.council;
  order = ap (λ (c : Council). c.order) opening.council;
  still = tt;
}
