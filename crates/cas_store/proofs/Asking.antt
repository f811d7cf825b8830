-- Disks that are asked for their lengths one after another.
use Rattle.std.proofs.Common.{◌≡◌, ◌<◌, ℕ, List, [], ◌∷◌, length, refl, sym, subst, ◌∙◌, inl, inr, arith, length-set}
use Rattle.std.specs.Prelude.{◌+◌, slice_set, slice_index_or}
use Rattle.cas_model.specs.View.{IsAt}
use Rattle.cas_model.proofs.Places.{but_set, at_set}
use Rattle.cas_world.proofs.Parts.{at_place}
use Rattle.cas_store.specs.Rack.{RackMeaning, IsFoundEmpty, IsWhyNot, AreFoundEmptyBelow, OneIsNot}
use Rattle.cas_store.specs.declared.rack.RackFault.{RackFault}

pub none_left : {A : Type 0} (xs : List A) → length xs ≡ 0 → xs ≡ []
none_left [] is = refl
none_left (x ∷ xs) is = absurd (cc is)

module _ {D : Type 0} (m : RackMeaning D) (old : List D) where
  pub none_below : AreFoundEmptyBelow m old 0 old
  none_below = record { places = refl; empty = λ p now below at. absurd (omega (arith, below)); others = λ p now above at. at }

  pub one_more : (place : ℕ) (all : List D) (was now : D) → AreFoundEmptyBelow m old place all → IsAt all place was → IsFoundEmpty m was now → AreFoundEmptyBelow m old (place + 1) (slice_set all place now)
  one_more place all was now before at found = record {
    places = length-set all place now ∙ before.places;
    empty = λ p x below at_x. elim (but_set all place now p x at_x) [
      | inl here ↦ (was, subst (λ (i : ℕ). IsAt old i was) (sym here.0) (before.others place was (omega arith) at), subst (λ (y : D). IsFoundEmpty m was y) (sym here.1) found)
      | inr there ↦ before.empty p x (next_below place p below there.0) there.1
    ];
    others = λ p x above at_x. elim (but_set all place now p x at_x) [
      | inl here ↦ absurd (omega (arith, above, here.0))
      | inr there ↦ before.others p x (omega (arith, above)) there.1
    ];
  }
    where
      next_below : (place p : ℕ) → p < place + 1 → (p ≡ place → ⊥) → p < place
      next_below place p high other = omega (arith, high, other)

  pub one_is_not : (first place : ℕ) (all : List D) (fault : RackFault) (was now : D) → AreFoundEmptyBelow m old place all → IsAt all place was → IsWhyNot m (first + place) was fault now
      → OneIsNot m first old fault (slice_set all place now)
  one_is_not first place all fault was now before at why = record {
    place = place;
    places = length-set all place now ∙ before.places;
    before = λ p x below at_x. elim (but_set all place now p x at_x) [
      | inl here ↦ absurd (omega (arith, below, here.0))
      | inr there ↦ before.empty p x below there.1
    ];
    was = was;
    at_was = before.others place was (omega arith) at;
    now = now;
    at_now = at_set all place was now at;
    why = why;
    others = λ p x above at_x. elim (but_set all place now p x at_x) [
      | inl here ↦ absurd (omega (arith, above, here.0))
      | inr there ↦ before.others p x (omega (arith, above)) there.1
    ];
  }

  -- the same for a disk that is reached by an index
  pub index_empty : (n place : ℕ) (all : List D) (was now : D) → n ≡ place → place < length all → was ≡ slice_index_or all n was → AreFoundEmptyBelow m old place all → IsFoundEmpty m was now
      → AreFoundEmptyBelow m old (place + 1) (slice_set all n now)
  index_empty n place all was now same low is before found =
      subst (λ (i : ℕ). AreFoundEmptyBelow m old (place + 1) (slice_set all i now)) (sym same) (one_more place all was now before (at_place all n place was same low is) found)

  pub index_is_not : (first n place : ℕ) (all : List D) (fault : RackFault) (was now : D) → n ≡ place → place < length all → was ≡ slice_index_or all n was → AreFoundEmptyBelow m old place all → IsWhyNot m (first + place) was fault now
      → OneIsNot m first old fault (slice_set all n now)
  index_is_not first n place all fault was now same low is before why =
      subst (λ (i : ℕ). OneIsNot m first old fault (slice_set all i now)) (sym same) (one_is_not first place all fault was now before (at_place all n place was same low is) why)
