-- Disks that are asked for their lengths one after another, and those that are not empty.
use Rattle.std.proofs.Common.{◌≡◌, ◌<◌, ◌≤◌, ◌+◌, ℕ, Bool, true, false, List, [], length, refl, sym, ap, subst, ◌∙◌, inl, inr, arith, length-set}
use Rattle.std.specs.Prelude.{◌==◌, ◌||◌, ◌⊎◌, slice_set, slice_index_or}
use Rattle.std.proofs.lemmas.Bool.Decides.{Decides-eqb}
use Rattle.std.proofs.lemmas.Option.{slice_get_within}
use Rattle.cas_base.proofs.Bools.{true_or_false, not_both}
use Rattle.cas_ballot.specs.Members.{has_member, with_member}
use Rattle.cas_ballot.proofs.MemberLemmas.{has-members_where, members_where_tells}
use Rattle.cas_model.specs.View.{IsAt}
use Rattle.cas_model.proofs.Places.{but_set, at_set}
use Rattle.cas_reopen.specs.Filled.{IsFoundFilled, GivesNoLength, AreFoundFilled, OneGivesNoLength}
use Rattle.cas_reopen.specs.declared.lengths.FilledFault.{FilledFault}
use Rattle.cas_store.specs.Rack.{RackMeaning}
use Rattle.cas_world.proofs.Parts.{at_place}

-- ---- members
is_one : (n id : ℕ) (known : Bool) → (n == id || known) ≡ true → (n ≡ id) ⊎ (known ≡ true)
is_one n id known is = elim (true_or_false (n == id)) [
  | inl same ↦ inl ((Decides-eqb n id).0 same)
  | inr other ↦ inr (sym (ap (λ (b : Bool). b || known) other) ∙ is)
]

kept : (n id : ℕ) (known : Bool) → (n ≡ id → ⊥) → (n == id || known) ≡ known
kept n id known other = elim (true_or_false (n == id)) [
  | inl same ↦ absurd (other ((Decides-eqb n id).0 same))
  | inr apart ↦ ap (λ (b : Bool). b || known) apart
]

-- those at the places below this one were asked, no other is found, and none was reached
pub record FoundBelow {D : Type 0} (m : RackMeaning D) (old : List D) (place : ℕ) (found : List ℕ) (new : List D) : Type 0 where
  pub places : length new ≡ length old
  pub each : (id : ℕ) (now : D) → id < place → IsAt new id now → (was : D) × IsAt old id was × IsFoundFilled m (has_member found id) was now
  pub none : (id : ℕ) → place ≤ id → has_member found id ≡ false
  pub others : (id : ℕ) (now : D) → place ≤ id → IsAt new id now → IsAt old id now

module _ {D : Type 0} (m : RackMeaning D) (old : List D) where
  pub none_below : FoundBelow m old 0 [] old
  none_below = record { places = refl; each = λ id now low. absurd (omega (arith, low)); none = λ id from. refl; others = λ id now from at. at }

  -- the next was asked, and the set has just it besides
  next_found : (place : ℕ) (all : List D) (found more : List ℕ) (was now : D) → FoundBelow m old place found all → IsAt all place was
      → ((id : ℕ) → id < place → has_member more id ≡ has_member found id) → ((id : ℕ) → place < id → has_member more id ≡ false) → IsFoundFilled m (has_member more place) was now
      → FoundBelow m old (place + 1) more (slice_set all place now)
  next_found place all found more was now before at same none is = record {
    places = length-set all place now ∙ before.places;
    each = λ id x low at_x. elim (but_set all place now id x at_x) [
      | inl here ↦ (
        was,
        subst (λ (i : ℕ). IsAt old i was) (sym here.0) (before.others place was (omega arith) at),
        subst (λ (i : ℕ). IsFoundFilled m (has_member more i) was x) (sym here.0) (subst (λ (y : D). IsFoundFilled m (has_member more place) was y) (sym here.1) is),
      )
      | inr there ↦
          let below : id < place = next_below place id low there.0 in
          let it = before.each id x below there.1 in
          (it.0, it.1, subst (λ (b : Bool). IsFoundFilled m b it.0 x) (sym (same id below)) it.2)
    ];
    none = λ id from. none id (omega (arith, from));
    others = λ id x from at_x. elim (but_set all place now id x at_x) [
      | inl here ↦ absurd (omega (arith, from, here.0))
      | inr there ↦ before.others id x (omega (arith, from)) there.1
    ];
  }
    where
      next_below : (place p : ℕ) → p < place + 1 → (p ≡ place → ⊥) → p < place
      next_below place p high other = omega (arith, high, other)

  pub one_filled : (n place : ℕ) (all : List D) (found : List ℕ) (was now : D) → n ≡ place → place < length all → was ≡ slice_index_or all n was → place < 64 → FoundBelow m old place found all
      → IsFoundFilled m true was now → FoundBelow m old (place + 1) (with_member found place) (slice_set all n now)
  one_filled n place all found was now same low is number before filled =
      subst (λ (i : ℕ). FoundBelow m old (place + 1) (with_member found place) (slice_set all i now)) (sym same)
      (next_found place all found (with_member found place) was now before (at_place all n place was same low is)
      (λ id below. has-members_where (λ (k : ℕ). k == place || has_member found k) id (omega (arith, below, number)) ∙ kept id place (has_member found id) (λ e. absurd (omega (arith, below, e))))
      behind
      (subst (λ (b : Bool). IsFoundFilled m b was now) (sym here) filled))
    where
      here : has_member (with_member found place) place ≡ true
      here = has-members_where (λ (k : ℕ). k == place || has_member found k) place number ∙ ap (λ (b : Bool). b || has_member found place) ((Decides-eqb place place).1 refl)

      behind : (id : ℕ) → place < id → has_member (with_member found place) id ≡ false
      behind id from = elim (true_or_false (has_member (with_member found place) id)) [
        | inl there ↦ elim (is_one id place (has_member found id) (members_where_tells (λ (k : ℕ). k == place || has_member found k) id there)) [
          | inl e ↦ absurd (omega (arith, from, e))
          | inr known ↦ absurd (not_both (has_member found id) known (before.none id (omega (arith, from))))
        ]
        | inr lacks ↦ lacks
      ]

  pub one_empty : (n place : ℕ) (all : List D) (found : List ℕ) (was now : D) → n ≡ place → place < length all → was ≡ slice_index_or all n was → FoundBelow m old place found all
      → IsFoundFilled m false was now → FoundBelow m old (place + 1) found (slice_set all n now)
  one_empty n place all found was now same low is before empty =
      subst (λ (i : ℕ). FoundBelow m old (place + 1) found (slice_set all i now)) (sym same) (next_found place all found found was now before (at_place all n place was same low is)
      (λ id below. refl) (λ id from. before.none id (omega (arith, from)))
      (subst (λ (b : Bool). IsFoundFilled m b was now) (sym (before.none place (omega arith))) empty))

  -- the next gave no length
  pub one_gives_none : (first n place : ℕ) (all : List D) (found : List ℕ) (fault : FilledFault) (was now : D) → n ≡ place → place < length all → was ≡ slice_index_or all n was → FoundBelow m old
      place found all
      → fault.disk ≡ first + place → GivesNoLength m fault.fault was now → OneGivesNoLength m first fault old (slice_set all n now)
  one_gives_none first n place all found fault was now same low is before number why = subst (λ (i : ℕ). OneGivesNoLength m first fault old (slice_set all i now)) (sym same) (record {
    place = place;
    number = number;
    places = length-set all place now ∙ before.places;
    before = λ id x below at_x. elim (but_set all place now id x at_x) [
      | inl here ↦ absurd (omega (arith, below, here.0))
      | inr there ↦ let it = before.each id x below there.1 in (it.0, it.1, it.2.asked)
    ];
    was = was;
    at_was = before.others place was (omega arith) at;
    now = now;
    at_now = at_set all place was now at;
    why = why;
    others = λ id x above at_x. elim (but_set all place now id x at_x) [
      | inl here ↦ absurd (omega (arith, above, here.0))
      | inr there ↦ before.others id x (omega (arith, above)) there.1
    ];
  })
    where
      at : IsAt all place was
      at = at_place all n place was same low is

  pub all_found : (place : ℕ) (found : List ℕ) (new : List D) → length old ≤ place → FoundBelow m old place found new → AreFoundFilled m found old new
  all_found place found new all below = record { places = below.places; each = λ id now at. below.each id now (omega (arith, slice_get_within new id now at, below.places, all)) at }
