-- The members' shelves, which are brought to given slots one after another.
use Rattle.std.proofs.Common.{◌≡◌, ◌<◌, ◌≤◌, ◌+◌, ℕ, get_or, true, false, List, Option, Some, inl, inr, refl, sym, ap, subst, ◌∙◌, arith}
use Rattle.std.specs.Prelude.{◌⊎◌, ◌==◌, length, slice_get, unwrap_or}
use Rattle.std.proofs.lemmas.Bool.Decides.{Decides-eqb}
use Rattle.std.proofs.lemmas.Option.{slice_get_within, slice_get-get_or}
use Rattle.cas_base.proofs.Bools.{true_or_false}
use Rattle.cas_ballot.specs.Members.{has_member}
use Rattle.cas_slot.specs.Contents.{Contents}
use Rattle.cas_slot.specs.Shelf.{Left, OnlyLeaves}
use Rattle.cas_slot.specs.Slots.{Slots}
use Rattle.cas_restore.specs.declared.members.RestoreFault.{RestoreFault}
use Rattle.cas_restore.specs.Restored.{HoldsJust}
use Rattle.cas_restore.specs.Members.{MembersBecome, GoesTowards, FailsAt, OneMemberFails, ChangesAt}
use Rattle.cas_restore.proofs.Towards.{towards_itself, towards_then}

-- ---- numbers and places
same_or_not : (p q : ℕ) → (p ≡ q) ⊎ (p ≡ q → ⊥)
same_or_not p q = elim (true_or_false (p == q)) [
  | inl same ↦ inl ((Decides-eqb p q).0 same)
  | inr other ↦ inr (λ e. let yes = (Decides-eqb p q).1 e in let no : true ≡ false = sym yes ∙ other in absurd (cc no))
]

some_is : {A : Type 0} {x y : A} → Some x ≡ Some y → x ≡ y
some_is {A} {x} {y} e = ap (λ (o : Option A). unwrap_or o y) e

at_one : {A : Type 0} (xs : List A) (place : ℕ) (x y : A) → slice_get xs place ≡ Some x → slice_get xs place ≡ Some y → x ≡ y
at_one xs place x y a b = some_is (sym a ∙ b)

-- ---- one shelf
module _ {S : Type 0} (tells : Type 0) (contents : S → Contents) (may_leave : S → Left → Type 0) (fault_count : S → ℕ) (slots : Slots) where
  abbrev Goes : S → S → Type 0
  Goes was now = GoesTowards tells contents may_leave fault_count slots was now

  pub goes_itself : (shelf : S) → (tells → OnlyLeaves (contents shelf) (may_leave shelf)) → Goes shelf shelf
  goes_itself shelf only = record { towards = towards_itself tells contents may_leave slots shelf only; untouched = λ _. refl; never_falls = omega arith }

  pub goes_then : (old mid new : S) → Goes old mid → Goes mid new → Goes old new
  goes_then old mid new first later = record {
    towards = towards_then tells contents may_leave slots old mid new first.towards later.towards;
    untouched = λ same. let still = first.untouched same in later.untouched (ap (λ (s : S). (contents s).slots) still ∙ same) ∙ still;
    never_falls = omega (arith, first.never_falls, later.never_falls);
  }

-- ---- all shelves
module _ {S : Type 0} (Becomes : S → S → Type 0) (members : List ℕ) (old : List S) where
  pub none_became : ((id : ℕ) (shelf : S) → has_member members id ≡ true → slice_get old id ≡ Some shelf → Becomes shelf shelf) → MembersBecome members Becomes old old
  none_became itself = record {
    places = refl;
    others = λ id other. refl;
    each = λ id was now member at at_now. subst (Becomes was) (at_one old id was now at at_now) (itself id was member at);
  }

  -- one more member's shelf became another
  pub one_became : (mid new : List S) (place : ℕ) → ((a b c : S) → Becomes a b → Becomes b c → Becomes a c) → has_member members place ≡ true → MembersBecome members Becomes old mid
      → ChangesAt place Becomes mid new → MembersBecome members Becomes old new
  one_became mid new place and_then is_member before change = record {
    places = change.places ∙ before.places;
    others = λ id other. change.others id (λ same. let no : true ≡ false = sym is_member ∙ ap (has_member members) (sym same) ∙ other in absurd (cc no)) ∙ before.others id other;
    each = λ id was now member at at_now. elim (same_or_not id place) [
      | inl same ↦
          let mid_is : slice_get mid id ≡ Some change.was = ap (slice_get mid) same ∙ change.at in
          let now_is : change.now ≡ now = at_one new id change.now now (ap (slice_get new) same ∙ change.new_at) at_now in
          subst (Becomes was) now_is (and_then was change.was change.now (before.each id was change.was member at mid_is) change.becomes)
      | inr other ↦ before.each id was now member at (sym (change.others id other) ∙ at_now)
    ];
  }

  -- ---- those below a number
  -- the shelf of each member below this number became another, and those from it on are as they were
  pub record BecameBelow (number : ℕ) (new : List S) : Type 0 where
    pub below : (id : ℕ) (was now : S) → id < number → has_member members id ≡ true → slice_get old id ≡ Some was → slice_get new id ≡ Some now → Becomes was now
    pub above : (id : ℕ) → number ≤ id → slice_get new id ≡ slice_get old id

  pub none_below : BecameBelow 0 old
  none_below = record { below = λ id was now low. absurd (omega (arith, low)); above = λ id from. refl }

  below_next : (id number : ℕ) → id < number + 1 → (id ≡ number → ⊥) → id < number
  below_next id number low other = omega (arith, low, other)

  -- who is no member is passed over
  pub passed_over : (number : ℕ) (new : List S) → has_member members number ≡ false → BecameBelow number new → BecameBelow (number + 1) new
  passed_over number new other before = record {
    below = λ id was now low member at at_now.
        before.below id was now (below_next id number low (λ same. let no : true ≡ false = sym member ∙ ap (has_member members) same ∙ other in absurd (cc no))) member at at_now;
    above = λ id from. before.above id (omega (arith, from));
  }

  pub one_more : (number : ℕ) (mid new : List S) → ChangesAt number Becomes mid new → BecameBelow number mid → BecameBelow (number + 1) new
  one_more number mid new change before = record {
    below = λ id was now low member at at_now. elim (same_or_not id number) [
      | inl same ↦
          let was_is : change.was ≡ was = at_one old id change.was was (ap (slice_get old) same ∙ (sym (before.above number (omega arith)) ∙ change.at)) at in
          let now_is : change.now ≡ now = at_one new id change.now now (ap (slice_get new) same ∙ change.new_at) at_now in
          subst (λ (x : S). Becomes x now) was_is (subst (Becomes change.was) now_is change.becomes)
      | inr other ↦ before.below id was now (below_next id number low other) member at (sym (change.others id other) ∙ at_now)
    ];
    above = λ id from. change.others id (λ same. absurd (omega (arith, from, same))) ∙ before.above id (omega (arith, from));
  }

  -- each place is below this number
  pub all_became : (number : ℕ) (new : List S) → (places : length new ≡ length old) → ((id : ℕ) → has_member members id ≡ false → slice_get new id ≡ slice_get old id)
      → ((id : ℕ) (was : S) → slice_get old id ≡ Some was → id < number)
      → BecameBelow number new → MembersBecome members Becomes old new
  all_became number new places others within became = record { places = places; others = others; each = λ id was now member at at_now. became.below id was now (within id was at) member at at_now }

  -- what became of the shelf of the next member, seen from the first
  pub next_becomes : (Fails : S → S → Type 0) (number : ℕ) (mid new : List S) → ChangesAt number Fails mid new → BecameBelow number mid
      → (was now : S) → slice_get old number ≡ Some was → slice_get new number ≡ Some now → Fails was now
  next_becomes Fails number mid new change before was now at at_now =
      let was_is : change.was ≡ was = at_one old number change.was was (sym (before.above number (omega arith)) ∙ change.at) at in
      let now_is : change.now ≡ now = at_one new number change.now now change.new_at at_now in
      subst (λ (x : S). Fails x now) was_is (subst (Fails change.was) now_is change.becomes)

-- ---- one that fails
module _ {S : Type 0} (contents : S → Contents) (is_up : S → Type 0) (slots : Slots) (members : List ℕ) (old : List S) where
  abbrev Holds : S → S → Type 0
  Holds was now = HoldsJust contents is_up slots was now

  -- the shelf of the next member failed
  pub one_fails : (fault_count : S → ℕ) (number : ℕ) (mid new : List S) (fault : RestoreFault) → has_member members number ≡ true → fault.member ≡ number
      → ((id : ℕ) (shelf : S) → has_member members id ≡ true → slice_get old id ≡ Some shelf → is_up shelf)
      → ((id : ℕ) (now : S) → slice_get mid id ≡ Some now → (was : S) × (slice_get old id ≡ Some was))
      → ChangesAt number (FailsAt is_up fault_count fault) mid new → BecameBelow Holds members old number mid → OneMemberFails is_up fault_count members fault old new
  one_fails fault_count number mid new fault member is up there change before = record {
    member = ap (has_member members) is ∙ member;
    fails = λ was now at at_now. next_becomes Holds members old (FailsAt is_up fault_count fault) number mid new change before was now (ap (slice_get old) (sym is) ∙ at)
        (ap (slice_get new) (sym is) ∙ at_now);
    others = λ id now has other at_now.
        let at_mid : slice_get mid id ≡ Some now = sym (change.others id (λ same. other (same ∙ sym is))) ∙ at_now in
        elim (low_or_not id number) [
          | inl low ↦ (before.below id (there id now at_mid).0 now low has (there id now at_mid).1 at_mid).up
          | inr from ↦ up id now has (sym (before.above id from) ∙ at_mid)
        ];
  }
    where
      low_or_not : (id number : ℕ) → (id < number) ⊎ (number ≤ id)
      low_or_not id number = grind arith

-- a place of one list is one of another that is as long
pub there_too : {S : Type 0} (old new : List S) → length new ≡ length old → (id : ℕ) (now : S) → slice_get new id ≡ Some now → (was : S) × (slice_get old id ≡ Some was)
there_too old new places id now at = let low : id < length old = omega (arith, places, slice_get_within new id now at) in (get_or old id now, slice_get-get_or old id now low)
