-- New stores over racks whose disks are empty, and why they are not opened.
use Rattle.std.proofs.Common.{◌≡◌, ◌<◌, ◌≤◌, ◌+◌, ℕ, zero, suc, Bool, true, false, List, [], ◌∷◌, ◌++◌, length, refl, sym, ap, subst, ◌∙◌, inl, inr, arith}
use Rattle.std.specs.Prelude.{◌⊎◌, ◌==◌, ◌||◌, slice_get, nat_eq}
use lib.Pointwise.{pointwise, bytes_decides}
use Rattle.std.specs.List.{range_with_len}
use Rattle.std.proofs.lemmas.Bool.Decides.{Decides-eqb}
use Rattle.std.proofs.lemmas.Option.{slice_get_past, slice_get_within}
use Rattle.cas_base.proofs.Bools.{true_or_false, or_left, or_right, not_both}
use Rattle.cas_ballot.specs.Members.{has_member}
use Rattle.cas_model.specs.View.{IsAt}
use Rattle.cas_model.proofs.Safety.Parts.{at_low}
use Rattle.cas_world.specs.Openings.Opening.{members_to, IsFaultOf}
use Rattle.cas_world.specs.declared.fault.OpenFault.{OpenFault}
use Rattle.cas_world.specs.declared.fault.OpenFault.TheVariants as opening
use Rattle.cas_store.specs.Rack.{RackMeaning, AreFoundEmptyBelow, IsAllEmpty}
use Rattle.cas_store.specs.Store.{AreReached, OneFails, StaysClosed}
use Rattle.cas_store.specs.Store.StaysClosed.{nothing_reached, a_member_fails, a_vault_fails}
use Rattle.cas_store.specs.declared.rack.Rack.{Rack}
use Rattle.cas_reopen.specs.Closed.{IsWhyNotOpened}
use Rattle.cas_reopen.specs.Faults.{fault_of_opening}
use Rattle.cas_reopen.specs.Filled.{AreFoundFilled, AreLengthsOf, disks_in}
use Rattle.cas_reopen.specs.Ready.{OthersStay}
use Rattle.cas_reopen.proofs.Asked.{at_first, at_second}

-- ---- the first acceptors
range_has : (from count n : ℕ) → from ≤ n → n < from + count → has_member (range_with_len from count) n ≡ true
range_has from zero n low high = absurd (omega (arith, low, high))
range_has from (suc count) n low high = elim (true_or_false (from == n)) [
  | inl same ↦ or_left (from == n) (has_member (range_with_len (from + 1) count) n) same
  | inr other ↦
      or_right (from == n) (has_member (range_with_len (from + 1) count) n)
      (range_has (from + 1) count n (above from n low (λ e. not_both (from == n) ((Decides-eqb from n).1 e) other)) (omega (arith, high)))
]
  where
    above : (from n : ℕ) → from ≤ n → (from ≡ n → ⊥) → from + 1 ≤ n
    above from n low other = omega (arith, low, other)

no_member : (count id : ℕ) → has_member (members_to count) id ≡ false → (id < 1) ⊎ (count + 1 ≤ id)
no_member count id other = elim (which count id) [
  | inl out ↦ out
  | inr within ↦ absurd (not_both (has_member (members_to count) id) (range_has 1 count id within.0 within.1) other)
]
  where
    which : (count id : ℕ) → ((id < 1) ⊎ (count + 1 ≤ id)) ⊎ ((1 ≤ id) × (id < 1 + count))
    which count id = grind arith

-- members that a comparison finds the same
pub same_members : (a b : List ℕ) → pointwise nat_eq a b ≡ true → a ≡ b
same_members a b is = (bytes_decides a b).0 is

-- ---- disks that were not reached
same_place : {A : Type 0} (old new : List A) (id : ℕ) → length new ≡ length old → ((x : A) → IsAt new id x → IsAt old id x) → slice_get new id ≡ slice_get old id
same_place old new id places keeps = elim (low_or_not id (length new)) [
  | inl low ↦ let it = at_low new id low in it.1 ∙ sym (keeps it.0 it.1)
  | inr high ↦ slice_get_past new id high ∙ sym (slice_get_past old id (omega (arith, high, places)))
]
  where
    low_or_not : (id n : ℕ) → (id < n) ⊎ (n ≤ id)
    low_or_not id n = grind arith

others_reached : {D : Type 0} (faults : D → ℕ) (count to : ℕ) (old new : List D) → to ≤ count + 1 → AreReached faults 1 to old new → OthersStay (members_to count) old new
others_reached faults count to old new few reached = λ id other. same_place old new id reached.places (λ x at. reached.others id x (past count id to few (no_member count id other)) at)
  where
    past : (count id to : ℕ) → to ≤ count + 1 → (id < 1) ⊎ (count + 1 ≤ id) → (id < 1) ⊎ (to ≤ id)
    past count id to few (inl low) = inl low
    past count id to few (inr high) = inr (omega (arith, few, high))

pub others_closed : {D : Type 0} (faults : D → ℕ) (count proposers : ℕ) (acceptors vaults : List D) (fault : OpenFault) (acceptors_back vaults_back : List D)
    → StaysClosed faults count proposers acceptors vaults fault acceptors_back vaults_back → OthersStay (members_to count) acceptors acceptors_back
others_closed {D} faults count proposers acceptors vaults fault acceptors_back vaults_back (nothing_reached none same same_vaults) = λ id other. ap (λ (l : List D). slice_get l id) same
others_closed faults count proposers acceptors vaults fault acceptors_back vaults_back (a_member_fails fails same_vaults) =
    others_reached faults count (fails.place + 1) acceptors acceptors_back (omega (arith, fails.high)) fails.reached
others_closed faults count proposers acceptors vaults fault acceptors_back vaults_back (a_vault_fails reached fails) =
    others_reached faults count (count + 1) acceptors acceptors_back (omega arith) reached

-- ---- why it is not opened
module _ {D : Type 0} (m : RackMeaning D) (members : List ℕ) (old new : Rack D) where
  failed_at : (number : ℕ) (was now : D) → IsAt (disks_in old) number was → IsAt (disks_in new) number now → (why : OpenFault) → IsFaultOf number (m.faults was) (m.faults now) why
      → IsWhyNotOpened m members old new (fault_of_opening why)
  failed_at number was now at_was at_now (opening.DiskFault disk) is =
      (was, now, subst (λ (n : ℕ). IsAt (disks_in old) n was) (sym is.0) at_was, subst (λ (n : ℕ). IsAt (disks_in new) n now) (sym is.0) at_now, is.1)
  failed_at number was now at_was at_now (opening.Foreign disk at) is = absurd is
  failed_at number was now at_was at_now (opening.Spent disk) is = absurd is
  failed_at number was now at_was at_now opening.NoMemory is = tt

  pub why_closed : (count proposers : ℕ) (fault : OpenFault) → length old.acceptors.items ≡ 64 → length new.acceptors.items ≡ 64
      → StaysClosed m.faults count proposers old.acceptors.items old.vaults.items fault new.acceptors.items new.vaults.items → IsWhyNotOpened m members old new (fault_of_opening fault)
  why_closed count proposers fault all all_back (nothing_reached none same same_vaults) = subst (λ (f : OpenFault). IsWhyNotOpened m members old new (fault_of_opening f)) (sym none) tt
  why_closed count proposers fault all all_back (a_member_fails fails same_vaults) =
      failed_at (0 + fails.place) fails.was fails.now
      (subst (λ (n : ℕ). IsAt (disks_in old) n fails.was) (from_zero fails.place) (at_first old.acceptors.items old.vaults.items fails.place fails.was fails.at_was))
      (subst (λ (n : ℕ). IsAt (disks_in new) n fails.now) (from_zero fails.place) (at_first new.acceptors.items new.vaults.items fails.place fails.now fails.at_now)) fault fails.cause
    where
      from_zero : (n : ℕ) → n ≡ 0 + n
      from_zero n = omega arith
  why_closed count proposers fault all all_back (a_vault_fails reached fails) =
      failed_at (64 + fails.place) fails.was fails.now
      (subst (λ (n : ℕ). IsAt (disks_in old) (n + fails.place) fails.was) all (at_second old.acceptors.items old.vaults.items fails.place fails.was fails.at_was))
      (subst (λ (n : ℕ). IsAt (disks_in new) (n + fails.place) fails.now) all_back (at_second new.acceptors.items new.vaults.items fails.place fails.now fails.at_now)) fault fails.cause

  -- ---- all are empty
  empty_below : (found : List ℕ) (row row_now : List D) (n : ℕ) → length row ≡ n → ((id : ℕ) → has_member found id ≡ false) → AreFoundFilled m found row row_now → AreFoundEmptyBelow m row n row_now
  empty_below found row row_now n many none are = record {
    places = are.places;
    empty = λ p now below at. let it = are.each p now at in (it.0, it.1, record { asked = it.2.asked; empty = λ told. it.2.empty told (none p) });
    others = λ p now high at. absurd (omega (arith, high, many, are.places, slice_get_within row_now p now at));
  }

  pub all_found_empty : (filled vaults : List ℕ) → length old.acceptors.items ≡ 64 → length old.vaults.items ≡ 17 → ((id : ℕ) → (has_member filled id ≡ false) × (has_member vaults id ≡ false))
      → AreLengthsOf m filled vaults old new → IsAllEmpty m old new
  all_found_empty filled vaults all all_vaults none lengths = record {
    acceptors = empty_below filled old.acceptors.items new.acceptors.items 64 all (λ id. (none id).0) lengths.of_acceptors;
    vaults = empty_below vaults old.vaults.items new.vaults.items 17 all_vaults (λ id. (none id).1) lengths.of_vaults;
  }
