-- Laws of the slots and the cells of keys, by whether two keys or two numbers are equal.
use Rattle.std.specs.Prelude.{nat_eq, is_some}
use Rattle.std.specs.FinMap as map
use Rattle.std.specs.Ordering.{nat_cmp, is_eq}
use Rattle.std.specs.Cmp.{nat_cmp_total}
use Rattle.std.specs.Cmp.Lexicographic.{slice_cmp, nat_list_cmp_total, pointwise, same_text, other_text, texts_ties, nat_list_eq_equiv}
use Rattle.std.specs.declared.cmp.Ordering.{Ordering}
use Rattle.std.specs.declared.cmp.Ordering.TheVariants.{Less, Equal, Greater}
use Rattle.std.proofs.Common.{◌≡◌, ◌≢◌, ℕ, zero, suc, ◌+◌, ◌-◌, ◌≤◌, ◌<◌, Bool, true, false, cond, List, [], ◌∷◌, length, Option, Some, None, refl, sym, ap, ◌∙◌, arith}
use Rattle.std.proofs.lemmas.Cmp.{tied_itself}
use Rattle.cas_slot.specs.declared.slot.Slot.{Slot}
use Rattle.cas_slot.specs.Slots.{Slots, slot_at, with_slot, without_slot, slot_count}
use Rattle.cas_slot.proofs.SlotsLemmas.{slot_at-with_slot, slot_at-with_slot_same, slot_at-without_slot}
use Rattle.cas_disk_shelf.specs.Image.{moved, removed}
use Rattle.cas_disk_shelf.specs.Memory.{freed, taken}

-- ---- slots and keys

told_by : {X : Type 0} (a b : List ℕ) (t : Bool) → pointwise nat_eq a b ≡ t → (a ≡ b → X) → (a ≢ b → X) → X
told_by a b true e same other = same (same_text a b (sym e))
told_by a b false e same other = other (other_text a b (sym e))

-- two keys are equal or not
pub by_key : {X : Type 0} (a b : List ℕ) → (a ≡ b → X) → (a ≢ b → X) → X
by_key a b same other = told_by a b (pointwise nat_eq a b) refl same other

apart : (a b : List ℕ) (t : Bool) → pointwise nat_eq a b ≡ t → a ≢ b → t ≡ false
apart a b true e other = absurd (other (same_text a b (sym e)))
apart a b false e other = refl

pub not_same : (a b : List ℕ) → a ≢ b → pointwise nat_eq a b ≡ false
not_same a b other = apart a b (pointwise nat_eq a b) refl other

put_at : (slots : Slots) (key : List ℕ) (slot : Slot) (q : List ℕ) → slot_at (with_slot slots key slot) q ≡ cond (pointwise nat_eq q key) (Some slot) (slot_at slots q)
put_at slots key slot q = slot_at-with_slot slots key slot q ∙ ap (λ (b : Bool). cond b (Some slot) (slot_at slots q)) (sym (texts_ties q key))

pub put_same : (slots : Slots) (key : List ℕ) (slot : Slot) (q : List ℕ) → q ≡ key → slot_at (with_slot slots key slot) q ≡ Some slot
put_same slots key slot q same = ap (slot_at (with_slot slots key slot)) same ∙ slot_at-with_slot_same slots key slot

pub put_other : (slots : Slots) (key : List ℕ) (slot : Slot) (q : List ℕ) → q ≢ key → slot_at (with_slot slots key slot) q ≡ slot_at slots q
put_other slots key slot q other = put_at slots key slot q ∙ ap (λ (b : Bool). cond b (Some slot) (slot_at slots q)) (not_same q key other)

take_at : (slots : Slots) (key q : List ℕ) → slot_at (without_slot slots key) q ≡ cond (pointwise nat_eq q key) None (slot_at slots q)
take_at slots key q = slot_at-without_slot slots key q ∙ ap (λ (b : Bool). cond b None (slot_at slots q)) (sym (texts_ties q key))

pub take_same : (slots : Slots) (key q : List ℕ) → q ≡ key → slot_at (without_slot slots key) q ≡ None
take_same slots key q same = take_at slots key q ∙ ap (λ (b : Bool). cond b None (slot_at slots q)) (ap (λ (k : List ℕ). pointwise nat_eq k key) same ∙ nat_list_eq_equiv.refl key)

pub take_other : (slots : Slots) (key q : List ℕ) → q ≢ key → slot_at (without_slot slots key) q ≡ slot_at slots q
take_other slots key q other = take_at slots key q ∙ ap (λ (b : Bool). cond b None (slot_at slots q)) (not_same q key other)

pub same_slots : (m n : Slots) → ((q : List ℕ) → slot_at m q ≡ slot_at n q) → m ≡ n
same_slots m n is = map.same_map nat_list_cmp_total (map.slice_cmp-IsAntisymmetric map.nat_cmp-IsAntisymmetric) m n is

-- ---- numbers and keys

tied : (o : Ordering) → is_eq o ≡ true → o ≡ Equal
tied Less e = absurd cc
tied Equal e = refl
tied Greater e = absurd cc

told : (a b : ℕ) (t : Bool) → is_eq (nat_cmp a b) ≡ t → a ≢ b → t ≡ false
told a b true e other = absurd (other (map.nat_cmp-IsAntisymmetric a b (tied (nat_cmp a b) e)))
told a b false e other = refl

pub other_number : (a b : ℕ) → a ≢ b → is_eq (nat_cmp a b) ≡ false
other_number a b other = told a b (is_eq (nat_cmp a b)) refl other

pub own_number : (a b : ℕ) → a ≡ b → is_eq (nat_cmp a b) ≡ true
own_number a b same = ap (λ (n : ℕ). is_eq (nat_cmp a n)) (sym same) ∙ ap is_eq (tied_itself nat_cmp_total a)

pub freed_own : (is_free : ℕ → Bool) (a b : ℕ) → a ≡ b → freed is_free a b ≡ true
freed_own is_free a b same = ap (λ (t : Bool). cond t true (is_free b)) (own_number a b same)

pub freed_other : (is_free : ℕ → Bool) (a b : ℕ) → a ≢ b → freed is_free a b ≡ is_free b
freed_other is_free a b other = ap (λ (t : Bool). cond t true (is_free b)) (other_number a b other)

pub taken_own : (is_free : ℕ → Bool) (a b : ℕ) → a ≡ b → taken is_free a b ≡ false
taken_own is_free a b same = ap (λ (t : Bool). cond t false (is_free b)) (own_number a b same)

pub taken_other : (is_free : ℕ → Bool) (a b : ℕ) → a ≢ b → taken is_free a b ≡ is_free b
taken_other is_free a b other = ap (λ (t : Bool). cond t false (is_free b)) (other_number a b other)

pub moved_own : (cell_of : List ℕ → Option ℕ) (key : List ℕ) (i : ℕ) (q : List ℕ) → key ≡ q → moved cell_of key i q ≡ Some i
moved_own cell_of key i q same = ap (λ (t : Bool). cond t (Some i) (cell_of q)) (ap (pointwise nat_eq key) (sym same) ∙ nat_list_eq_equiv.refl key)

pub moved_other : (cell_of : List ℕ → Option ℕ) (key : List ℕ) (i : ℕ) (q : List ℕ) → key ≢ q → moved cell_of key i q ≡ cell_of q
moved_other cell_of key i q other = ap (λ (t : Bool). cond t (Some i) (cell_of q)) (not_same key q other)

pub removed_own : (cell_of : List ℕ → Option ℕ) (key q : List ℕ) → key ≡ q → removed cell_of key q ≡ None
removed_own cell_of key q same = ap (λ (t : Bool). cond t None (cell_of q)) (ap (pointwise nat_eq key) (sym same) ∙ nat_list_eq_equiv.refl key)

pub removed_other : (cell_of : List ℕ → Option ℕ) (key q : List ℕ) → key ≢ q → removed cell_of key q ≡ cell_of q
removed_other cell_of key q other = ap (λ (t : Bool). cond t None (cell_of q)) (not_same key q other)

-- ---- counts

slots_in : (slots : Slots) (k : ℕ) (entries : List (List ℕ × Slot)) → map.entries slots ≡ entries → length entries ≡ suc k → (key : List ℕ) × ((slot : Slot) × (slot_at slots key ≡ Some slot))
slots_in slots k [] is long = absurd (omega (arith, long))
slots_in slots k (e ∷ entries) is long =
    (e.0, (e.1, map.get-entries slots e.0 ∙ (λ t. map.find (slice_cmp nat_cmp) e.0 (is t)) ∙ ap (λ o. cond (is_eq o) (Some e.1) (map.find (slice_cmp nat_cmp) e.0 entries)) (tied_itself nat_list_cmp_total e.0)))

some_slot : (slots : Slots) (k : ℕ) → slot_count slots ≡ suc k → (key : List ℕ) × ((slot : Slot) × (slot_at slots key ≡ Some slot))
some_slot slots k count = slots_in slots k (map.entries slots) refl (sym (map.len-entries slots) ∙ count)

one_less : (slots : Slots) (key : List ℕ) (slot : Slot) → slot_at slots key ≡ Some slot → slot_count (without_slot slots key) ≡ slot_count slots - 1
one_less slots key slot there = map.len-remove nat_list_cmp_total slots key ∙ ap (λ (o : Option Slot). cond (is_some o) (slot_count slots - 1) (slot_count slots)) there

pub one_more_slot : (slots : Slots) (key : List ℕ) (slot : Slot) → slot_at slots key ≡ None → slot_count (with_slot slots key slot) ≡ slot_count slots + 1
one_more_slot slots key slot none = map.len-insert nat_list_cmp_total slots key slot ∙ ap (λ (o : Option Slot). cond (is_some o) (slot_count slots) (slot_count slots + 1)) none

pub at_most_more : (slots : Slots) (key : List ℕ) (slot : Slot) → slot_count (with_slot slots key slot) ≤ slot_count slots + 1
at_most_more slots key slot = by_there (slot_at slots key) refl
  where
    by_there : (o : Option Slot) → slot_at slots key ≡ o → slot_count (with_slot slots key slot) ≤ slot_count slots + 1
    by_there None e = omega (arith, one_more_slot slots key slot e)
    by_there (Some s) e = omega (arith, map.len-insert nat_list_cmp_total slots key slot ∙ ap (λ (o : Option Slot). cond (is_some o) (slot_count slots) (slot_count slots + 1)) e)

pub as_many_slots : (slots : Slots) (key : List ℕ) (slot other : Slot) → slot_at slots key ≡ Some other → slot_count (with_slot slots key slot) ≡ slot_count slots
as_many_slots slots key slot other there = map.len-insert nat_list_cmp_total slots key slot ∙ ap (λ (o : Option Slot). cond (is_some o) (slot_count slots) (slot_count slots + 1)) there

pub fewer_slots : (slots : Slots) (key : List ℕ) → slot_count (without_slot slots key) ≤ slot_count slots
fewer_slots slots key = by_there (slot_at slots key) refl
  where
    by_there : (o : Option Slot) → slot_at slots key ≡ o → slot_count (without_slot slots key) ≤ slot_count slots
    by_there None e = omega (arith, map.len-remove nat_list_cmp_total slots key ∙ ap (λ (o : Option Slot). cond (is_some o) (slot_count slots - 1) (slot_count slots)) e)
    by_there (Some s) e = omega (arith, one_less slots key s e)

at_none : (s : Slot) → None ≡ Some s → ⊥
at_none s e = cc

some_count : (all : Slots) (key : List ℕ) (slot : Slot) → slot_at all key ≡ Some slot → 0 < slot_count all
some_count all key slot e = by_count (slot_count all) refl
  where
    by_count : (n : ℕ) → slot_count all ≡ n → 0 < slot_count all
    by_count zero none = absurd (at_none slot (sym (map.get-empty (slice_cmp nat_cmp) key) ∙ ap (λ (m : Slots). slot_at m key) (sym (map.empty_of_len all none)) ∙ e))
    by_count (suc n) is = omega (arith, is)

-- slots that are all among others are no more than those
few_by : (k : ℕ) (some all : Slots) → slot_count some ≡ k → ((key : List ℕ) (slot : Slot) → slot_at some key ≡ Some slot → slot_at all key ≡ Some slot) → slot_count some ≤ slot_count all
few_by zero some all count among = omega (arith, count)
few_by (suc k) some all count among =
    let it = some_slot some k count in
    let key : List ℕ = it.0 in
    let there : slot_at all key ≡ Some it.1.0 = among key it.1.0 it.1.1 in
    let less : slot_count (without_slot some key) ≡ slot_count some - 1 = one_less some key it.1.0 it.1.1 in
    let other : slot_count (without_slot all key) ≡ slot_count all - 1 = one_less all key it.1.0 there in
    let rest : slot_count (without_slot some key) ≤ slot_count (without_slot all key) = few_by k (without_slot some key) (without_slot all key) (omega (arith, less, count))
    (λ q slot e. by_key q key
    (λ same. absurd (at_none slot (sym (take_same some key q same) ∙ e)))
    (λ away. take_other all key q away ∙ among q slot (sym (take_other some key q away) ∙ e))) in
    let pos : 0 < slot_count all = some_count all key it.1.0 there in
    omega (arith, rest, less, other, count, pos)

pub few_among : (some all : Slots) → ((key : List ℕ) (slot : Slot) → slot_at some key ≡ Some slot → slot_at all key ≡ Some slot) → slot_count some ≤ slot_count all
few_among some all among = few_by (slot_count some) some all refl among
