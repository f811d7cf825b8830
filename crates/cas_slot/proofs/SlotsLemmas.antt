-- The slots of a `BTreeMap`, as a finite map.
use Rattle.std.proofs.Common.{◌≡◌, ℕ, Bool, true, false, cond, List, [], ◌∷◌, sym, ◌∙◌, ap, refl, Some, None}
use Rattle.std.specs.Prelude.{◌⊎◌, Option}
use Rattle.std.specs.Ordering.{nat_cmp, is_eq, eq_by_cmp}
use Rattle.std.specs.Cmp.{eq_by_cmp_equiv}
use Rattle.std.specs.Cmp.Lexicographic.{slice_cmp, nat_list_cmp_total}
use Rattle.std.proofs.lemmas.Cmp.{tied_itself}
use Rattle.std.proofs.lemmas.Map.Views.{tells_apart}
use Rattle.std.specs.declared.cmp.Ordering.{Ordering}
use Rattle.std.specs.declared.cmp.Ordering.TheVariants.{Less, Equal, Greater}
use mathlib.Core.Logic.{inl, inr}
use Rattle.std.specs.Map.{lookup}
use Rattle.std.specs.BTreeMap.{is_at}
use Rattle.std.specs.FinMap as map
use Rattle.cas_slot.specs.declared.slot.Slot.{Slot}
use Rattle.cas_slot.specs.Slots.{Slots, slot_at, with_slot, without_slot}

-- the map of these entries

found : (key : List ℕ) (entries : List (List ℕ × Slot)) → lookup (is_at (slice_cmp nat_cmp key)) entries ≡ map.find (slice_cmp nat_cmp) key entries
found key [] = refl
found key (e ∷ es) = ap (cond (is_eq (slice_cmp nat_cmp key e.0)) (Some e.1)) (found key es)

-- what a look-up finds is the slot at the key
pub lookup-slots : (key : List ℕ) (entries : List (List ℕ × Slot)) → lookup (is_at (slice_cmp nat_cmp key)) entries ≡ slot_at (map.from_entries entries) key
lookup-slots key entries = found key entries ∙ sym (map.get-from_entries nat_list_cmp_total entries key)

-- entries that answer every look-up as after a put are the map after it
pub put-slots : (key : List ℕ) (slot : Slot) (old new : List (List ℕ × Slot))
    → ((q : List ℕ) → lookup (is_at (slice_cmp nat_cmp q)) new ≡ cond (is_at (slice_cmp nat_cmp key) q) (Some slot) (lookup (is_at (slice_cmp nat_cmp q)) old))
    → map.from_entries {R = slice_cmp nat_cmp} new ≡ with_slot (map.from_entries old) key slot
put-slots key slot old new answers =
    map.same_map nat_list_cmp_total (map.slice_cmp-IsAntisymmetric map.nat_cmp-IsAntisymmetric) _ _ (λ q.
    sym (lookup-slots q new) ∙ answers q ∙ ap (cond (is_at (slice_cmp nat_cmp key) q) (Some slot)) (lookup-slots q old)
    ∙ ap (λ (b : Bool). cond b (Some slot) (slot_at (map.from_entries old) q)) ((eq_by_cmp_equiv nat_list_cmp_total).symm key q)
    ∙ sym (map.get-insert nat_list_cmp_total (map.from_entries old) key slot q))

-- what stands at a key after a put
pub slot_at-with_slot : (slots : Slots) (key : List ℕ) (slot : Slot) (q : List ℕ)
    → slot_at (with_slot slots key slot) q ≡ cond (eq_by_cmp (slice_cmp nat_cmp) q key) (Some slot) (slot_at slots q)
slot_at-with_slot slots key slot q = map.get-insert nat_list_cmp_total slots key slot q

pub slot_at-with_slot_same : (slots : Slots) (key : List ℕ) (slot : Slot) → slot_at (with_slot slots key slot) key ≡ Some slot
slot_at-with_slot_same slots key slot =
    slot_at-with_slot slots key slot key ∙ ap (λ o. cond (is_eq o) (Some slot) (slot_at slots key)) (tied_itself nat_list_cmp_total key)

by_test : {A : Type 0} (b : Bool) (x y : A) → (cond b x y ≡ x) ⊎ (cond b x y ≡ y)
by_test true x y = inl refl
by_test false x y = inr refl

-- it is the slot that was put, or the one that stood there
pub slot_cases : (slots : Slots) (key : List ℕ) (slot : Slot) (q : List ℕ)
    → (slot_at (with_slot slots key slot) q ≡ Some slot) ⊎ (slot_at (with_slot slots key slot) q ≡ slot_at slots q)
slot_cases slots key slot q = elim (by_test (eq_by_cmp (slice_cmp nat_cmp) q key) (Some slot) (slot_at slots q)) [
  | inl put ↦ inl (slot_at-with_slot slots key slot q ∙ put)
  | inr kept ↦ inr (slot_at-with_slot slots key slot q ∙ kept)
]

tied : (o : Ordering) → is_eq o ≡ true → o ≡ Equal
tied Less e = cc
tied Equal e = refl
tied Greater e = cc

same_at : (slots : Slots) (key : List ℕ) (slot : Slot) (q : List ℕ) (b : Bool) → eq_by_cmp (slice_cmp nat_cmp) q key ≡ b → slot_at slots key ≡ Some slot
    → cond b (Some slot) (slot_at slots q) ≡ slot_at slots q
same_at slots key slot q true e at = sym at ∙ ap (slot_at slots) (sym (map.slice_cmp-IsAntisymmetric map.nat_cmp-IsAntisymmetric q key (tied (slice_cmp nat_cmp q key) e)))
same_at slots key slot q false e at = refl

-- entries that answer every look-up as after a removal are the map after it
pub drop-slots : (key : List ℕ) (old new : List (List ℕ × Slot))
    → ((q : List ℕ) → lookup (is_at (slice_cmp nat_cmp q)) new ≡ cond (is_at (slice_cmp nat_cmp key) q) None (lookup (is_at (slice_cmp nat_cmp q)) old))
    → map.from_entries {R = slice_cmp nat_cmp} new ≡ without_slot (map.from_entries old) key
drop-slots key old new answers =
    map.same_map nat_list_cmp_total (map.slice_cmp-IsAntisymmetric map.nat_cmp-IsAntisymmetric) _ _ (λ q.
    sym (lookup-slots q new) ∙ answers q ∙ ap (cond (is_at (slice_cmp nat_cmp key) q) None) (lookup-slots q old)
    ∙ ap (λ (b : Bool). cond b None (slot_at (map.from_entries old) q)) ((eq_by_cmp_equiv nat_list_cmp_total).symm key q)
    ∙ sym (map.get-remove nat_list_cmp_total (map.from_entries old) key q))

-- what stands at a key after a removal
pub slot_at-without_slot : (slots : Slots) (key q : List ℕ) → slot_at (without_slot slots key) q ≡ cond (eq_by_cmp (slice_cmp nat_cmp) q key) None (slot_at slots q)
slot_at-without_slot slots key q = map.get-remove nat_list_cmp_total slots key q

-- no slot stands there, or the one that stood there
pub removed_cases : (slots : Slots) (key q : List ℕ) → (slot_at (without_slot slots key) q ≡ None) ⊎ (slot_at (without_slot slots key) q ≡ slot_at slots q)
removed_cases slots key q = elim (by_test (eq_by_cmp (slice_cmp nat_cmp) q key) None (slot_at slots q)) [
  | inl gone ↦ inl (slot_at-without_slot slots key q ∙ gone)
  | inr kept ↦ inr (slot_at-without_slot slots key q ∙ kept)
]

same_key : (a b : List ℕ) → eq_by_cmp (slice_cmp nat_cmp) a b ≡ true → a ≡ b
same_key a b e = tells_apart (map.slice_cmp-IsAntisymmetric map.nat_cmp-IsAntisymmetric) a b e

other_at : (slots : Slots) (key : List ℕ) (put : Option Slot) (q : List ℕ) (b : Bool) → eq_by_cmp (slice_cmp nat_cmp) q key ≡ b → (q ≡ key → ⊥)
    → cond b put (slot_at slots q) ≡ slot_at slots q
other_at slots key put q true e differs = absurd (differs (same_key q key e))
other_at slots key put q false e differs = refl

-- at every other key the slot that stood there stays
pub slot_at-with_slot_other : (slots : Slots) (key : List ℕ) (slot : Slot) (q : List ℕ) → (q ≡ key → ⊥) → slot_at (with_slot slots key slot) q ≡ slot_at slots q
slot_at-with_slot_other slots key slot q differs = slot_at-with_slot slots key slot q ∙ other_at slots key (Some slot) q _ refl differs

pub slot_at-without_slot_same : (slots : Slots) (key : List ℕ) → slot_at (without_slot slots key) key ≡ None
slot_at-without_slot_same slots key = slot_at-without_slot slots key key ∙ ap (λ o. cond (is_eq o) None (slot_at slots key)) (tied_itself nat_list_cmp_total key)

pub slot_at-without_slot_other : (slots : Slots) (key q : List ℕ) → (q ≡ key → ⊥) → slot_at (without_slot slots key) q ≡ slot_at slots q
slot_at-without_slot_other slots key q differs = slot_at-without_slot slots key q ∙ other_at slots key None q _ refl differs

none_at : (slots : Slots) (key q : List ℕ) (b : Bool) → eq_by_cmp (slice_cmp nat_cmp) q key ≡ b → slot_at slots key ≡ None → cond b None (slot_at slots q) ≡ slot_at slots q
none_at slots key q true e at = sym at ∙ ap (slot_at slots) (sym (same_key q key e))
none_at slots key q false e at = refl
