-- The floors of slots, entry by entry.
use Rattle.std.proofs.Common.{◌≡◌, ◌∙◌, ◌≤◌, ℕ, suc, List, [], ◌∷◌, length, map, Option, None, Some, true, false, ap, sym, subst, refl, inl, inr, arith}
use Rattle.std.specs.Prelude.{◌↔◌, Contains}
use Rattle.std.specs.List.{AllByRecursion}
use Rattle.std.specs.List.Sorted.{IsStrictlySortedBy}
use Rattle.std.specs.declared.cmp.Ordering.TheVariants.{Less}
use Rattle.std.specs.Ordering.{nat_cmp, is_eq, eq_by_cmp}
use Rattle.std.specs.Cmp.Lexicographic.{slice_cmp, nat_list_cmp_total}
use Rattle.std.specs.Option.{option_map}
use Rattle.std.specs.Map.{lookup}
use Rattle.std.specs.BTreeMap.{BTreeMap, IsOrdered, is_at}
use Rattle.std.specs.FinMap as finite
use Rattle.std.proofs.lemmas.Map.Views.{btree_map_get_iff}
use Rattle.cas_base.proofs.Bools.{some_is, not_both}
use Rattle.cas_slot.specs.declared.slot.Accepted.{Accepted}
use Rattle.cas_slot.specs.declared.slot.Slot.{Slot}
use Rattle.cas_slot.proofs.SlotsLemmas.{lookup-slots}
use Rattle.cas_slot.proofs.ListingLemmas.{slot_count-entries}
use Rattle.cas_model.specs.Openings.{Opening, KeysDiffer}
use Rattle.cas_round.proofs.Lists.{Has, has, contains}
use Rattle.cas_survey.proofs.Keys.{own_key}
use Rattle.cas_restore.specs.Restored.{slots_of}
use Rattle.cas_reopen.specs.Floors.{opening_with, floor_in, AreFloorsOf}

-- a floor, if there is one, before others
abbrev pub with_floor : Option Opening → List Opening → List Opening
with_floor None floors = floors
with_floor (Some floor) floors = floor ∷ floors

-- the floors of these entries, in their order
abbrev pub floors_in : List (List ℕ × Slot) → List Opening
floors_in [] = []
floors_in (entry ∷ entries) = with_floor (floor_in entry.0 entry.1) (floors_in entries)

key_with : (key : List ℕ) (accepted : Option Accepted) (floor : Opening) → option_map (opening_with key) accepted ≡ Some floor → floor.key ≡ key
key_with key None floor is = absurd (cc is)
key_with key (Some accepted) floor is = sym (ap (λ (o : Opening). o.key) (some_is (opening_with key accepted) floor is))

-- the floor of a key bears it
pub key_of_floor : (key : List ℕ) (slot : Slot) (floor : Opening) → floor_in key slot ≡ Some floor → floor.key ≡ key
key_of_floor key slot floor is = key_with key slot.accepted floor is

-- ---- a floor of the entries is that of one of them
abbrev pub IsFloorIn : List (List ℕ × Slot) → Opening → Type 0
IsFloorIn entries floor = (slot : Slot) × Has (floor.key, slot) entries × (floor_in floor.key slot ≡ Some floor)

later : (entry : List ℕ × Slot) (entries : List (List ℕ × Slot)) (floor : Opening) → IsFloorIn entries floor → IsFloorIn (entry ∷ entries) floor
later entry entries floor it = (it.0, inr it.1, it.2)

first : (entry : List ℕ × Slot) (entries : List (List ℕ × Slot)) (floor : Opening) → floor_in entry.0 entry.1 ≡ Some floor → IsFloorIn (entry ∷ entries) floor
first entry entries floor is =
    let same = key_of_floor entry.0 entry.1 floor is in
    (entry.1, inl (sym (ap (λ (key : List ℕ). (key, entry.1)) same)), ap (λ (key : List ℕ). floor_in key entry.1) same ∙ is)

pub floor_has : (entries : List (List ℕ × Slot)) (floor : Opening) → Has floor (floors_in entries) → IsFloorIn entries floor
floor_has [] floor there = absurd there
floor_has (entry ∷ entries) floor there = by_first (floor_has entries floor) (floor_in entry.0 entry.1) refl there
  where
    by_first : (Has floor (floors_in entries) → IsFloorIn entries floor) → (o : Option Opening) → floor_in entry.0 entry.1 ≡ o → Has floor (with_floor o (floors_in entries)) → IsFloorIn
        (entry ∷ entries) floor
    by_first behind None none rest = later entry entries floor (behind rest)
    by_first behind (Some other) is (inl same) = first entry entries floor (is ∙ ap Some same)
    by_first behind (Some other) is (inr rest) = later entry entries floor (behind rest)

pub has_floor : (entries : List (List ℕ × Slot)) (key : List ℕ) (slot : Slot) (floor : Opening) → Has (key, slot) entries → floor_in key slot ≡ Some floor → Has floor (floors_in entries)
has_floor [] key slot floor there is = absurd there
has_floor (entry ∷ entries) key slot floor (inl same) is =
    subst (λ (o : Option Opening). Has floor (with_floor o (floors_in entries))) (sym is ∙ ap (λ (e : List ℕ × Slot). floor_in e.0 e.1) (sym same)) (inl refl)
has_floor (entry ∷ entries) key slot floor (inr rest) is = behind (floor_in entry.0 entry.1) (has_floor entries key slot floor rest is)
  where
    behind : (o : Option Opening) → Has floor (floors_in entries) → Has floor (with_floor o (floors_in entries))
    behind None there = there
    behind (Some other) there = inr there

-- ---- no key has two
other_key : (key : List ℕ) (entries : List (List ℕ × Slot)) (q : List ℕ) (slot : Slot) → AllByRecursion (λ y. slice_cmp nat_cmp key y ≡ Less) (map (λ e. e.0) entries)
    → Has (q, slot) entries → eq_by_cmp (slice_cmp nat_cmp) key q ≡ false
other_key key [] q slot all there = absurd there
other_key key (entry ∷ entries) q slot all (inl same) = ap (λ (e : List ℕ × Slot). eq_by_cmp (slice_cmp nat_cmp) key e.0) (sym same) ∙ ap is_eq all.0
other_key key (entry ∷ entries) q slot all (inr rest) = other_key key entries q slot all.1 rest

before_all : (entry : List ℕ × Slot) (entries : List (List ℕ × Slot)) (o : Option Opening) → floor_in entry.0 entry.1 ≡ o → AllByRecursion (λ y. slice_cmp nat_cmp entry.0 y ≡ Less)
    (map (λ e. e.0) entries)
    → KeysDiffer (floors_in entries) → KeysDiffer (with_floor o (floors_in entries))
before_all entry entries None none low differ = differ
before_all entry entries (Some floor) is low differ = (
  λ other there same.
      let it = floor_has entries other (has other (floors_in entries) there) in
      let key = sym (same ∙ key_of_floor entry.0 entry.1 floor is) in
      not_both (eq_by_cmp (slice_cmp nat_cmp) entry.0 other.key) (subst (λ (k : List ℕ). eq_by_cmp (slice_cmp nat_cmp) entry.0 k ≡ true) key (own_key entry.0))
      (other_key entry.0 entries other.key it.0 low it.1),
  differ,
)

pub floors_differ : (entries : List (List ℕ × Slot)) → IsStrictlySortedBy (slice_cmp nat_cmp) (map (λ e. e.0) entries) → KeysDiffer (floors_in entries)
unfolding IsStrictlySortedBy
floors_differ [] sorted = tt
floors_differ (entry ∷ entries) sorted = before_all entry entries (floor_in entry.0 entry.1) refl sorted.0 (floors_differ entries sorted.1)

one_more : (o : Option Opening) (floors : List Opening) (n : ℕ) → length floors ≤ n → length (with_floor o floors) ≤ suc n
one_more None floors n few = omega (arith, few)
one_more (Some floor) floors n few = omega (arith, few)

pub floors_few : (entries : List (List ℕ × Slot)) → length (floors_in entries) ≤ length entries
floors_few [] = omega arith
floors_few (entry ∷ entries) = one_more (floor_in entry.0 entry.1) (floors_in entries) (length entries) (floors_few entries)

-- ---- all
pub floors_of_entries : (slots : BTreeMap (List ℕ) Slot) → IsOrdered (slice_cmp nat_cmp) slots → AreFloorsOf (slots_of slots) (floors_in slots.entries)
floors_of_entries slots ordered = record {
  each = λ floor there.
      let it = floor_has slots.entries floor (has floor (floors_in slots.entries) there) in
      (it.0, sym (lookup-slots floor.key slots.entries) ∙ (found floor.key it.0).1 (contains (floor.key, it.0) slots.entries it.1), it.2);
  all = λ key slot floor at is.
      contains floor (floors_in slots.entries) (has_floor slots.entries key slot floor (has (key, slot) slots.entries ((found key slot).0 (lookup-slots key slots.entries ∙ at))) is);
  differ = floors_differ slots.entries ordered;
  few = subst (λ (n : ℕ). length (floors_in slots.entries) ≤ n) (sym (slot_count-entries slots.entries ordered)) (floors_few slots.entries);
}
  where
    found : (key : List ℕ) (slot : Slot) → (lookup (is_at (slice_cmp nat_cmp key)) slots.entries ≡ Some slot) ↔ Contains slots.entries (key, slot)
    found key slot = btree_map_get_iff nat_list_cmp_total (finite.slice_cmp-IsAntisymmetric finite.nat_cmp-IsAntisymmetric) slots ordered key slot
