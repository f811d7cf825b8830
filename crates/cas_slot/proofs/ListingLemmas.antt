-- The keys of a `BTreeMap` of slots, as those of a finite map.
use Rattle.std.proofs.Common.{◌≡◌, ℕ, zero, suc, Bool, true, false, cond, List, [], ◌∷◌, map, length, take, sym, ◌∙◌, ap, subst, refl, Some}
use Rattle.std.specs.Prelude.{Option, None, filter, ◌&&◌}
use lib.Dec.{T}
use Rattle.std.specs.List.{AllByRecursion}
use Rattle.std.specs.List.Sorted.{IsStrictlySortedBy}
use Rattle.std.specs.Ordering.{nat_cmp, is_lt}
use Rattle.std.specs.Cmp.Lexicographic.{slice_cmp, nat_list_cmp_total}
use Rattle.std.specs.FinMap as map
use Rattle.std.specs.FinMap.Entries.{is_sorted, below_all}
use Rattle.std.specs.declared.cmp.Ordering.{Ordering}
use Rattle.std.specs.declared.cmp.Ordering.TheVariants.{Less}
use Rattle.std.specs.declared.ops.Bound.{Bound}
use Rattle.std.specs.declared.ops.Bound.TheVariants.{Excluded, Unbounded}
use Rattle.std.specs.BTreeMap.Range.{entries_between}
use Rattle.cas_base.proofs.Bools.{both_true}
use Rattle.cas_slot.specs.declared.slot.Slot.{Slot}
use Rattle.cas_slot.specs.Slots.{Slots, slot_count, is_above, keys_above, rises}

both : (a b : Bool) → T a → T b → T (a && b)
both true b p q = q
both false b p q = absurd p

all_below : (key : List ℕ) (entries : List (List ℕ × Slot)) → AllByRecursion (λ y. slice_cmp nat_cmp key y ≡ Less) (map (λ e. e.0) entries) → T (below_all (slice_cmp nat_cmp) key entries)
all_below key [] h = tt
all_below key (e ∷ es) h = both (is_lt (slice_cmp nat_cmp key e.0)) (below_all (slice_cmp nat_cmp) key es) (subst (λ (o : Ordering). T (is_lt o)) (sym h.0) tt) (all_below key es h.1)

rising : (entries : List (List ℕ × Slot)) → IsStrictlySortedBy (slice_cmp nat_cmp) (map (λ e. e.0) entries) → T (is_sorted (slice_cmp nat_cmp) entries)
unfolding IsStrictlySortedBy
rising [] h = tt
rising (e ∷ es) h = both (below_all (slice_cmp nat_cmp) e.0 es) (is_sorted (slice_cmp nat_cmp) es) (all_below e.0 es h.0) (rising es h.1)

-- entries in order are those of their map
pub entries-from_entries : (entries : List (List ℕ × Slot)) → IsStrictlySortedBy (slice_cmp nat_cmp) (map (λ e. e.0) entries) → map.entries (map.from_entries {R = slice_cmp nat_cmp} entries) ≡ entries
entries-from_entries entries sorted =
    let up = rising entries sorted in
    let one : map.from_entries {R = slice_cmp nat_cmp} entries ≡ map.from_sorted entries =
    map.same_map nat_list_cmp_total (map.slice_cmp-IsAntisymmetric map.nat_cmp-IsAntisymmetric) _ _ (λ q. map.get-from_entries nat_list_cmp_total entries q ∙ sym (map.get-from_sorted (slice_cmp nat_cmp) entries q up)) in
    ap map.entries one ∙ map.entries-from_sorted (slice_cmp nat_cmp) entries up

pub slot_count-entries : (entries : List (List ℕ × Slot)) → IsStrictlySortedBy (slice_cmp nat_cmp) (map (λ e. e.0) entries) → slot_count (map.from_entries entries) ≡ length entries
slot_count-entries entries sorted = map.len-entries (map.from_entries entries) ∙ ap length (entries-from_entries entries sorted)

pub keys_above-entries : (entries : List (List ℕ × Slot)) (after : Option (List ℕ)) → IsStrictlySortedBy (slice_cmp nat_cmp) (map (λ e. e.0) entries)
    → keys_above (map.from_entries entries) after ≡ filter (is_above after) (map (λ e. e.0) entries)
keys_above-entries entries after sorted = ap (λ (es : List (List ℕ × Slot)). filter (is_above after) (map (λ e. e.0) es)) (entries-from_entries entries sorted)

-- the bound above which the keys after this one lie
abbrev pub start_of : Option (List ℕ) → Bound (List ℕ)
start_of None = Unbounded
start_of (Some after) = Excluded after

one_more : (b : Bool) (key : List ℕ) (slot : Slot) (keys : List (List ℕ)) (entries : List (List ℕ × Slot)) → map (λ e. e.0) entries ≡ keys
    → map (λ e. e.0) (cond (b && true) ((key, slot) ∷ entries) entries) ≡ cond b (key ∷ keys) keys
one_more true key slot keys entries h = ap (λ (ks : List (List ℕ)). key ∷ ks) h
one_more false key slot keys entries h = h

-- the keys of a range from there on are those above
pub keys-between : (after : Option (List ℕ)) (entries : List (List ℕ × Slot))
    → map (λ e. e.0) (entries_between (slice_cmp nat_cmp) (start_of after) Unbounded entries) ≡ filter (is_above after) (map (λ e. e.0) entries)
keys-between None [] = refl
keys-between (Some after) [] = refl
keys-between None (e ∷ es) = ap (λ (ks : List (List ℕ)). e.0 ∷ ks) (keys-between None es)
keys-between (Some after) (e ∷ es) = one_more (is_lt (slice_cmp nat_cmp after e.0)) e.0 e.1 _ _ (keys-between (Some after) es)

-- ---- a page of keys rises

true_of : (b : Bool) → T b → b ≡ true
true_of true h = refl
true_of false h = absurd h

first : (a b : Bool) → T (a && b) → T a
first true b h = tt
first false b h = absurd h

second : (a b : Bool) → T (a && b) → T b
second true b h = h
second false b h = absurd h

-- so many of the keys that pass a test rise where the entries do
page_over : (key : List ℕ) (p : List ℕ → Bool) (n : ℕ) (entries : List (List ℕ × Slot)) → T (below_all (slice_cmp nat_cmp) key entries) → T (is_sorted (slice_cmp nat_cmp) entries)
    → rises (Some key) (take n (filter p (map (λ e. e.0) entries))) ≡ true
page_over key p zero entries below sorted = refl
page_over key p (suc n) [] below sorted = refl
page_over key p (suc n) (e ∷ es) below sorted =
    let keys = filter p (map (λ e. e.0) es) in
    let over = first (below_all (slice_cmp nat_cmp) e.0 es) (is_sorted (slice_cmp nat_cmp) es) sorted in
    let rest = second (below_all (slice_cmp nat_cmp) e.0 es) (is_sorted (slice_cmp nat_cmp) es) sorted in
    let above = is_lt (slice_cmp nat_cmp key e.0) in
    elim (p e.0) as (λ b. rises (Some key) (take (suc n) (cond b (e.0 ∷ keys) keys)) ≡ true) [
      | true ↦ both_true above (rises (Some e.0) (take n keys)) (true_of above (first above (below_all (slice_cmp nat_cmp) key es) below)) (page_over e.0 p n es over rest)
      | false ↦ page_over key p (suc n) es (second above (below_all (slice_cmp nat_cmp) key es) below) rest
    ]

next_page : (after : Option (List ℕ)) (n : ℕ) (key : List ℕ) (keys : List (List ℕ)) (b : Bool) → is_above after key ≡ b → rises (Some key) (take n keys) ≡ true → rises after (take (suc n) keys) ≡ true
    → rises after (take (suc n) (cond b (key ∷ keys) keys)) ≡ true
next_page after n key keys true above over later = both_true (is_above after key) (rises (Some key) (take n keys)) above over
next_page after n key keys false below over later = later

page_from : (after : Option (List ℕ)) (n : ℕ) (entries : List (List ℕ × Slot)) → T (is_sorted (slice_cmp nat_cmp) entries)
    → rises after (take n (filter (is_above after) (map (λ e. e.0) entries))) ≡ true
page_from after zero entries sorted = refl
page_from after (suc n) [] sorted = refl
page_from after (suc n) (e ∷ es) sorted =
    let over = first (below_all (slice_cmp nat_cmp) e.0 es) (is_sorted (slice_cmp nat_cmp) es) sorted in
    let rest = second (below_all (slice_cmp nat_cmp) e.0 es) (is_sorted (slice_cmp nat_cmp) es) sorted in
    next_page after n e.0 (filter (is_above after) (map (λ e. e.0) es)) (is_above after e.0) refl (page_over e.0 (is_above after) n es over rest) (page_from after (suc n) es rest)

-- the first keys above this one come in the order of their bytes
pub page_rises : (slots : Slots) (after : Option (List ℕ)) (n : ℕ) → rises after (take n (keys_above slots after)) ≡ true
page_rises slots after n = page_from after n (map.entries slots) (map.entries_sorted slots)
