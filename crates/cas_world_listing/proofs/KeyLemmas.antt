-- A key that is added to keys that rise, at the place where a binary search finds that it belongs.
use Rattle.std.proofs.Common.{◌≡◌, ◌+◌, ◌<◌, ◌≤◌, ℕ, zero, suc, Bool, true, false, List, [], ◌∷◌, length, get_or, Option, None, Some, refl, sym, ap, subst, ◌∙◌, arith}
use Rattle.std.specs.Prelude.{◌||◌}
use Rattle.std.specs.List.{list_any, insert, AllWithin, HoldsAt}
use Rattle.std.specs.List.Sorted.{IsNonDecreasingBy}
use Rattle.std.specs.Ordering.{nat_cmp, is_lt, is_eq, ordering_index, ordering_reverse}
use Rattle.std.specs.declared.cmp.Ordering.{Ordering}
use Rattle.std.specs.declared.cmp.Ordering.TheVariants.{Less, Equal, Greater}
use Rattle.std.specs.Cmp.Lexicographic.{slice_cmp, nat_list_cmp_total}
use Rattle.std.proofs.lemmas.List.Folds.{list_any_at}
use Rattle.std.proofs.lemmas.List.Sorted.{searchable_from_sorted, list_any-IsPermutation, IsPermutation-insert}
use Rattle.std.proofs.lemmas.Map.Views.{tells_apart}
use Rattle.std.specs.FinMap as map
use Rattle.cas_base.proofs.Bools.{and_left, and_right, both_true}
use Rattle.cas_record.specs.Histories.Chain.{is_key}
use Rattle.cas_record.proofs.Tests.{key_same, key_is}
use Rattle.cas_slot.specs.Slots.{is_above, rises}
use Rattle.cas_world_listing.specs.Keys.{Adds}

-- ---- the order of keys
lt_tells : (o : Ordering) → is_lt o ≡ true → o ≡ Less
lt_tells Less e = refl
lt_tells Equal e = absurd (cc e)
lt_tells Greater e = absurd (cc e)

-- the other way round
reversed : (a b : List ℕ) → slice_cmp nat_cmp a b ≡ ordering_reverse (slice_cmp nat_cmp b a)
reversed a b = nat_list_cmp_total.antisymm a b

above_is_less : (a b : List ℕ) → is_above (Some a) b ≡ true → slice_cmp nat_cmp a b ≡ Less
above_is_less a b above = lt_tells (slice_cmp nat_cmp a b) above

less_is_above : (a b : List ℕ) → slice_cmp nat_cmp a b ≡ Less → is_above (Some a) b ≡ true
less_is_above a b less = ap is_lt less

greater_is_above : (a b : List ℕ) → slice_cmp nat_cmp b a ≡ Greater → is_above (Some a) b ≡ true
greater_is_above a b greater = ap is_lt (reversed a b ∙ ap ordering_reverse greater)

-- ---- keys that rise can be searched
neighbours : (after : Option (List ℕ)) (keys : List (List ℕ)) (k : ℕ) (d : List ℕ) → rises after keys ≡ true → k + 1 < length keys → is_lt (slice_cmp nat_cmp (get_or keys (k + 1) d) (get_or keys k d)) ≡ false
neighbours after keys k d up within = subst (λ (n : ℕ). is_lt (slice_cmp nat_cmp (get_or keys n d) (get_or keys k d)) ≡ false) (let e : suc k ≡ k + 1 = omega arith in e) (at after keys k up (omega arith))
  where
    at : (after : Option (List ℕ)) (keys : List (List ℕ)) (k : ℕ) → rises after keys ≡ true → suc k < length keys → is_lt (slice_cmp nat_cmp (get_or keys (suc k) d) (get_or keys k d)) ≡ false
    at after [] k up within = absurd (omega arith)
    at after (x ∷ []) k up within = absurd (omega arith)
    at after (x ∷ y ∷ ys) zero up within = ap is_lt (reversed y x ∙ ap ordering_reverse (above_is_less x y (and_left (is_above (Some x) y) (rises (Some y) ys) (and_right (is_above after x) (rises (Some x) (y ∷ ys)) up))))
    at after (x ∷ y ∷ ys) (suc k) up within = at (Some x) (y ∷ ys) k (and_right (is_above after x) (rises (Some x) (y ∷ ys)) up) (omega arith)

pub searchable : (keys : List (List ℕ)) (key : List ℕ) → rises None keys ≡ true → IsNonDecreasingBy (λ y. ordering_index (slice_cmp nat_cmp y key)) keys
searchable keys key up = searchable_from_sorted nat_list_cmp_total (λ k. k) keys key (λ k d from to. neighbours None keys k d up to)

-- ---- one more key
-- between those below it and those above it
rises-insert : (after : Option (List ℕ)) (keys : List (List ℕ)) (i : ℕ) (key : List ℕ) → is_above after key ≡ true → rises after keys ≡ true → AllWithin (λ y. slice_cmp nat_cmp y key ≡ Less) keys 0 i
    → AllWithin (λ y. slice_cmp nat_cmp y key ≡ Greater) keys i (length keys) → i ≤ length keys → rises after (insert keys i key) ≡ true
rises-insert after [] zero key above up below over within = both_true (is_above after key) true above refl
rises-insert after [] (suc i) key above up below over within = absurd (omega arith)
rises-insert after (x ∷ xs) zero key above up below over within =
    both_true (is_above after key) (rises (Some key) (x ∷ xs)) above
    (both_true (is_above (Some key) x) (rises (Some x) xs) (greater_is_above key x (over 0 x (omega arith) (omega arith))) (and_right (is_above after x) (rises (Some x) xs) up))
rises-insert after (x ∷ xs) (suc i) key above up below over within =
    both_true (is_above after x) (rises (Some x) (insert xs i key)) (and_left (is_above after x) (rises (Some x) xs) up)
    (rises-insert (Some x) xs i key (less_is_above x key (below 0 x (omega arith) (omega arith))) (and_right (is_above after x) (rises (Some x) xs) up)
    (λ k d from to. below (suc k) d (omega arith) (omega arith)) (λ k d from to. over (suc k) d (omega arith) (omega arith)) (omega arith))

or_comm : (a b : Bool) → (a || b) ≡ (b || a)
or_comm true true = refl
or_comm true false = refl
or_comm false true = refl
or_comm false false = refl

-- it is added where it belongs
pub inserted : (keys : List (List ℕ)) (i : ℕ) (key : List ℕ) → rises None keys ≡ true → AllWithin (λ y. slice_cmp nat_cmp y key ≡ Less) keys 0 i → AllWithin (λ y. slice_cmp nat_cmp y key ≡ Greater) keys i (length keys) → i ≤ length keys
    → Adds (λ other. is_key other key) keys (insert keys i key)
inserted keys i key up below over within = record {
  rises = rises-insert None keys i key refl up below over within;
  keys = λ other. sym (list_any-IsPermutation (is_key other) (key ∷ keys) (insert keys i key) (IsPermutation-insert keys i key)) ∙ or_comm (is_key other key) (list_any (is_key other) keys);
}

-- it is there already
equal_is : (a b : List ℕ) → slice_cmp nat_cmp a b ≡ Equal → a ≡ b
equal_is a b equal = tells_apart (map.slice_cmp-IsAntisymmetric map.nat_cmp-IsAntisymmetric) a b (ap is_eq equal)

absorbed : (a b : Bool) → (b ≡ true → a ≡ true) → a ≡ (a || b)
absorbed true b h = refl
absorbed false true h = h refl
absorbed false false h = refl

pub found : (keys : List (List ℕ)) (i : ℕ) (key : List ℕ) → rises None keys ≡ true → i < length keys → HoldsAt (λ y. slice_cmp nat_cmp y key ≡ Equal) keys i → Adds (λ other. is_key other key) keys keys
found keys i key up within here_ = record {
  rises = up;
  keys = λ other. absorbed (list_any (is_key other) keys) (is_key other key) (λ same. list_any_at (is_key other) keys i key within (key_is (key_same same ∙ sym (equal_is (get_or keys i key) key (here_ key)))));
}

-- ---- more keys, one after another
pub none_added : (keys : List (List ℕ)) → rises None keys ≡ true → Adds (λ key. false) keys keys
none_added keys up = record { rises = up; keys = λ key. or_comm false (list_any (is_key key) keys) }

or_assoc : (a b c : Bool) → ((a || b) || c) ≡ (a || (b || c))
or_assoc true b c = refl
or_assoc false b c = refl

pub added_both : (p q r : List ℕ → Bool) (old middle new : List (List ℕ)) → Adds p old middle → Adds q middle new → ((key : List ℕ) → (p key || q key) ≡ r key) → Adds r old new
added_both p q r old middle new first then both = record {
  rises = then.rises;
  keys = λ key. then.keys key ∙ ap (λ (b : Bool). b || q key) (first.keys key) ∙ or_assoc (list_any (is_key key) old) (p key) (q key) ∙ ap (λ (b : Bool). list_any (is_key key) old || b) (both key);
}

pub added_same : (p q : List ℕ → Bool) (old new : List (List ℕ)) → ((key : List ℕ) → p key ≡ q key) → Adds p old new → Adds q old new
added_same p q old new same adds = record { rises = adds.rises; keys = λ key. adds.keys key ∙ ap (λ (b : Bool). list_any (is_key key) old || b) (same key) }
