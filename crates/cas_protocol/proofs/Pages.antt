-- What a listing of the first keys leaves out: a key that has a slot and is not listed comes behind the last that is.
use Rattle.std.proofs.Common.{◌≡◌, ℕ, zero, suc, ◌<◌, Bool, true, false, cond, List, [], ◌∷◌, length, take, Option, Some, None, refl, sym, ap, subst, ◌∙◌, inl, inr, arith}
use Rattle.std.specs.Prelude.{◌⊎◌, IsTrue, IsSomeAnd, IfSome, is_some, filter}
use Rattle.std.specs.List.{list_any}
use Rattle.std.specs.Ordering.{nat_cmp, is_lt, is_le, eq_by_cmp}
use Rattle.std.proofs.lemmas.Map.Views.{tells_apart}
use Rattle.std.specs.declared.cmp.Ordering.{Ordering}
use Rattle.std.specs.declared.cmp.Ordering.TheVariants.{Less, Equal, Greater}
use Rattle.std.specs.Cmp.Lexicographic.{slice_cmp, nat_list_cmp_total}
use Rattle.std.specs.BTreeMap.Comparable.{le_lt_trans}
use Rattle.std.proofs.lemmas.List.{take_all}
use Rattle.std.specs.FinMap as map
use Rattle.cas_base.proofs.Bools.{and_left, and_right, or_cases, or_left, or_right, not_both}
use Rattle.cas_slot.specs.declared.slot.Slot.{Slot}
use Rattle.cas_slot.specs.Contents.{Contents, kept_at}
use Rattle.cas_slot.specs.Slots.{Slots, is_above, keys_above, rises}
use Rattle.cas_slot.proofs.ListingLemmas.{page_rises}
use Rattle.cas_record.specs.Histories.Chain.{is_key}
use Rattle.cas_record.specs.Logs.Orderly.{IsPassed, last_of}
use Rattle.cas_record.proofs.Tests.{key_same, key_is}

lt_is : (o : Ordering) → is_lt o ≡ true → o ≡ Less
lt_is Less e = refl
lt_is Equal e = cc
lt_is Greater e = cc

-- of three keys
pub below_above : (a b c : List ℕ) → is_above (Some a) b ≡ true → is_above (Some b) c ≡ true → is_above (Some a) c ≡ true
below_above a b c p q =
    let first : slice_cmp nat_cmp a b ≡ Less = lt_is (slice_cmp nat_cmp a b) p in
    ap is_lt (le_lt_trans nat_list_cmp_total a b c (subst (λ o. IsTrue (is_le o)) (sym first) refl) (lt_is (slice_cmp nat_cmp b c) q))

-- a key among those that rise above this one is above it
above_each : (key : List ℕ) (keys : List (List ℕ)) (q : List ℕ) → rises (Some key) keys ≡ true → list_any (is_key q) keys ≡ true → is_above (Some key) q ≡ true
above_each key [] q up among = absurd (cc)
above_each key (x ∷ xs) q up among = elim (or_cases (is_key q x) (list_any (is_key q) xs) among) [
  | inl here_ ↦ subst (λ k. is_above (Some key) k ≡ true) (sym (key_same here_)) (and_left (is_above (Some key) x) (rises (Some x) xs) up)
  | inr later ↦ below_above key x q (and_left (is_above (Some key) x) (rises (Some x) xs) up) (above_each x xs q (and_right (is_above (Some key) x) (rises (Some x) xs) up) later)
]

-- the key is behind the first so many, and above the last of them
record IsBehind (n : ℕ) (keys : List (List ℕ)) (q : List ℕ) : Type 0 where
  more : n < length keys
  above : IsSomeAnd (last_of (take n keys)) (λ last. is_above (Some last) q ≡ true)

some_length : (q : List ℕ) (keys : List (List ℕ)) → list_any (is_key q) keys ≡ true → 0 < length keys
some_length q [] among = absurd (cc)
some_length q (x ∷ xs) among = omega arith

-- a key among those that rise is one of the first so many, or behind them
paged : (n : ℕ) (after : Option (List ℕ)) (keys : List (List ℕ)) (q : List ℕ) → rises after keys ≡ true → list_any (is_key q) keys ≡ true
    → (list_any (is_key q) (take (suc n) keys) ≡ true) ⊎ IsBehind (suc n) keys q
paged n after [] q up among = absurd (cc)
paged zero after (x ∷ xs) q up among = elim (or_cases (is_key q x) (list_any (is_key q) xs) among) [
  | inl here_ ↦ inl (or_left (is_key q x) false here_)
  | inr later ↦ inr (record { more = omega (arith, some_length q xs later); above = above_each x xs q (and_right (is_above after x) (rises (Some x) xs) up) later })
]
paged (suc n) after (x ∷ []) q up among = inl among
paged (suc n) after (x ∷ y ∷ ys) q up among = elim (or_cases (is_key q x) (list_any (is_key q) (y ∷ ys)) among) [
  | inl here_ ↦ inl (or_left (is_key q x) (list_any (is_key q) (take (suc n) (y ∷ ys))) here_)
  | inr later ↦ elim (paged n (Some x) (y ∷ ys) q (and_right (is_above after x) (rises (Some x) (y ∷ ys)) up) later) [
    | inl listed ↦ inl (or_right (is_key q x) (list_any (is_key q) (take (suc n) (y ∷ ys))) listed)
    | inr behind ↦ inr (record { more = omega (arith, behind.more); above = behind.above })
  ]
]

-- ---- the keys of slots
kept_key : (test : List ℕ → Bool) (key q : List ℕ) (keys : List (List ℕ)) (b : Bool) → test key ≡ b → key ≡ q → test q ≡ true → list_any (is_key q) (cond b (key ∷ keys) keys) ≡ true
kept_key test key q keys true e same passes = or_left (is_key q key) (list_any (is_key q) keys) (key_is (sym same))
kept_key test key q keys false e same passes = absurd (not_both (test q) passes (subst (λ k. test k ≡ false) same e))

kept_later : (key q : List ℕ) (keys : List (List ℕ)) (b : Bool) → list_any (is_key q) keys ≡ true → list_any (is_key q) (cond b (key ∷ keys) keys) ≡ true
kept_later key q keys true among = or_right (is_key q key) (list_any (is_key q) keys) among
kept_later key q keys false among = among

-- a key that passes a test is among those that do
among_filter : (test : List ℕ → Bool) (q : List ℕ) (keys : List (List ℕ)) → test q ≡ true → list_any (is_key q) keys ≡ true → list_any (is_key q) (filter test keys) ≡ true
among_filter test q [] passes among = absurd (cc)
among_filter test q (x ∷ xs) passes among = elim (or_cases (is_key q x) (list_any (is_key q) xs) among) [
  | inl here_ ↦ kept_key test x q (filter test xs) (test x) refl (sym (key_same here_)) passes
  | inr later ↦ kept_later x q (filter test xs) (test x) (among_filter test q xs passes later)
]

test_key : (q : List ℕ) (keys : List (List ℕ)) → list_any (eq_by_cmp (slice_cmp nat_cmp) q) keys ≡ true → list_any (is_key q) keys ≡ true
test_key q [] among = among
test_key q (x ∷ xs) among = elim (or_cases (eq_by_cmp (slice_cmp nat_cmp) q x) (list_any (eq_by_cmp (slice_cmp nat_cmp) q) xs) among) [
  | inl here_ ↦ or_left (is_key q x) (list_any (is_key q) xs) (key_is (tells_apart (map.slice_cmp-IsAntisymmetric map.nat_cmp-IsAntisymmetric) q x here_))
  | inr later ↦ or_right (is_key q x) (list_any (is_key q) xs) (test_key q xs later)
]

all_rise : (slots : Slots) (after : Option (List ℕ)) → rises after (keys_above slots after) ≡ true
all_rise slots after =
    let keys = keys_above slots after in
    subst (λ (l : List (List ℕ)). rises after l ≡ true) (take_all (length keys) keys (omega arith)) (page_rises slots after (length keys))

not_last : (last : Option (List ℕ)) (q : List ℕ) → IsSomeAnd last (λ l. is_above (Some l) q ≡ true) → IfSome last (λ l. is_above (Some l) q ≡ false) → ⊥
not_last None q above below = above
not_last (Some l) q above below = not_both (is_above (Some l) q) above below

-- a key that a listing goes past has no slot
pub absent_unlisted : (kept : Contents) (after : Option (List ℕ)) (keys : List (List ℕ)) (more : Bool) (q : List ℕ) → keys ≡ take 4 (keys_above kept.slots after)
    → (4 < length (keys_above kept.slots after) → IsTrue more) → IsTrue (is_above after q) → IsPassed keys more q → kept_at kept q ≡ None
absent_unlisted kept after keys more q first follow above passed = by_slot (kept_at kept q) refl
  where
    unlisted : list_any (is_key q) keys ≡ false
    unlisted = passed.not_listed

    held : {X : Type 0} → is_some (kept_at kept q) ≡ true → X
    held there =
        let among = among_filter (is_above after) q (map.keys kept.slots) above (test_key q (map.keys kept.slots) (sym (map.contains_key-keys kept.slots q) ∙ there)) in
        absurd (elim (paged 3 after (keys_above kept.slots after) q (all_rise kept.slots after) among) [
          | inl listed ↦ not_both (list_any (is_key q) keys) (ap (list_any (is_key q)) first ∙ listed) unlisted
          | inr behind ↦ not_last (last_of keys) q (subst (λ (l : List (List ℕ)). IsSomeAnd (last_of l) (λ last. is_above (Some last) q ≡ true)) (sym first) behind.above) (passed.not_above (follow behind.more))
        ])

    by_slot : (slot : Option Slot) → kept_at kept q ≡ slot → kept_at kept q ≡ None
    by_slot None e = e
    by_slot (Some s) e = held (ap is_some e)
