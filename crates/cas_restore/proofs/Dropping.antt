-- The keys of a shelf, of which those that are not given are dropped one after another.
use Rattle.std.proofs.Common.{◌≡◌, ℕ, zero, suc, ◌<◌, ◌≤◌, ◌+◌, Bool, true, false, List, [], ◌∷◌, length, drop, get_or, None, inl, inr, refl, sym, ap, ◌∙◌, arith, add-one, drop-cons}
use Rattle.std.specs.Prelude.{◌⊎◌, ◌||◌, IsSome}
use Rattle.std.specs.Ordering.{nat_cmp, eq_by_cmp}
use Rattle.std.specs.Cmp.Lexicographic.{slice_cmp}
use Rattle.std.specs.FinMap as map
use Rattle.cas_slot.specs.Contents.{Contents, kept_at}
use Rattle.cas_slot.specs.Slots.{Slots, slot_at}
use Rattle.cas_restore.specs.Restored.{IsBetween, HasNoOthers}
use Rattle.cas_survey.proofs.Keys.{is_one_of, same_key, own_key, some_or_none}

-- each key that these slots lack, and that is kept, is one of these
abbrev pub OthersAreAmong : Slots → Contents → List (List ℕ) → Type 0
OthersAreAmong slots contents keys = (q : List ℕ) → slot_at slots q ≡ None → (kept_at contents q ≡ None) ⊎ (is_one_of keys q ≡ true)

-- ---- all keys
kept_or_none : (slots : Slots) (q : List ℕ) → (slot_at slots q ≡ None) ⊎ (is_one_of (map.keys slots) q ≡ true)
kept_or_none slots q = elim (some_or_none (slot_at slots q)) [
  | inl some ↦ inr (sym (map.contains_key-keys slots q) ∙ some)
  | inr none ↦ inl none
]

pub all_among : (slots : Slots) (contents : Contents) (keys : List (List ℕ)) → keys ≡ map.keys contents.slots → OthersAreAmong slots contents keys
all_among slots contents keys is q lacked = elim (kept_or_none contents.slots q) [
  | inl none ↦ inl none
  | inr one ↦ inr (ap (λ (ks : List (List ℕ)). is_one_of ks q) is ∙ one)
]

-- ---- the key that stands next
one_at : (i : ℕ) (keys : List (List ℕ)) (key : List ℕ) → i < length keys → key ≡ get_or keys i key → is_one_of keys key ≡ true
one_at i [] key low at = absurd (omega (arith, low))
one_at zero (k ∷ keys) key low at = ap (λ (b : Bool). b || is_one_of keys key) (ap (eq_by_cmp (slice_cmp nat_cmp) key) (sym at) ∙ own_key key)
one_at (suc i) (k ∷ keys) key low at = ap (λ (b : Bool). eq_by_cmp (slice_cmp nat_cmp) key k || b) (one_at i keys key (omega (arith, low)) at) ∙ either (eq_by_cmp (slice_cmp nat_cmp) key k)
  where
    either : (b : Bool) → (b || true) ≡ true
    either true = refl
    either false = refl

-- a key at a place of all keys is kept
pub key_is_kept : (slots : Slots) (i : ℕ) (keys : List (List ℕ)) (key : List ℕ) → keys ≡ map.keys slots → i < length keys → key ≡ get_or keys i key → IsSome (slot_at slots key)
key_is_kept slots i keys key is low at = map.contains_key-keys slots key ∙ ap (λ (ks : List (List ℕ)). is_one_of ks key) (sym is) ∙ one_at i keys key low at

first_or_later : (k : List ℕ) (keys : List (List ℕ)) (q : List ℕ) → is_one_of (k ∷ keys) q ≡ true → (q ≡ k) ⊎ (is_one_of keys q ≡ true)
first_or_later k keys q e = by_first (eq_by_cmp (slice_cmp nat_cmp) q k) refl e
  where
    by_first : (b : Bool) → eq_by_cmp (slice_cmp nat_cmp) q k ≡ b → (b || is_one_of keys q) ≡ true → (q ≡ k) ⊎ (is_one_of keys q ≡ true)
    by_first true same e = inl (same_key q k same)
    by_first false other e = inr e

none_stays : (old : Contents) (slots : Slots) (new : Contents) (q : List ℕ) → IsBetween old slots new → slot_at slots q ≡ None → kept_at old q ≡ None → kept_at new q ≡ None
none_stays old slots new q between lacked none = elim (between.each q) [ inl kept ↦ kept ∙ none | inr given ↦ given ∙ lacked ]

-- once the next key is dropped, the others are among those that follow
pub fewer_among : (slots : Slots) (old new : Contents) (keys : List (List ℕ)) (i : ℕ) (key : List ℕ) → i < length keys → key ≡ get_or keys i key → IsBetween old slots new
    → (slot_at slots key ≡ None → kept_at new key ≡ None) → OthersAreAmong slots old (drop i keys) → OthersAreAmong slots new (drop (i + 1) keys)
fewer_among slots old new keys i key low at between dropped among q lacked = elim (among q lacked) [
  | inl none ↦ inl (none_stays old slots new q between lacked none)
  | inr one ↦ elim (first_or_later key (drop (i + 1) keys) q (ap (λ (ks : List (List ℕ)). is_one_of ks q) (sym front) ∙ one)) [
    | inl same ↦ inl (ap (kept_at new) same ∙ dropped (ap (slot_at slots) (sym same) ∙ lacked))
    | inr later ↦ inr later
  ]
]
  where
    front : drop i keys ≡ key ∷ drop (i + 1) keys
    front = rw add-one (drop-cons keys i key low ∙ ap (λ (k : List ℕ). k ∷ drop (suc i) keys) (sym at))

none_beyond : {A : Type 0} (i : ℕ) (xs : List A) → length xs ≤ i → drop i xs ≡ []
none_beyond zero [] low = refl
none_beyond (suc i) [] low = refl
none_beyond zero (x ∷ xs) low = absurd (omega (arith, low))
none_beyond (suc i) (x ∷ xs) low = none_beyond i xs (omega (arith, low))

-- at the end of the keys no other is kept
pub none_among : (slots : Slots) (contents : Contents) (keys : List (List ℕ)) (i : ℕ) → length keys ≤ i → OthersAreAmong slots contents (drop i keys) → HasNoOthers slots contents
none_among slots contents keys i end among q lacked = elim (among q lacked) [
  | inl gone ↦ gone
  | inr one ↦ absurd (let no : false ≡ true = sym (ap (λ (ks : List (List ℕ)). is_one_of ks q) (none_beyond i keys end)) ∙ one in cc no)
]

pub others_stay_away : (slots : Slots) (old new : Contents) → IsBetween old slots new → HasNoOthers slots old → HasNoOthers slots new
others_stay_away slots old new between none q lacked = none_stays old slots new q between lacked (none q lacked)
