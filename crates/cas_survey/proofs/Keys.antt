-- The keys of a shelf, in a list that has all of them.
use Rattle.std.proofs.Common.{◌≡◌, ◌∙◌, ◌<◌, ℕ, zero, suc, Bool, true, List, [], ◌∷◌, length, take, Option, None, Some, ap, sym, subst, refl, inl, inr, arith}
use Rattle.std.specs.Prelude.{◌⊎◌, filter, IsSome}
use Rattle.std.specs.List.{list_any}
use Rattle.std.specs.Ordering.{nat_cmp, is_eq, eq_by_cmp}
use Rattle.std.specs.Cmp.Lexicographic.{slice_cmp, nat_list_cmp_total}
use Rattle.std.specs.FinMap as map
use Rattle.std.proofs.lemmas.Cmp.{tied_itself}
use Rattle.std.proofs.lemmas.Map.Views.{tells_apart}
use Rattle.cas_slot.specs.Slots.{Slots, slot_at, keys_above}

-- whether the key is one of these
abbrev pub is_one_of : List (List ℕ) → List ℕ → Bool
is_one_of keys key = list_any (eq_by_cmp (slice_cmp nat_cmp) key) keys

pub same_key : (a b : List ℕ) → eq_by_cmp (slice_cmp nat_cmp) a b ≡ true → a ≡ b
same_key a b e = tells_apart (map.slice_cmp-IsAntisymmetric map.nat_cmp-IsAntisymmetric) a b e

pub own_key : (key : List ℕ) → eq_by_cmp (slice_cmp nat_cmp) key key ≡ true
own_key key = ap is_eq (tied_itself nat_list_cmp_total key)

pub some_or_none : {A : Type 0} (o : Option A) → IsSome o ⊎ (o ≡ None)
some_or_none None = inr refl
some_or_none (Some a) = inl refl

all_taken : {A : Type 0} (n : ℕ) (xs : List A) → length (take n xs) < n → take n xs ≡ xs
all_taken zero xs low = absurd (omega (arith, low))
all_taken (suc n) [] low = refl
all_taken (suc n) (x ∷ xs) low = ap (λ ys. x ∷ ys) (all_taken n xs (omega (arith, low)))

none_left_out : {A : Type 0} (xs : List A) → filter (λ _. true) xs ≡ xs
none_left_out [] = refl
none_left_out (x ∷ xs) = ap (λ ys. x ∷ ys) (none_left_out xs)

-- a list of the first n keys that is shorter than that has all keys
pub all_keys : (n : ℕ) (slots : Slots) (keys : List (List ℕ)) → keys ≡ take n (keys_above slots None) → length keys < n → keys ≡ map.keys slots
all_keys n slots keys is low = is ∙ all_taken n (keys_above slots None) (subst (λ (ks : List (List ℕ)). length ks < n) is low) ∙ none_left_out (map.keys slots)

-- a key that has a slot is one of all
pub kept_is_one : (slots : Slots) (keys : List (List ℕ)) (key : List ℕ) → keys ≡ map.keys slots → IsSome (slot_at slots key) → is_one_of keys key ≡ true
kept_is_one slots keys key is some = ap (λ (ks : List (List ℕ)). is_one_of ks key) is ∙ sym (map.contains_key-keys slots key) ∙ some
