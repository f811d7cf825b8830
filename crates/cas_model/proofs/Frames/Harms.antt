-- A phase that is short of confirmations by so many had at least as many frames harmed.
use Rattle.std.proofs.Common.{◌≡◌, ◌<◌, ◌≤◌, ℕ, Bool, true, false, List, [], ◌∷◌, refl, sym, ap, subst, ◌∙◌, inl, inr, arith}
use Rattle.std.specs.Prelude.{◌⊎◌, ◌==◌, ◌&&◌, ◌||◌, ◌+◌, nat_lt, length, map, filter, cond}
use Rattle.std.specs.List.{range_with_len}
use Rattle.cas_base.proofs.Bools.{true_or_false, or_right}
use Rattle.cas_ballot.specs.Members.{members_where, has_member, IsMemberSet}
use Rattle.cas_ballot.proofs.MemberLemmas.{members_where_same, members_where_tells}
use Rattle.cas_record.proofs.Tests.{nat_same, nat_is}
use Rattle.cas_round.proofs.Lists.{Has, has}

-- ---- counts
-- what passes one test passes one of two others, so they count at least as many
count_more : (p q r : ℕ → Bool) → ((n : ℕ) → p n ≡ true → (q n ≡ true) ⊎ (r n ≡ true)) → (xs : List ℕ) → length (filter p xs) ≤ length (filter q xs) + length (filter r xs)
count_more p q r cases [] = omega arith
count_more p q r cases (x ∷ xs) = by_tests (p x) (q x) (r x) (cases x) (count_more p q r cases xs)
  where
    by_tests : (a b c : Bool) → (a ≡ true → (b ≡ true) ⊎ (c ≡ true)) → length (filter p xs) ≤ length (filter q xs) + length (filter r xs)
        → length (cond a (x ∷ filter p xs) (filter p xs)) ≤ length (cond b (x ∷ filter q xs) (filter q xs)) + length (cond c (x ∷ filter r xs) (filter r xs))
    by_tests false true true f low = omega (arith, low)
    by_tests false true false f low = omega (arith, low)
    by_tests false false true f low = omega (arith, low)
    by_tests false false false f low = low
    by_tests true true true f low = omega (arith, low)
    by_tests true true false f low = omega (arith, low)
    by_tests true false true f low = omega (arith, low)
    by_tests true false false f low = absurd (elim (f refl) [ inl e ↦ cc e | inr e ↦ cc e ])

pub members_count : (p q r : ℕ → Bool) → ((n : ℕ) → p n ≡ true → (q n ≡ true) ⊎ (r n ≡ true)) → length (members_where p) ≤ length (members_where q) + length (members_where r)
unfolding members_where
members_count p q r cases = count_more p q r cases (range_with_len 0 64)

-- ---- sets of acceptors
low_and : (b c : Bool) → b ≡ true → c ≡ (b && c)
low_and true c e = refl
low_and false c e = absurd (cc e)

left_of : (b c : Bool) → (b && c) ≡ true → b ≡ true
left_of true c e = refl
left_of false c e = e

-- a member is below 64
pub member_low : (ids : List ℕ) (n : ℕ) → IsMemberSet ids → has_member ids n ≡ true → n < 64
member_low ids n set has =
    let same : ids ≡ members_where (λ k. nat_lt k 64 && has_member ids k) =
    set.lists ∙ members_where_same (has_member ids) (λ k. nat_lt k 64 && has_member ids k) (λ k low. low_and (nat_lt k 64) (has_member ids k) (lt_is low)) in
    lt_tells (left_of (nat_lt n 64) (has_member ids n) (members_where_tells (λ k. nat_lt k 64 && has_member ids k) n (subst (λ (l : List ℕ). has_member l n ≡ true) same has)))
  where
    lt_is : {a b : ℕ} → a < b → nat_lt a b ≡ true
    lt_is low = grind (arith, low)

    lt_tells : {a b : ℕ} → nat_lt a b ≡ true → a < b
    lt_tells e = grind (arith, e)

-- and stands in the list
pub member_has : (n : ℕ) (ids : List ℕ) → has_member ids n ≡ true → Has n ids
member_has n [] e = absurd (cc e)
member_has n (x ∷ ids) e = elim (true_or_false (x == n)) [
  | inl same ↦ inl (nat_same same)
  | inr other ↦ inr (member_has n ids (ap (λ (t : Bool). t || has_member ids n) (sym other) ∙ e))
]

pub has_of_map : {A B : Type 0} (f : A → B) (y : B) (xs : List A) → Has y (map f xs) → (x : A) × (Has x xs × (f x ≡ y))
has_of_map f y [] h = absurd h
has_of_map f y (x ∷ xs) (inl now) = (x, (inl refl, now))
has_of_map f y (x ∷ xs) (inr h) = let of = has_of_map f y xs h in (of.0, (inr of.1.0, of.1.1))

pub has_map_of : {A B : Type 0} (f : A → B) (x : A) (xs : List A) → Has x xs → Has (f x) (map f xs)
has_map_of f x [] h = absurd h
has_map_of f x (y ∷ xs) (inl now) = inl (ap f now)
has_map_of f x (y ∷ xs) (inr h) = inr (has_map_of f x xs h)

pub has_member_of : (n : ℕ) (ids : List ℕ) → Has n ids → has_member ids n ≡ true
has_member_of n [] h = absurd h
has_member_of n (x ∷ ids) (inl now) = ap (λ (t : Bool). t || has_member ids n) (nat_is now)
has_member_of n (x ∷ ids) (inr h) = or_right (x == n) (has_member ids n) (has_member_of n ids h)
