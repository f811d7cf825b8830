-- Lists read by `get_elem?`, and sums over them.
use Rattle.std.proofs.Common.{◌≡◌, ℕ, zero, suc, ◌+◌, ◌%◌, ◌^◌, ◌<◌, ◌≤◌, ◌≢◌, ◌⊎◌, List, [], ◌∷◌, ◌++◌, length, set, refl, sym, ap, inl, inr, ⊎_elim, arith, sum_by}
use mathlib.Core.Option.{some, some-injective, some-ne-none}
use lib.ListN.{get_elem?}
use Rattle.std.proofs.lemmas.List.Sums.{sum_by-cons}

module _ {A : Type 0} where
  -- what stands in a list's last place, or before that
  pub at_snoc : (l : List A) (a b : A) (j : ℕ) → get_elem? (l ++ a ∷ []) j ≡ some b → (get_elem? l j ≡ some b) ⊎ ((j ≡ length l) × (a ≡ b))
  at_snoc [] a b zero e = inr (refl, some-injective a b e)
  at_snoc [] a b (suc j) e = absurd (some-ne-none b (sym e))
  at_snoc (x ∷ xs) a b zero e = inl e
  at_snoc (x ∷ xs) a b (suc j) e = ⊎_elim (λ t. inl t) (λ t. inr (ap suc t.0, t.1)) (at_snoc xs a b j e)

  pub set_there : (l : List A) (i : ℕ) (a b : A) → get_elem? l i ≡ some a → get_elem? (set l i b) i ≡ some b
  set_there [] i a b e = absurd (some-ne-none a (sym e))
  set_there (x ∷ xs) zero a b e = refl
  set_there (x ∷ xs) (suc i) a b e = set_there xs i a b e

  -- one element changes, and the sum with it
  pub sum_set : (f : A → ℕ) (l : List A) (i : ℕ) (a b : A) → get_elem? l i ≡ some a → sum_by f (set l i b) + f a ≡ sum_by f l + f b
  sum_set f [] i a b e = absurd (some-ne-none a (sym e))
  sum_set f (x ∷ xs) zero a b e =
      let same : f x ≡ f a = ap f (some-injective x a e) in
      let old : sum_by f (x ∷ xs) ≡ f x + sum_by f xs = sum_by-cons f x xs in
      let new : sum_by f (b ∷ xs) ≡ f b + sum_by f xs = sum_by-cons f b xs in
      let goal : sum_by f (b ∷ xs) + f a ≡ sum_by f (x ∷ xs) + f b = omega arith in goal
  sum_set f (x ∷ xs) (suc i) a b e =
      let below = sum_set f xs i a b e in
      let old : sum_by f (x ∷ xs) ≡ f x + sum_by f xs = sum_by-cons f x xs in
      let new : sum_by f (x ∷ set xs i b) ≡ f x + sum_by f (set xs i b) = sum_by-cons f x (set xs i b) in
      let goal : sum_by f (x ∷ set xs i b) + f a ≡ sum_by f (x ∷ xs) + f b = omega arith in goal

  pub sum_one : (f : A → ℕ) (l : List A) (i : ℕ) (a : A) → get_elem? l i ≡ some a → f a ≤ sum_by f l
  sum_one f [] i a e = absurd (some-ne-none a (sym e))
  sum_one f (x ∷ xs) zero a e = let same : f x ≡ f a = ap f (some-injective x a e) in omega (arith, sum_by-cons f x xs)
  sum_one f (x ∷ xs) (suc i) a e = let below = sum_one f xs i a e in omega (arith, sum_by-cons f x xs)

  -- two elements weigh at most what all weigh
  pub sum_two : (f : A → ℕ) (l : List A) (i j : ℕ) (a b : A) → j ≢ i → get_elem? l i ≡ some a → get_elem? l j ≡ some b → f a + f b ≤ sum_by f l
  sum_two f [] i j a b other e h = absurd (some-ne-none a (sym e))
  sum_two f (x ∷ xs) zero zero a b other e h = absurd (other refl)
  sum_two f (x ∷ xs) zero (suc j) a b other e h = let same : f x ≡ f a = ap f (some-injective x a e) in let below = sum_one f xs j b h in omega (arith, sum_by-cons f x xs)
  sum_two f (x ∷ xs) (suc i) zero a b other e h = let same : f x ≡ f b = ap f (some-injective x b h) in let below = sum_one f xs i a e in omega (arith, sum_by-cons f x xs)
  sum_two f (x ∷ xs) (suc i) (suc j) a b other e h = let below = sum_two f xs i j a b (λ same. other (ap suc same)) e h in omega (arith, sum_by-cons f x xs)

-- a count modulo 2^64, after one more
pub one_more : (a : ℕ) → (a % 2 ^ 64 + 1) % 2 ^ 64 ≡ (a + 1) % 2 ^ 64
one_more a = omega arith

module _ {A : Type 0} where
  -- what stands in a list stands below its length
  pub at_below : (l : List A) (i : ℕ) (a : A) → get_elem? l i ≡ some a → i < length l
  at_below [] i a e = absurd (some-ne-none a (sym e))
  at_below (x ∷ xs) zero a e = omega arith
  at_below (x ∷ xs) (suc i) a e = let below = at_below xs i a e in omega arith

pub mod_small : (a : ℕ) → a < 2 ^ 64 → a % 2 ^ 64 ≡ a
mod_small a small = omega arith
