-- The first four of the first five of a list, and whether there are more.
use Rattle.std.proofs.Common.{◌≡◌, ◌<◌, ℕ, List, [], ◌∷◌, length, refl, sym, subst, arith}
use Rattle.std.specs.Prelude.{◌↔◌, take, nat_lt, IsTrue}

pub four_of_five : {A : Type 0} (xs : List A) → take 4 (take 5 xs) ≡ take 4 xs
four_of_five [] = refl
four_of_five (a ∷ []) = refl
four_of_five (a ∷ b ∷ []) = refl
four_of_five (a ∷ b ∷ c ∷ []) = refl
four_of_five (a ∷ b ∷ c ∷ d ∷ []) = refl
four_of_five (a ∷ b ∷ c ∷ d ∷ e ∷ xs) = refl

-- more than four of the first five are there just where there are more than four
pub five_tell : {A : Type 0} (n : ℕ) (xs : List A) → n ≡ length (take 5 xs) → IsTrue (nat_lt 4 n) ↔ (4 < length xs)
five_tell n [] is = subst (λ (k : ℕ). IsTrue (nat_lt 4 k) ↔ (4 < 0)) (sym is) (λ t. absurd (cc t), λ low. absurd (omega (arith, low)))
five_tell n (a ∷ []) is = subst (λ (k : ℕ). IsTrue (nat_lt 4 k) ↔ (4 < 1)) (sym is) (λ t. absurd (cc t), λ low. absurd (omega (arith, low)))
five_tell n (a ∷ b ∷ []) is = subst (λ (k : ℕ). IsTrue (nat_lt 4 k) ↔ (4 < 2)) (sym is) (λ t. absurd (cc t), λ low. absurd (omega (arith, low)))
five_tell n (a ∷ b ∷ c ∷ []) is = subst (λ (k : ℕ). IsTrue (nat_lt 4 k) ↔ (4 < 3)) (sym is) (λ t. absurd (cc t), λ low. absurd (omega (arith, low)))
five_tell n (a ∷ b ∷ c ∷ d ∷ []) is = subst (λ (k : ℕ). IsTrue (nat_lt 4 k) ↔ (4 < 4)) (sym is) (λ t. absurd (cc t), λ low. absurd (omega (arith, low)))
five_tell n (a ∷ b ∷ c ∷ d ∷ e ∷ xs) is = subst (λ (k : ℕ). IsTrue (nat_lt 4 k) ↔ (4 < length (a ∷ b ∷ c ∷ d ∷ e ∷ xs))) (sym is) (λ t. omega arith, λ low. refl)
