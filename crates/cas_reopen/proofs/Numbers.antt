-- Places of disks that are empty, and the least that is lost.
use Rattle.std.proofs.Common.{◌≡◌, ◌<◌, ◌≤◌, ◌+◌, ℕ, zero, suc, Bool, true, false, List, refl, sym, ap, subst, ◌∙◌, inl, inr, arith, nat_eq}
use Rattle.std.specs.Prelude.{◌⊎◌}
use Rattle.cas_base.proofs.Bools.{true_or_false, not_both}
use Rattle.cas_ballot.specs.Members.{has_member}
use Rattle.cas_model.proofs.Places.{same_or_not}

-- one place, where the end of all is not 0
pub some_last : (end : ℕ) (ids : List ℕ) → ((n : ℕ) → suc n ≡ end → has_member ids n ≡ true) → nat_eq end 0 ≡ false → (n : ℕ) × (has_member ids n ≡ true)
some_last zero ids last is = absurd (cc is)
some_last (suc n) ids last is = (n, last n refl)

-- those of members below this number are not empty
abbrev pub AllBelow : List ℕ → List ℕ → ℕ → Type 0
AllBelow members filled number = (id : ℕ) → id < number → has_member members id ≡ true → has_member filled id ≡ true

pub one_more_below : (members filled : List ℕ) (number : ℕ) → AllBelow members filled number → (has_member members number ≡ true → has_member filled number ≡ true)
    → AllBelow members filled (number + 1)
one_more_below members filled number below here = λ id low member. elim (same_or_not id number) [
  | inl same ↦ subst (λ (n : ℕ). has_member filled n ≡ true) (sym same) (here (subst (λ (n : ℕ). has_member members n ≡ true) same member))
  | inr other ↦ below id (less id number low other) member
]
  where
    less : (id number : ℕ) → id < number + 1 → (id ≡ number → ⊥) → id < number
    less id number low other = omega (arith, low, other)

pub all_below_end : (members filled : List ℕ) (end number : ℕ) → ((n : ℕ) → end ≤ n → has_member members n ≡ false) → end ≤ number → AllBelow members filled number
    → (id : ℕ) → has_member members id ≡ true → has_member filled id ≡ true
all_below_end members filled end number behind last below id member = elim (low_or_not id number) [
  | inl low ↦ below id low member
  | inr high ↦ absurd (not_both (has_member members id) member (behind id (omega (arith, last, high))))
]
  where
    low_or_not : (id n : ℕ) → (id < n) ⊎ (n ≤ id)
    low_or_not id n = grind arith
