-- One fate more.
use Rattle.std.proofs.Common.{ℕ, suc, ◌+◌, List, [], ◌∷◌, ◌++◌, length, subst, arith}
use Rattle.cas_fate.specs.declared.seeded.Seeded.{Seeded}
use Rattle.casreg_command.specs.Seeds.{IsSeededBy, AreSeeded}

pub seeded_snoc : (caller : ℕ) (fates : List Seeded) (fate : Seeded) → AreSeeded caller fates → IsSeededBy (caller + length fates) fate
    → AreSeeded caller (fates ++ fate ∷ [])
seeded_snoc caller [] fate are is = (subst (λ (seed : ℕ). IsSeededBy seed fate) (omega (arith)) is, tt)
seeded_snoc caller (first ∷ fates) fate are is =
    (are.0, seeded_snoc (suc caller) fates fate are.1 (subst (λ (seed : ℕ). IsSeededBy seed fate) (omega (arith)) is))
