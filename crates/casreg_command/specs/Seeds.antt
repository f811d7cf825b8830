-- The fates of the callers.
use Rattle.std.specs.Prelude.{◌≡◌, ℕ, suc, List, [], ◌∷◌, ⊤}
use Rattle.cas_fate.specs.Seeded.{generator_of_seed, random_of, harms_of}
use Rattle.cas_fate.specs.declared.seeded.Seeded.{Seeded}

-- a fate that goes on from this seed, and has harmed no frame
pub record IsSeededBy (seed : ℕ) (fate : Seeded) : Type 0 where
  pub random : random_of fate ≡ generator_of_seed seed
  pub harms : harms_of fate ≡ 0

-- the fates of the callers from this number on: the seed of each is its caller's number
abbrev pub AreSeeded : ℕ → List Seeded → Type 0
AreSeeded caller [] = ⊤
AreSeeded caller (fate ∷ fates) = IsSeededBy caller fate × AreSeeded (suc caller) fates
