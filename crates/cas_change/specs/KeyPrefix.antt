-- The number that a key keeps beside its bytes.
use Rattle.std.specs.Prelude.{◌≡◌, ℕ, ◌+◌, ◌*◌, ◌/◌, List, [], ◌∷◌}
use Rattle.cas_change.specs.declared.key.TheConstants.{FIRST_WEIGHT}
use Rattle.cas_change.specs.Key.{IsKey}

-- bytes as a number: the first counts this weight, and each further one a 256th of that of the one before it, rounded down
abbrev pub prefix_number : List ℕ → ℕ → ℕ
prefix_number [] weight = 0
prefix_number (byte ∷ bytes) weight = byte * weight + prefix_number bytes (weight / 256)

-- the bytes of a key with the number that is kept beside them
pub record IsKeyWith (bytes : List ℕ) (prefix : ℕ) : Type 0 where
  pub key : IsKey bytes
  pub number : prefix ≡ prefix_number bytes FIRST_WEIGHT
