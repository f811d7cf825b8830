-- How a vault's record is spelled. Numbers are big-endian.
use Rattle.std.specs.Prelude.{◌≡◌, ℕ, ◌+◌, ◌^◌, ◌<◌, ◌≤◌, List, ◌∷◌, ◌++◌, length, take, codes}
use Rattle.std.specs.Int.{w32, w64, to_be_bytes}
use Rattle.cas_vault.specs.declared.kept.Kept.{Kept}

-- the numbers of a record are within their ends
pub record RecordFits (kept : Kept) : Type 0 where
  pub bound : kept.bound ≤ 2 ^ 48
  pub age : kept.age ≤ 2 ^ 48
  pub era : kept.era < 2 ^ 32

-- the bytes of a record
abbrev pub spelling : Kept → List ℕ
spelling kept = 3 ∷ codes "CASVLT01" ++ to_be_bytes w64 kept.bound ++ to_be_bytes w64 kept.age ++ to_be_bytes w32 kept.era

-- these bytes spell the record
pub record SpellsRecord (bytes : List ℕ) (kept : Kept) : Type 0 where
  pub fits : RecordFits kept
  pub bytes_are : bytes ≡ spelling kept

-- these bytes begin the spelling of some record
abbrev pub BeginsOne : List ℕ → Type 0
BeginsOne front = (kept : Kept) × RecordFits kept × (take (length front) (spelling kept) ≡ front)

-- at is the place of the first byte that no record has there: the bytes before it begin a record, and with it they do not; bytes
-- that end too early are wrong at their end
pub record IsFirstWrongByte (bytes : List ℕ) (at : ℕ) : Type 0 where
  pub within : at ≤ length bytes
  pub right_before : BeginsOne (take at bytes)
  pub wrong : at < length bytes → BeginsOne (take (at + 1) bytes) → ⊥
  pub too_short : length bytes ≤ at → length bytes < 29
