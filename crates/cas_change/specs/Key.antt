-- Keys: the names of registers.
use Rattle.std.specs.Prelude.{ℕ, ◌<◌, ◌≤◌, Bool, not, ◌&&◌, nat_le, List, length, All, Option, position}
use Rattle.cas_change.specs.declared.key.TheConstants.{LONGEST_KEY}

-- a byte that may stand in a key: a printable ASCII character other than the space
abbrev pub IsKeyByte : ℕ → Type 0
IsKeyByte byte = (0x21 ≤ byte) × (byte ≤ 0x7E)

-- the same as a test
abbrev pub is_key_byte : ℕ → Bool
is_key_byte byte = nat_le 0x21 byte && nat_le byte 0x7E

-- the place of the first byte that may not stand in a key
abbrev pub first_bad_byte : List ℕ → Option ℕ
first_bad_byte bytes = position (λ byte. not (is_key_byte byte)) bytes

-- the bytes of a key: 1 to 64 of them, each one that may stand there
pub record IsKey (bytes : List ℕ) : Type 0 where
  pub not_empty : 0 < length bytes
  pub fits : length bytes ≤ LONGEST_KEY
  pub each : All IsKeyByte bytes
