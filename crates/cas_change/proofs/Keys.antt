-- Lemmas on the bytes of keys.
use Rattle.std.proofs.Common.{◌≡◌, ℕ, ◌<◌, ◌≤◌, true, false, not, List, length, get_or, Some, None, arith}
use Rattle.std.specs.List.{All}
use Rattle.std.proofs.lemmas.List.Quantifiers.{position-Some}
use Rattle.std.proofs.lemmas.Grind.{common_steps}
use Rattle.cas_change.specs.Key.{IsKeyByte, is_key_byte, first_bad_byte, IsKey}
use Rattle.cas_change.proofs.Positions.{none_passes}

-- a byte that does not fail the test may stand in a key
pub passing_byte : (byte : ℕ) → not (is_key_byte byte) ≡ false → IsKeyByte byte
passing_byte byte passes = (grind (arith, common_steps), grind (arith, common_steps))

-- a byte that may stand in a key does not fail the test
pub byte_passing : (byte : ℕ) → IsKeyByte byte → not (is_key_byte byte) ≡ true → ⊥
byte_passing byte fits fails = grind (arith, common_steps)

-- without a first bad byte each byte may stand in a key
pub each_byte : (bytes : List ℕ) → first_bad_byte bytes ≡ None → All IsKeyByte bytes
each_byte bytes none = λ k d lt. passing_byte (get_or bytes k d) (none_passes (λ byte. not (is_key_byte byte)) bytes none k d lt)

-- bytes that no fault is found in are a key
pub key_bytes : (bytes : List ℕ) → 0 < length bytes → length bytes ≤ 64 → first_bad_byte bytes ≡ None → IsKey bytes
key_bytes bytes some fits none = record { not_empty = some; fits = fits; each = each_byte bytes none }

-- a key has no first bad byte
pub no_bad_byte : (bytes : List ℕ) (at : ℕ) → IsKey bytes → first_bad_byte bytes ≡ Some at → ⊥
no_bad_byte bytes at key found =
    let first = position-Some (λ byte. not (is_key_byte byte)) bytes at 0 found in
    byte_passing (get_or bytes at 0) (key.each at 0 first.0) first.1
