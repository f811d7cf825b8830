-- What a word says as a decimal number.
use Rattle.std.specs.Prelude.{ℕ, ◌+◌, ◌-◌, ◌*◌, ◌^◌, Bool, false, ◌&&◌, ◌==◌, nat_lt, nat_le, if◌then◌else◌, List, [], ◌∷◌, length, Option, Some, None, ℤ, pos, neg_ℤ}
use Rattle.std.specs.List.{list_all}
use Rattle.std.specs.Char.{is_ascii_digit}

-- 1 to 20 decimal digits
abbrev pub is_numeral : List ℕ → Bool
is_numeral digits = nat_le 1 (length digits) && nat_le (length digits) 20 && list_all is_ascii_digit digits

-- the number that digits write when they follow those of n
abbrev pub number_after : ℕ → List ℕ → ℕ
number_after n [] = n
number_after n (digit ∷ digits) = number_after (n * 10 + (digit - 48)) digits

-- the number that a word says: 1 to 20 digits, leading zeros allowed, below 2 ^ 64
abbrev pub u64_of : List ℕ → Option ℕ
u64_of word = if is_numeral word && nat_lt (number_after 0 word) (2 ^ 64) then Some (number_after 0 word) else None

-- a minus stands in front
abbrev pub is_negative : List ℕ → Bool
is_negative [] = false
is_negative (byte ∷ _) = byte == 45

-- the word without a minus in front
abbrev pub digits_of : List ℕ → List ℕ
digits_of [] = []
digits_of (byte ∷ bytes) = if byte == 45 then bytes else byte ∷ bytes

-- a number of this size and sign, where an i64 can be it
abbrev pub signed_of : Bool → ℕ → Option ℤ
signed_of negative size = if negative
    then (if nat_le size (2 ^ 63) then Some (neg_ℤ (pos size)) else None)
    else (if nat_lt size (2 ^ 63) then Some (pos size) else None)

-- the number that a word says: 1 to 20 digits after a minus or none, leading zeros allowed, in the range of i64
abbrev pub i64_of : List ℕ → Option ℤ
i64_of word = if is_numeral (digits_of word) then signed_of (is_negative word) (number_after 0 (digits_of word)) else None
