-- How the bytes of a text stand in a word.
use Rattle.std.specs.Prelude.{◌≡◌, ℕ, ◌+◌, ◌-◌, ◌*◌, ◌/◌, ◌%◌, Bool, true, ◌&&◌, ◌==◌, not, nat_lt, nat_le, if◌then◌else◌, List, [], ◌∷◌, ◌++◌, length, codes, Option, Some, None}
use Rattle.std.specs.List.{flat_map}
use Rattle.std.specs.Str.{bytes_eq}

-- a byte that stands for itself: printable, no blank, and no percent sign
abbrev pub is_plain : ℕ → Bool
is_plain byte = nat_le 0x21 byte && (nat_le byte 0x7E && not (byte == 37))

-- the value of a hexadecimal digit of either case
abbrev pub hex_value : ℕ → Option ℕ
hex_value digit = if nat_le 48 digit && nat_le digit 57 then Some (digit - 48)
    else (if nat_le 65 digit && nat_le digit 70 then Some (digit - 55)
    else (if nat_le 97 digit && nat_le digit 102 then Some (digit - 87) else None))

-- the byte of two hexadecimal digits, of which the first weighs sixteen times as much
abbrev pub byte_from : Option ℕ → Option ℕ → Option ℕ
byte_from (Some high) (Some low) = Some (high * 16 + low)
byte_from (Some high) None = None
byte_from None low = None

-- what stands for one byte: the byte itself where it is plain, or a percent sign and its two digits
abbrev pub StandsForByte : List ℕ → ℕ → Type 0
StandsForByte [] byte = ⊥
StandsForByte (sign ∷ []) byte = (is_plain sign ≡ true) × (sign ≡ byte)
StandsForByte (sign ∷ digit ∷ []) byte = ⊥
StandsForByte (sign ∷ high ∷ low ∷ []) byte = (sign ≡ 37) × (byte_from (hex_value high) (hex_value low) ≡ Some byte)
StandsForByte (sign ∷ high ∷ low ∷ more ∷ rest) byte = ⊥

-- what stands for each of these bytes, one after another
abbrev pub SpellsEach : List ℕ → List ℕ → Type 0
SpellsEach word [] = word ≡ []
SpellsEach word (byte ∷ bytes) = (front rest : List ℕ) × StandsForByte front byte × SpellsEach rest bytes × (word ≡ front ++ rest)

-- the word spells a text of these bytes. The empty text is a percent sign and a minus
abbrev pub SpellsEscaped : List ℕ → List ℕ → Type 0
SpellsEscaped word [] = word ≡ codes "%-"
SpellsEscaped word (byte ∷ bytes) = SpellsEach word (byte ∷ bytes)

-- the byte of an upper-case hexadecimal digit
abbrev pub hex_digit : ℕ → ℕ
hex_digit n = if nat_lt n 10 then 48 + n else 55 + n

-- a byte of a text as it is written: itself where it is plain, and else a percent sign and its two digits
abbrev pub escaped_byte : ℕ → List ℕ
escaped_byte byte = if is_plain byte then byte ∷ [] else 37 ∷ hex_digit (byte / 16) ∷ hex_digit (byte % 16) ∷ []

-- a text as it is written
abbrev pub escaped : List ℕ → List ℕ
escaped [] = codes "%-"
escaped (byte ∷ bytes) = flat_map escaped_byte (byte ∷ bytes)

-- one byte in front, where there are bytes and there is a byte
abbrev pub onto : Option ℕ → Option (List ℕ) → Option (List ℕ)
onto (Some byte) (Some bytes) = Some (byte ∷ bytes)
onto (Some byte) None = None
onto None bytes = None

-- the bytes that a word stands for, from left to right; none where an escape is broken
abbrev pub unescaped : List ℕ → Option (List ℕ)
unescaped [] = Some []
unescaped (sign ∷ []) = if is_plain sign then Some (sign ∷ []) else None
unescaped (sign ∷ high ∷ []) = if is_plain sign then onto (Some sign) (unescaped (high ∷ [])) else None
unescaped (sign ∷ high ∷ low ∷ rest) = if is_plain sign then onto (Some sign) (unescaped (high ∷ low ∷ rest))
    else (if sign == 37 then onto (byte_from (hex_value high) (hex_value low)) (unescaped rest) else None)

-- the text that a word spells, of any length
abbrev pub text_of : List ℕ → Option (List ℕ)
text_of word = if bytes_eq word (codes "%-") then Some [] else (if length word == 0 then None else unescaped word)
