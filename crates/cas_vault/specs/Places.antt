-- Which byte may stand at a place of a vault's record, where those before it may.
use Rattle.std.specs.Prelude.{◌≡◌, ℕ, ◌+◌, ◌<◌, Bool, true, ◌||◌, ◌==◌, nat_lt, nat_le, if◌then◌else◌, List, ◌∷◌, length, codes, slice_index}

-- each record begins so
abbrev pub head : List ℕ
head = 3 ∷ codes "CASVLT01"

-- a number of at most 2 ^ 48 in eight bytes from start on: zero, then at most one, and behind a one only zeros
abbrev pub in_number : List ℕ → ℕ → ℕ → Bool
in_number bytes start place =
    if place == start then slice_index bytes place == 0
    else (if place == start + 1 then nat_le (slice_index bytes place) 1
    else (slice_index bytes (start + 1) == 0 || slice_index bytes place == 0))

-- the head, two such numbers, and four bytes of any kind
abbrev pub may_stand : List ℕ → ℕ → Bool
may_stand bytes place =
    if nat_lt place 9 then slice_index bytes place == slice_index head place
    else (if nat_lt place 17 then in_number bytes 9 place
    else (if nat_lt place 25 then in_number bytes 17 place
    else nat_lt place 29))

-- as many bytes as a record has, each of which may stand where it does
pub record AllStand (bytes : List ℕ) : Type 0 where
  pub long : length bytes ≡ 29
  pub each : (place : ℕ) → place < 29 → may_stand bytes place ≡ true
