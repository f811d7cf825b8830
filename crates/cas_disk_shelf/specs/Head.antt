-- The payload of a shelf's head: its kind and the name of the format, how many narrow cells stand behind it, how many wide ones, and
-- the least ages. A head of the old form tells narrow cells alone. Numbers are big-endian.
use Rattle.std.specs.Prelude.{◌≡◌, ℕ, ◌+◌, ◌*◌, ◌^◌, ◌<◌, ◌≤◌, min, Bool, true, false, nat_lt, slice_index, ◌==◌, if◌then◌else◌, List, [], ◌∷◌, ◌++◌, map, length, take, drop, codes, Option, Some, None, Result, Ok, Err}
use Rattle.std.specs.Int.{w32, w64, to_be_bytes, from_be_bytes}
use Rattle.std.specs.List.{range_with_len}
use Rattle.cas_slot.specs.declared.ages.Ages.{Ages}
use Rattle.cas_wire.specs.Reading.{rise_at, one_later}
use Rattle.cas_disk_shelf.specs.declared.codec.Head.{Head}

-- how each head begins
abbrev pub head_front : List ℕ
head_front = 4 ∷ codes "CASREG02"

-- how each head of the old form begins
abbrev pub old_front : List ℕ
old_front = 2 ∷ codes "CASREG01"

-- the numbers of a head are within their ends
pub record FitsHead (head : Head) : Type 0 where
  pub narrow : head.narrow ≤ 4096
  pub count : head.count ≤ 4096
  pub long : length head.ages.0 ≡ 17
  pub small : (i : ℕ) → slice_index head.ages.0 i < 2 ^ 64

-- numbers, eight bytes each
abbrev pub numbers_spelling : List ℕ → List ℕ
numbers_spelling [] = []
numbers_spelling (n ∷ numbers) = to_be_bytes w64 n ++ numbers_spelling numbers

-- the bytes of a head
abbrev pub head_spelling : Head → List ℕ
head_spelling head = head_front ++ (to_be_bytes w32 head.narrow ++ (to_be_bytes w32 head.count ++ numbers_spelling head.ages.0))

-- the bytes of one of the old form
abbrev pub old_spelling : Head → List ℕ
old_spelling head = old_front ++ (to_be_bytes w32 head.narrow ++ numbers_spelling head.ages.0)

-- the place of the first byte that differs from this text, or that is missing
abbrev pub unlike_at : List ℕ → List ℕ → Option ℕ
unlike_at [] bytes = None
unlike_at (c ∷ text) [] = Some 0
unlike_at (c ∷ text) (b ∷ bytes) = if b == c then one_later (unlike_at text bytes) else Some 0

-- the number in eight bytes from there on
abbrev pub number_from : ℕ → List ℕ → ℕ
number_from at bytes = from_be_bytes w64 (take 8 (drop at bytes))

-- 17 ages, eight bytes each
unfoldable pub ages_in : List ℕ → Ages
ages_in bytes = record { 0 = map (λ i. number_from (8 * i) bytes) (range_with_len 0 17) }

-- 4096, in four bytes
abbrev pub most_cells : List ℕ
most_cells = 0 ∷ 0 ∷ 16 ∷ 0 ∷ []

-- the head of so many cells whose ages are the bytes from there to the end, or an end too early, or the first byte left over
abbrev pub ages_end : ℕ → ℕ → ℕ → List ℕ → Result Head ℕ
ages_end at narrow count bytes =
    if length bytes == at + 136 then Ok (record { narrow = narrow; count = count; ages = ages_in (drop at bytes) }) else Err (min (length bytes) (at + 136))

-- a number of cells in four bytes; of fewer it is 0
abbrev pub count_of : List ℕ → ℕ
count_of bytes = if nat_lt (length bytes) 4 then 0 else from_be_bytes w32 (take 4 bytes)

abbrev pub count_by : ℕ → Option ℕ → List ℕ → Result ℕ ℕ
count_by at (Some risen) bytes = Err (at + risen)
count_by at None bytes = Ok (count_of bytes)

-- the number of cells in four bytes from there on, or the place of the first byte that raises it above its limit
abbrev pub count_at : ℕ → List ℕ → Result ℕ ℕ
count_at at bytes = count_by at (rise_at most_cells (drop at bytes)) (drop at bytes)

abbrev pub behind_wide : ℕ → List ℕ → Result ℕ ℕ → Result Head ℕ
behind_wide narrow bytes (Ok count) = ages_end 17 narrow count bytes
behind_wide narrow bytes (Err at) = Err at

abbrev pub behind_narrow : List ℕ → Result ℕ ℕ → Result Head ℕ
behind_narrow bytes (Ok narrow) = if nat_lt (length bytes) 13 then Err (length bytes) else behind_wide narrow bytes (count_at 13 bytes)
behind_narrow bytes (Err at) = Err at

abbrev pub new_head_by : Option ℕ → List ℕ → Result Head ℕ
new_head_by (Some unlike) bytes = Err unlike
new_head_by None bytes = behind_narrow bytes (count_at 9 bytes)

-- the head of the new form that these bytes spell
unfoldable pub new_head_of : List ℕ → Result Head ℕ
new_head_of bytes = new_head_by (unlike_at head_front bytes) bytes

abbrev pub behind_old : List ℕ → Result ℕ ℕ → Result Head ℕ
behind_old bytes (Ok narrow) = ages_end 13 narrow 0 bytes
behind_old bytes (Err at) = Err at

abbrev pub old_head_by : Option ℕ → List ℕ → Result Head ℕ
old_head_by (Some unlike) bytes = Err unlike
old_head_by None bytes = behind_old bytes (count_at 9 bytes)

-- the head of the old form that these bytes spell
unfoldable pub old_head_of : List ℕ → Result Head ℕ
old_head_of bytes = old_head_by (unlike_at old_front bytes) bytes

-- whether bytes begin as a head of the old form does
abbrev pub is_old : List ℕ → Bool
is_old bytes = slice_index bytes 0 == 2

abbrev pub head_as : Bool → List ℕ → Result Head ℕ
head_as true bytes = old_head_of bytes
head_as false bytes = new_head_of bytes

-- the head that these bytes spell, or the place of the first byte that no head has there
abbrev pub head_of : List ℕ → Result Head ℕ
head_of bytes = head_as (is_old bytes) bytes

-- the bytes of a head of the old form, or of the new
abbrev pub spelled_as : Bool → Head → List ℕ
spelled_as true head = old_spelling head
spelled_as false head = head_spelling head

-- the bytes spell a head, whose numbers are within their ends
pub record IsSpelledHead (bytes : List ℕ) (head : Head) : Type 0 where
  pub bytes_are : bytes ≡ spelled_as (is_old bytes) head
  pub no_wide : is_old bytes ≡ true → head.count ≡ 0
  pub fits : FitsHead head
