-- The format of a row of cells. A cell is two frames: of 512 bytes in cell 0 and in the narrow cells behind it, which its payload
-- counts, and of 4,608 bytes in the wide cells behind those. A frame is a gate, a number, a length in two bytes, a payload of so many
-- bytes, and zeros to its end. It is open where its gate is 1. Numbers are big-endian.
use Rattle.std.specs.Prelude.{◌≡◌, ◌⊎◌, ℕ, ◌+◌, ◌-◌, ◌*◌, ◌/◌, ◌%◌, ◌≤◌, min, Bool, ◌&&◌, ◌||◌, not, ◌==◌, nat_le, nat_lt, if◌then◌else◌, List, [], ◌∷◌, ◌++◌, length, take, drop, slice_index, Option, Some, None, zero, suc}
use Rattle.std.specs.Option.{option_map}

-- where frame k begins on a disk with so many narrow cells behind cell 0: each frame before it has 512 bytes, and a wide one 4,096 more
unfoldable pub frame_place : ℕ → ℕ → ℕ
frame_place narrow k = 512 * k + 4096 * (k - 2 * (narrow + 1))

-- how many bytes it has, up to where the next one begins
unfoldable pub frame_size : ℕ → ℕ → ℕ
frame_size narrow k = frame_place narrow (k + 1) - frame_place narrow k

-- the bytes of frame k
abbrev pub frame_at : ℕ → List ℕ → ℕ → List ℕ
frame_at narrow disk k = take (frame_size narrow k) (drop (frame_place narrow k) disk)

-- where cell i begins
abbrev pub cell_place : ℕ → ℕ → ℕ
cell_place narrow i = frame_place narrow (2 * i)

-- how many bytes each of its two frames has
abbrev pub half_size : ℕ → ℕ → ℕ
half_size narrow i = frame_size narrow (2 * i)

abbrev pub is_open : List ℕ → Bool
is_open frame = slice_index frame 0 == 1

abbrev pub number_of : List ℕ → ℕ
number_of frame = slice_index frame 1

-- the length that a frame tells of its payload
abbrev pub length_told : List ℕ → ℕ
length_told frame = 256 * slice_index frame 2 + slice_index frame 3

abbrev pub payload_in : List ℕ → List ℕ
payload_in frame = take (length_told frame) (drop 4 frame)

-- the numbers go round: 0, 1, 2 and 0 again
abbrev pub next : ℕ → ℕ
next number = if number == 2 then 0 else number + 1

-- how many zeros stand in front
abbrev pub zeros_in_front : List ℕ → ℕ
zeros_in_front [] = 0
zeros_in_front (b ∷ bytes) = if b == 0 then zeros_in_front bytes + 1 else 0

-- a number is told that no frame has, or that the cell's other open frame has
abbrev pub is_wrong_number : Option ℕ → ℕ → Bool
is_wrong_number None number = nat_lt 2 number
is_wrong_number (Some taken) number = nat_lt 2 number || number == taken

-- the place of the first byte that an open frame of this size may not have there, or its size and more where each of its bytes is right
abbrev pub wrong_in_open : ℕ → Option ℕ → List ℕ → ℕ
wrong_in_open size taken frame = if is_wrong_number taken (number_of frame) then 1
    else (if nat_lt size (256 * slice_index frame 2 + 4) then 2
    else (if length_told frame == 0 || nat_lt size (length_told frame + 4) then 3
    else 4 + length_told frame + zeros_in_front (drop (4 + length_told frame) frame)))

-- the place of the first wrong or missing byte of a frame, or its size where there is none; of a closed frame only the gate counts
abbrev pub first_wrong : ℕ → Option ℕ → List ℕ → ℕ
first_wrong size taken frame = min (length frame) (if is_open frame then wrong_in_open size taken frame else size)

-- the same for a cell of these two frames, or twice their size; two open frames may not have one number
abbrev pub wrong_in_cell : ℕ → List ℕ → List ℕ → ℕ
wrong_in_cell size first second =
    if nat_lt (first_wrong size None first) size then first_wrong size None first
    else size + first_wrong size (if is_open first then Some (number_of first) else None) second

-- The payload of a cell of these two frames: that of its only open frame, or, of two, of the one whose number follows the
-- other's. A cell with no open frame is blank.
abbrev pub payload_of : List ℕ → List ℕ → Option (List ℕ)
payload_of first second =
    if is_open second && (not (is_open first) || number_of second == next (number_of first)) then Some (payload_in second)
    else (if is_open first then Some (payload_in first) else None)

-- where that payload begins in the cell
abbrev pub place_of : ℕ → List ℕ → List ℕ → Option ℕ
place_of size first second =
    if is_open second && (not (is_open first) || number_of second == next (number_of first)) then Some (size + 4)
    else (if is_open first then Some 4 else None)

-- a payload has a length that a frame of this size can tell
pub record IsPayload (size : ℕ) (payload : List ℕ) : Type 0 where
  pub not_empty : 1 ≤ length payload
  pub fits : length payload + 4 ≤ size

-- the number in four bytes from there on
abbrev pub number_told : ℕ → List ℕ → ℕ
number_told at payload = ((slice_index payload at * 256 + slice_index payload (at + 1)) * 256 + slice_index payload (at + 2)) * 256 + slice_index payload (at + 3)

-- a head of the old form: it begins with 2 and tells at most 4096 narrow cells
abbrev pub is_old_head : List ℕ → Bool
is_old_head payload = slice_index payload 0 == 2 && (nat_le 13 (length payload) && nat_le (number_told 9 payload) 4096)

-- a head that tells wide cells too: it begins with 4 and tells at most 4096 cells of each kind
abbrev pub is_head : List ℕ → Bool
is_head payload = slice_index payload 0 == 4 && (nat_le 17 (length payload) && (nat_le (number_told 9 payload) 4096 && nat_le (number_told 13 payload) 4096))

-- how many narrow cells stand behind a cell 0 of this payload, and how many wide cells behind those
abbrev pub narrow_told : List ℕ → ℕ
narrow_told payload = if is_old_head payload || is_head payload then number_told 9 payload else 0

abbrev pub wide_told : List ℕ → ℕ
wide_told payload = if is_head payload then number_told 13 payload else 0

-- how many cells stand behind it
abbrev pub count_told : List ℕ → ℕ
count_told payload = narrow_told payload + wide_told payload

-- a head that tells another number of wide cells, at most 65535
abbrev pub with_count : List ℕ → ℕ → List ℕ
with_count head count = take 13 head ++ (0 ∷ 0 ∷ count / 256 ∷ count % 256 ∷ []) ++ drop 17 head

-- the payload of cell 0 in these cells
abbrev pub head_in : List (Option (List ℕ)) → List ℕ
head_in [] = []
head_in (None ∷ cells) = []
head_in (Some head ∷ cells) = head

-- how many narrow cells stand behind cell 0 in these cells, how many wide ones, and how many of both
abbrev pub narrow_in : List (Option (List ℕ)) → ℕ
narrow_in [] = 0
narrow_in (None ∷ cells) = 0
narrow_in (Some head ∷ cells) = narrow_told head

abbrev pub wide_in : List (Option (List ℕ)) → ℕ
wide_in [] = 0
wide_in (None ∷ cells) = 0
wide_in (Some head ∷ cells) = wide_told head

abbrev pub count_in : List (Option (List ℕ)) → ℕ
count_in cells = narrow_in cells + wide_in cells

-- these cells with one blank wide cell more, which the head in cell 0 tells
abbrev pub grown : List (Option (List ℕ)) → List (Option (List ℕ))
grown [] = []
grown (None ∷ cells) = None ∷ cells
grown (Some head ∷ cells) = Some (with_count head (wide_told head + 1)) ∷ cells ++ None ∷ []

-- a payload for cell i of these cells has a length that a frame of it can tell
abbrev pub FitsCell : List (Option (List ℕ)) → ℕ → List ℕ → Type 0
FitsCell cells i payload = IsPayload (half_size (narrow_in cells) i) payload

-- a payload for cell 0 tells the cells that there are
pub record TellsSame (payload : List ℕ) (cells : List (Option (List ℕ))) : Type 0 where
  pub narrow : narrow_told payload ≡ narrow_in cells
  pub wide : wide_told payload ≡ wide_in cells

-- the payload of this cell of a disk
abbrev pub payload_at : ℕ → List ℕ → ℕ → Option (List ℕ)
payload_at narrow disk i = payload_of (frame_at narrow disk (2 * i)) (frame_at narrow disk (2 * i + 1))

-- where that payload begins on the disk
abbrev pub payload_place : ℕ → List ℕ → ℕ → Option ℕ
payload_place narrow disk i = option_map (λ place. cell_place narrow i + place) (place_of (half_size narrow i) (frame_at narrow disk (2 * i)) (frame_at narrow disk (2 * i + 1)))

-- the payloads of n cells from this one on
abbrev pub payloads_from : ℕ → ℕ → ℕ → List ℕ → List (Option (List ℕ))
payloads_from narrow zero i disk = []
payloads_from narrow (suc n) i disk = payload_at narrow disk i ∷ payloads_from narrow n (i + 1) disk

-- how many narrow cells a disk tells in cell 0
abbrev pub narrow_on : List ℕ → ℕ
narrow_on disk = narrow_in (payload_at 0 disk 0 ∷ [])

-- the cells that a disk stands for: cell 0 and as many as it tells
abbrev pub cells_on : List ℕ → List (Option (List ℕ))
cells_on disk = payload_at 0 disk 0 ∷ payloads_from (narrow_on disk) (count_in (payload_at 0 disk 0 ∷ [])) 1 disk

-- the place of the first wrong byte in a cell of a disk, or the size of the cell
abbrev pub wrong_at : ℕ → List ℕ → ℕ → ℕ
wrong_at narrow disk i = wrong_in_cell (half_size narrow i) (frame_at narrow disk (2 * i)) (frame_at narrow disk (2 * i + 1))

-- the place of the first byte that is wrong or missing in n cells from this one on
abbrev pub wrong_from : ℕ → ℕ → ℕ → List ℕ → Option ℕ
wrong_from narrow zero i disk = None
wrong_from narrow (suc n) i disk =
    if nat_lt (wrong_at narrow disk i) (2 * half_size narrow i) then Some (cell_place narrow i + wrong_at narrow disk i) else wrong_from narrow n (i + 1) disk

-- cell 0 may not be blank
abbrev pub foreign_behind : Option (List ℕ) → List ℕ → Option ℕ
foreign_behind None disk = Some 0
foreign_behind (Some head) disk = wrong_from (narrow_told head) (count_told head) 1 disk

-- the place of the first byte of a disk that is not as this format demands, in rising order over the cells that it tells
abbrev pub foreign_at : List ℕ → Option ℕ
foreign_at disk = if nat_lt (wrong_at 0 disk 0) 1024 then Some (wrong_at 0 disk 0) else foreign_behind (payload_at 0 disk 0) disk

-- a disk is of this format and stands for these cells
pub record IsImageOf (cells : List (Option (List ℕ))) (disk : List ℕ) : Type 0 where
  pub sound : foreign_at disk ≡ None
  pub same : cells_on disk ≡ cells

-- it stands for the cells before a change or for those after it
abbrev pub IsBeforeOrAfter : List (Option (List ℕ)) → List (Option (List ℕ)) → List ℕ → Type 0
IsBeforeOrAfter before after disk = IsImageOf before disk ⊎ IsImageOf after disk
