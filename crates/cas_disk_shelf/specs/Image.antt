-- What the bytes of a disk are to a shelf: the head in cell 0, and behind it narrow and wide cells, of which each is blank, free, or
-- holds the slot of a key. A key may stand in one narrow and one wide cell with equal payloads. Any other cell of a key that a cell
-- before it holds, and the cell of one key too many, is wrong at its first byte.
use Rattle.std.specs.Prelude.{ℕ, zero, suc, ◌+◌, ◌&&◌, ◌||◌, if◌then◌else◌, Bool, false, cond, nat_eq, nat_le, nat_lt, List, [], ◌∷◌, Option, Some, None, is_some, unwrap_or, slice_get, Result, Ok, Err}
use Rattle.std.specs.Cmp.Lexicographic.{pointwise}
use Rattle.cas_slot.specs.declared.ages.Ages.{Ages}
use Rattle.cas_slot.specs.Shelf.{Left}
use Rattle.cas_slot.specs.Slots.{Slots, no_slots, slot_at, with_slot, slot_count}
use Rattle.cas_cells.specs.Format.{foreign_at, cells_on, cell_place, narrow_on, payload_place, count_in, narrow_in}
use Rattle.cas_disk_shelf.specs.declared.codec.Head.{Head}
use Rattle.cas_disk_shelf.specs.Head.{head_of}
use Rattle.cas_disk_shelf.specs.Cell.{KeyedSlot, entry_in}

-- the payload of cell i; a cell that is blank, or is not there, has none
abbrev pub cell_in : List (Option (List ℕ)) → ℕ → Option (List ℕ)
cell_in row i = unwrap_or (slice_get row i) None

-- what a cell behind the head holds, or the place in its payload of the first byte that no payload has there
abbrev pub entry_held : Option (List ℕ) → Result (Option KeyedSlot) ℕ
entry_held None = Ok None
entry_held (Some payload) = entry_in payload

-- the cells of the keys, where this key has this cell
abbrev pub moved : (List ℕ → Option ℕ) → List ℕ → ℕ → List ℕ → Option ℕ
moved cell_of key cell q = cond (pointwise nat_eq key q) (Some cell) (cell_of q)

-- the same where this key has none
abbrev pub removed : (List ℕ → Option ℕ) → List ℕ → List ℕ → Option ℕ
removed cell_of key q = cond (pointwise nat_eq key q) None (cell_of q)

-- where a cell begins, and where its payload does
abbrev pub CellPlace : Type 0
CellPlace = ℕ × ℕ

-- the slots in some cells, and the narrow cell of each key that none of the wide ones holds
abbrev pub ReadSlots : Type 0
ReadSlots = Slots × (List ℕ → Option ℕ)

abbrev pub same_payload : Option (List ℕ) → Option (List ℕ) → Bool
same_payload (Some p) (Some q) = pointwise nat_eq p q
same_payload (Some p) None = false
same_payload None q = false

-- whether cell i is wide and has the payload of this narrow cell, if there is one
abbrev pub is_twin : List (Option (List ℕ)) → ℕ → Option ℕ → Bool
is_twin row i None = false
is_twin row i (Some n) = nat_lt (narrow_in row) i && same_payload (cell_in row n) (cell_in row i)

-- whether the key has a slot already, or 4096 keys have one
abbrev pub is_one_too_many : Slots → List ℕ → Bool
is_one_too_many slots key = is_some (slot_at slots key) || nat_le 4096 (slot_count slots)

-- cell i, at this place, is read behind cells of which this was read
abbrev pub with_cell : List (Option (List ℕ)) → ℕ → CellPlace → ReadSlots → Result (Option KeyedSlot) ℕ → Result ReadSlots ℕ
with_cell row i place read (Ok None) = Ok read
with_cell row i place read (Ok (Some entry)) =
    if is_twin row i (read.1 entry.0) then Ok (read.0, removed read.1 entry.0)
    else (if is_one_too_many read.0 entry.0 then Err place.0
    else Ok (with_slot read.0 entry.0 entry.1, (if nat_le i (narrow_in row) then moved read.1 entry.0 i else read.1)))
with_cell row i place read (Err wrong) = Err (place.1 + wrong)

abbrev pub cell_behind : List (Option (List ℕ)) → ℕ → CellPlace → Result ReadSlots ℕ → Result ReadSlots ℕ
cell_behind row i place (Ok read) = with_cell row i place read (entry_held (cell_in row i))
cell_behind row i place (Err at) = Err at

-- what is read of the first n cells behind the head, which have these places
abbrev pub read_cells : List (Option (List ℕ)) → (ℕ → CellPlace) → ℕ → Result ReadSlots ℕ
read_cells row place zero = Ok (no_slots, λ key. None)
read_cells row place (suc n) = cell_behind row (suc n) (place (suc n)) (read_cells row place n)

abbrev pub with_ages : Ages → Result ReadSlots ℕ → Left
with_ages ages (Ok read) = Ok (record { slots = read.0; ages = ages })
with_ages ages (Err at) = Err at

abbrev pub left_behind : (ℕ → CellPlace) → List (Option (List ℕ)) → Result Head ℕ → Left
left_behind place row (Ok head) = with_ages head.ages (read_cells row place (count_in row))
left_behind place row (Err wrong) = Err ((place 0).1 + wrong)

-- what these cells are, which have these places
abbrev pub left_in : (ℕ → CellPlace) → List (Option (List ℕ)) → Left
left_in place [] = Err 0
left_in place (None ∷ cells) = Err 0
left_in place (Some head ∷ cells) = left_behind place (Some head ∷ cells) (head_of head)

-- where a cell with its payload begins on a disk
abbrev pub place_on : List ℕ → ℕ → CellPlace
place_on disk i = (cell_place (narrow_on disk) i, unwrap_or (payload_place (narrow_on disk) disk i) 0)

abbrev pub left_by : Option ℕ → List ℕ → Left
left_by (Some at) disk = Err at
left_by None disk = left_in (place_on disk) (cells_on disk)

-- What a disk of these bytes is: a shelf with these contents, or no shelf, and this is the place of the first byte that is not as
-- the format demands. The frames of all cells come first, and then the payloads of all cells.
unfoldable pub left_on : List ℕ → Left
left_on disk = left_by (foreign_at disk) disk
