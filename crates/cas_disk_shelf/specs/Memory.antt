-- What the memory of a shelf says of its cells.
use Rattle.std.specs.Prelude.{◌≡◌, ℕ, ◌+◌, ◌-◌, ◌<◌, ◌≤◌, Bool, true, false, cond, nat_eq, List, Option, Some, None, slice_get, Result, Ok, Err}
use Rattle.std.specs.Ordering.{nat_cmp, is_eq}
use Rattle.std.specs.Cmp.Lexicographic.{pointwise}
use Rattle.std.specs.BTreeSet.{contains, btree_set_len}
use Rattle.indexmap.specs.IndexMap.{get, index_map_len}
use Rattle.cas_slot.specs.declared.slot.Slot.{Slot}
use Rattle.cas_slot.specs.Contents.{Contents, kept_at}
use Rattle.cas_slot.specs.Slots.{Slots, slot_at, slot_count}
use Rattle.cas_slot.specs.declared.ages.Ages.{Ages}
use Rattle.cas_cells.specs.Format.{count_in, narrow_in, wide_in, head_in}
use Rattle.cas_disk_shelf.specs.declared.codec.Head.{Head}
use Rattle.cas_disk_shelf.specs.declared.memory.Loaded.{Loaded}
use Rattle.cas_disk_shelf.specs.declared.memory.Memory.{Memory}
use Rattle.cas_disk_shelf.specs.Head.{head_spelling, head_of, FitsHead, IsSpelledHead}
use Rattle.cas_disk_shelf.specs.Cell.{KeyedSlot}
use Rattle.cas_disk_shelf.specs.Image.{cell_in, entry_held}

-- the cell of a key, if it has a slot
abbrev pub cell_of : Memory → List ℕ → Option ℕ
cell_of memory key = get (pointwise nat_eq) memory.index key

-- whether a cell is one that holds no slot
abbrev pub is_free : Memory → ℕ → Bool
is_free memory cell = contains nat_cmp memory.free cell

-- the cells that hold no slot, where this is one of them
abbrev pub freed : (ℕ → Bool) → ℕ → ℕ → Bool
freed is_free cell i = cond (is_eq (nat_cmp cell i)) true (is_free i)

-- the same where it is none of them
abbrev pub taken : (ℕ → Bool) → ℕ → ℕ → Bool
taken is_free cell i = cond (is_eq (nat_cmp cell i)) false (is_free i)

-- cell i is wide and holds this
pub record IsCell (narrow : ℕ) (cells : List (Option (List ℕ))) (i : ℕ) (entry : Option KeyedSlot) : Type 0 where
  pub behind : narrow < i
  pub cell : Option (List ℕ)
  pub there : slice_get cells i ≡ Some cell
  pub holds : entry_held cell ≡ Ok entry

-- the memory knows cell i, which was read so; of a narrow cell that holds no slot it knows nothing
abbrev pub CellIsKnown : ℕ → (List ℕ → Option ℕ) → (ℕ → Bool) → ℕ → Result (Option KeyedSlot) ℕ → Type 0
CellIsKnown narrow cell_of is_free i (Ok None) = narrow < i → is_free i ≡ true
CellIsKnown narrow cell_of is_free i (Ok (Some entry)) = cell_of entry.0 ≡ Some i
CellIsKnown narrow cell_of is_free i (Err at) = ⊥

-- the contents, the cells of the keys and the free cells are those of these cells, of which the wide ones alone hold slots
pub record InStep (narrow : ℕ) (contents : Contents) (cell_of : List ℕ → Option ℕ) (is_free : ℕ → Bool) (cells : List (Option (List ℕ))) : Type 0 where
  pub each : (i : ℕ) (cell : Option (List ℕ)) → 0 < i → slice_get cells i ≡ Some cell → CellIsKnown narrow cell_of is_free i (entry_held cell)
  pub free : (i : ℕ) → is_free i ≡ true → IsCell narrow cells i None
  pub held : (key : List ℕ) (i : ℕ) → cell_of key ≡ Some i → (slot : Slot) × IsCell narrow cells i (Some (key, slot)) × (kept_at contents key ≡ Some slot)
  pub none : (key : List ℕ) → cell_of key ≡ None → kept_at contents key ≡ None

-- each wide cell of so many holds a slot or is free, and there are as many slots as keys
pub record CellsAreCounted (memory : Memory) (wide : ℕ) : Type 0 where
  pub cells : index_map_len memory.index + btree_set_len memory.free ≡ wide
  pub keys : slot_count memory.held.slots ≡ index_map_len memory.index

-- the head of a shelf of these cells, with these ages
abbrev pub head_for : List (Option (List ℕ)) → Ages → Head
head_for cells ages = record { narrow = narrow_in cells; count = wide_in cells; ages = ages }

-- the head tells how many cells there are, and these ages; and the slots, the cells of the keys and the free cells are those of these cells
pub record AreOf (cells : List (Option (List ℕ))) (contents : Contents) (cell_of : List ℕ → Option ℕ) (is_free : ℕ → Bool) : Type 0 where
  pub fits : FitsHead (head_for cells contents.ages)
  pub head : head_in cells ≡ head_spelling (head_for cells contents.ages)
  pub few : slot_count contents.slots ≤ 4096
  pub in_step : InStep (narrow_in cells) contents cell_of is_free cells

-- this is the memory of a shelf of these cells
pub record IsMemoryOf (cells : List (Option (List ℕ))) (memory : Memory) : Type 0 where
  pub shown : AreOf cells memory.held (cell_of memory) (is_free memory)
  pub counted : CellsAreCounted memory (wide_in cells)

-- ---- slots in narrow cells too

-- cell i, which is one of the first n behind the head, holds the slot of a key; the cells are given by their payloads
pub record CellHolds (payload : ℕ → Option (List ℕ)) (n i : ℕ) (key : List ℕ) (slot : Slot) : Type 0 where
  pub behind : 0 < i
  pub within : i ≤ n
  pub holds : entry_held (payload i) ≡ Ok (Some (key, slot))

-- the first n cells behind the head, of which so many are narrow, hold these slots and no others, and a key that two of them hold
-- stands in a narrow and a wide cell, with equal payloads
pub record Show (narrow : ℕ) (payload : ℕ → Option (List ℕ)) (n : ℕ) (slots : Slots) : Type 0 where
  pub each : (i : ℕ) → 0 < i → i ≤ n → (entry : Option KeyedSlot) × (entry_held (payload i) ≡ Ok entry)
  pub kept : (i : ℕ) (key : List ℕ) (slot : Slot) → CellHolds payload n i key slot → slot_at slots key ≡ Some slot
  pub there : (key : List ℕ) (slot : Slot) → slot_at slots key ≡ Some slot → (i : ℕ) × CellHolds payload n i key slot
  pub once : (i j : ℕ) (key : List ℕ) (s t : Slot) → CellHolds payload n i key s → CellHolds payload n j key t → i < j → (i ≤ narrow) × (narrow < j) × (payload i ≡ payload j)

-- each key that a wide cell holds has that cell, each other one stands alone in its narrow cell, and the free cells are the wide ones
-- that hold no slot
pub record AreKnown (narrow : ℕ) (payload : ℕ → Option (List ℕ)) (n : ℕ) (cell_of alone_in : List ℕ → Option ℕ) (is_free : ℕ → Bool) : Type 0 where
  pub wide : (i : ℕ) (key : List ℕ) (slot : Slot) → CellHolds payload n i key slot → narrow < i → cell_of key ≡ Some i
  pub lone : (i : ℕ) (key : List ℕ) (slot : Slot) → CellHolds payload n i key slot → i ≤ narrow → cell_of key ≡ None → alone_in key ≡ Some i
  pub own : (key : List ℕ) (i : ℕ) → cell_of key ≡ Some i → (narrow < i) × ((slot : Slot) × CellHolds payload n i key slot)
  pub alone : (key : List ℕ) (i : ℕ) → alone_in key ≡ Some i → (i ≤ narrow) × (cell_of key ≡ None) × ((slot : Slot) × CellHolds payload n i key slot)
  pub free : (i : ℕ) → is_free i ≡ true → (narrow < i) × (i ≤ n) × (entry_held (payload i) ≡ Ok None)
  pub spare : (i : ℕ) → narrow < i → i ≤ n → entry_held (payload i) ≡ Ok None → is_free i ≡ true

-- the narrow cell of a key that no wide cell holds
abbrev pub alone_in : Loaded → List ℕ → Option ℕ
alone_in loaded key = get (pointwise nat_eq) loaded.alone key

-- each wide cell of so many holds a slot or is free, and there are as many slots as keys in wide cells and keys in narrow cells alone
pub record AreCounted (loaded : Loaded) (wide : ℕ) : Type 0 where
  pub cells : index_map_len loaded.memory.index + btree_set_len loaded.memory.free ≡ wide
  pub keys : slot_count loaded.memory.held.slots ≡ index_map_len loaded.memory.index + index_map_len loaded.alone

-- this was loaded of the first n cells behind the head
pub record IsLoadedFrom (cells : List (Option (List ℕ))) (n : ℕ) (loaded : Loaded) : Type 0 where
  pub show : Show (narrow_in cells) (cell_in cells) n loaded.memory.held.slots
  pub known : AreKnown (narrow_in cells) (cell_in cells) n (cell_of loaded.memory) (alone_in loaded) (is_free loaded.memory)
  pub counted : AreCounted loaded (n - narrow_in cells)
  pub few : slot_count loaded.memory.held.slots ≤ 4096

-- this was loaded of all cells, whose head may be of the old form
pub record IsReadFrom (cells : List (Option (List ℕ))) (loaded : Loaded) : Type 0 where
  pub spelled : IsSpelledHead (head_in cells) (head_for cells loaded.memory.held.ages)
  pub read : head_of (head_in cells) ≡ Ok (head_for cells loaded.memory.held.ages)
  pub behind : IsLoadedFrom cells (count_in cells) loaded

-- this is what all cells hold, whose head is of the new form
pub record IsMoving (cells : List (Option (List ℕ))) (loaded : Loaded) : Type 0 where
  pub fits : FitsHead (head_for cells loaded.memory.held.ages)
  pub head : head_in cells ≡ head_spelling (head_for cells loaded.memory.held.ages)
  pub behind : IsLoadedFrom cells (count_in cells) loaded

-- no narrow cell up to this one holds a slot
abbrev pub AreCleared : List (Option (List ℕ)) → ℕ → Type 0
AreCleared cells last = (i : ℕ) → 0 < i → i ≤ last → entry_held (cell_in cells i) ≡ Ok None
