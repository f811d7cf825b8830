-- How long the disk of a shelf may become.
use Rattle.std.specs.Prelude.{ℕ, ◌+◌, ◌*◌, ◌≤◌, max, List, length, Ok}
use Rattle.cas_slot.specs.Contents.{Contents}
use Rattle.cas_slot.specs.Slots.{slot_count}
use Rattle.cas_disk.specs.Disk.{LeavesOnly}
use Rattle.cas_cells.specs.Length.{AllWithin}
use Rattle.cas_disk_shelf.specs.declared.shelf.DiskShelf.{DiskShelf}
use Rattle.cas_disk_shelf.specs.Shelf.{disk_of, contents_of, narrow_of, ShelfMayLeave}

-- no longer than the disk was when the shelf took it, or than the end of the wide cell behind so many narrow cells and those of so
-- many slots
abbrev pub longest : ℕ → ℕ → ℕ → ℕ
longest taken narrow most = max taken (1024 * (1 + narrow) + 9216 * (1 + most))

-- the shelf shows at most so many slots, and so does each shelf that a crash may leave of its disk
pub record HoldsAtMost {D : Type 0} (may_leave : D → List ℕ → Type 0) (most : ℕ) (shelf : DiskShelf D) : Type 0 where
  pub shown : slot_count (contents_of shelf).slots ≤ most
  pub left : (held : Contents) → ShelfMayLeave may_leave shelf (Ok held) → slot_count held.slots ≤ most

-- the shelf has at most so many narrow cells and slots, and all that a crash may leave of its disk, what a read gives among it, is no
-- longer than that
pub record IsShort {D : Type 0} (may_leave : D → List ℕ → Type 0) (taken narrow most : ℕ) (shelf : DiskShelf D) : Type 0 where
  pub disk : AllWithin (longest taken narrow most) (may_leave (disk_of shelf))
  pub cells : narrow_of shelf ≤ narrow
  pub slots : HoldsAtMost may_leave most shelf

-- after a call the shelf is short, and what a crash at a moment within the call might have left is too
pub record IsShortThroughout {D : Type 0} (moment : D → ℕ) (left_since : D → ℕ → List ℕ → Type 0) (may_leave : D → List ℕ → Type 0) (taken narrow most : ℕ) (old new : DiskShelf D) : Type 0 where
  pub afterwards : IsShort may_leave taken narrow most new
  pub any_moment : LeavesOnly moment left_since (disk_of old) (disk_of new) (λ c. length c ≤ longest taken narrow most)

-- a call on the shelf keeps it short, where its numbers of narrow cells and of slots count with those before it
abbrev pub StaysShort : {D : Type 0} → (D → ℕ) → (D → ℕ → List ℕ → Type 0) → (D → List ℕ → Type 0) → DiskShelf D → DiskShelf D → Type 0
StaysShort {D} moment left_since may_leave old new =
    (taken narrow before most : ℕ) → IsShort may_leave taken narrow before old → before ≤ most → HoldsAtMost may_leave most new
    → IsShortThroughout moment left_since may_leave taken (max narrow (narrow_of new)) most old new
