-- What a shelf on a disk shows, and what of it a crash leaves.
use Rattle.std.specs.Prelude.{◌≡◌, ℕ, List}
use Rattle.cas_slot.specs.Contents.{Contents}
use Rattle.cas_slot.specs.Limits.{AllBallotsFit}
use Rattle.cas_slot.specs.Shelf.{Left}
use Rattle.cas_disk.specs.Disk as disk
use Rattle.cas_cells.specs.Cells as cells
use Rattle.cas_cells.specs.Format.{narrow_in}
use Rattle.cas_disk_shelf.specs.declared.shelf.DiskShelf.{DiskShelf}
use Rattle.cas_disk_shelf.specs.Image.{left_on}
use Rattle.cas_disk_shelf.specs.Memory.{IsMemoryOf}

-- the disk of a shelf
abbrev pub disk_of : {D : Type 0} → DiskShelf D → D
disk_of shelf = cells.disk_of shelf.cells

-- how many narrow cells the head of its cells tells
abbrev pub narrow_of : {D : Type 0} → DiskShelf D → ℕ
narrow_of shelf = narrow_in (cells.cells_of shelf.cells)

-- its slots and its least ages
abbrev pub contents_of : {D : Type 0} → DiskShelf D → Contents
contents_of shelf = shelf.memory.held

-- a shelf is up: its cells are in use, what it keeps in memory is what they hold, and the ballots of that are within their limits
pub record ShelfIsUp {D : Type 0} (tells : Type 0) (seen : D → List ℕ) (may_leave : D → List ℕ → Type 0) (shelf : DiskShelf D) : Type 0 where
  pub row : cells.CellsStand tells seen may_leave shelf.cells
  pub memory : IsMemoryOf (cells.cells_of shelf.cells) shelf.memory
  pub fits : AllBallotsFit shelf.memory.held

-- what a crash of the shelf may leave: what its disk is then
abbrev pub ShelfMayLeave : {D : Type 0} → (D → List ℕ → Type 0) → DiskShelf D → Left → Type 0
ShelfMayLeave may_leave shelf left = (c : List ℕ) × may_leave (disk_of shelf) c × (left ≡ left_on c)

-- the same for some moment since that one
abbrev pub ShelfLeftSince : {D : Type 0} → (D → ℕ → List ℕ → Type 0) → DiskShelf D → ℕ → Left → Type 0
ShelfLeftSince left_since shelf t left = (c : List ℕ) × left_since (disk_of shelf) t c × (left ≡ left_on c)

-- the moment of its disk
abbrev pub moment_of : {D : Type 0} → (D → ℕ) → DiskShelf D → ℕ
moment_of moment shelf = moment (disk_of shelf)

-- a crash of a shelf's disk at any moment since old leaves what has P as a shelf, also in a run that began earlier
abbrev pub ShelfContinuesOnly : {D : Type 0} → (D → ℕ) → (D → ℕ → List ℕ → Type 0) → D → D → (Left → Type 0) → Type 0
ShelfContinuesOnly moment left_since old new P = disk.ContinuesOnly moment left_since old new (λ c. P (left_on c))
