-- What a row of cells in memory shows, and what of it stands on its disk.
use Rattle.std.specs.Prelude.{◌≡◌, ℕ, true, false, List, map, slice_get, Option, Some, None, MatchOption}
use Rattle.cas_disk.specs.Disk.{Only}
use Rattle.cas_cells.specs.Format.{FitsCell, IsPayload, TellsSame, head_in, narrow_in}
use Rattle.cas_cells.specs.UnderWay.{change_held, staged_in}
use Rattle.cas_cells.specs.Held.{payload_held, HoldsTail, OnDisk, IsRow}
use Rattle.cas_cells.specs.declared.cell.Cell.{Cell}
use Rattle.cas_cells.specs.declared.cells.Cells.{Cells}
use Rattle.cas_cells.specs.declared.change.Change.{Change}
use Rattle.cas_cells.specs.declared.change.Step.{Step}
use Rattle.cas_cells.specs.declared.change.Step.TheVariants.{Closed, Written}

-- the disk of the cells
abbrev pub disk_of : {D : Type 0} → Cells D → D
disk_of cells = cells.disk

-- the cells as payloads; a blank cell has none
abbrev pub cells_of : {D : Type 0} → Cells D → List (Option (List ℕ))
cells_of cells = map payload_held cells.cells.items

-- the change under way: its cell, whose spare is closed, and the payload that was written into the spare
abbrev pub change_of : {D : Type 0} → Cells D → Option (ℕ × Option (List ℕ))
change_of cells = change_held cells.change

-- the payload that was written in the change under way
abbrev pub staged_of : {D : Type 0} → Cells D → List ℕ
staged_of cells = staged_in (change_of cells)

-- what was written fits its cell, and tells for cell 0 the cells that there are
abbrev pub Agrees : Option (ℕ × Option (List ℕ)) → List (Option (List ℕ)) → Type 0
Agrees None cells = Unit {0}
Agrees (Some change) cells = MatchOption change.1 (Unit {0}) (λ p. FitsCell cells change.0 p × ((change.0 ≡ 0) → TellsSame p cells))

-- the payload stands in the spare, if it was kept there
abbrev pub PayloadIsStaged : ℕ → List ℕ → ℕ → Cell → Step → Type 0
PayloadIsStaged narrow disk i cell Closed = Unit {0}
PayloadIsStaged narrow disk i cell (Written staged) = staged.kept ≡ true → HoldsTail narrow disk i cell staged.payload.items

-- the spare of the cell under change is closed, and what was written stands in it
abbrev pub ChangeIsUnderWay : ℕ → List ℕ → List Cell → Option Change → Type 0
ChangeIsUnderWay narrow disk cells None = Unit {0}
ChangeIsUnderWay narrow disk cells (Some change) = (cell : Cell) → slice_get cells change.cell ≡ Some cell → (cell.spare_open ≡ false) × PayloadIsStaged narrow disk change.cell cell change.step

-- the cells are in use: cell 0 tells how many there are, and where the disk tells its content, what the cells show stands on it
pub record CellsStand {D : Type 0} (tells : Type 0) (seen : D → List ℕ) (may_leave : D → List ℕ → Type 0) (cells : Cells D) : Type 0 where
  pub row : IsRow (cells_of cells)
  pub narrow : cells.narrow ≡ narrow_in (cells_of cells)
  pub head : IsPayload 512 (head_in (cells_of cells))
  pub agrees : Agrees (change_of cells) (cells_of cells)
  pub on_disk : tells → OnDisk cells.narrow (seen cells.disk) cells.cells.items
  pub under_way : tells → ChangeIsUnderWay cells.narrow (seen cells.disk) cells.cells.items cells.change
  pub durable : tells → Only (seen cells.disk) (may_leave cells.disk)
