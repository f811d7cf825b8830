use Rattle.std.proofs.Common.{◌≡◌, ℕ}
use Rattle.cas_slot.specs.Limits.{AllBallotsFit}
use Rattle.cas_cells.specs.Cells.{cells_of}
use Rattle.cas_cells.specs.declared.cells.Cells.{Cells}
use Rattle.cas_disk_shelf.specs.declared.memory.Loaded.{Loaded}
use Rattle.cas_disk_shelf.specs.Loading.{IsReadTo}
use Rattle.cas_disk_shelf.specs.Memory.{IsLoadedFrom}
use Rattle.cas_disk_shelf.proofs.memory.load.Given as goal

-- so many cells were loaded, and the ballots in them are within their limits
pub record Loading {D : Type 0} (cells : Cells D) (i : ℕ) (first now : Loaded) : Type 0 where
  pub loaded : IsLoadedFrom (cells_of cells) i now
  pub read : IsReadTo (cells_of cells) i now
  pub fits : AllBallotsFit now.memory.held
  pub ages : now.memory.held.ages ≡ first.memory.held.ages

abbrev pub invariant-loop-i : goal.invariant-loop-i
invariant-loop-i g l = Loading l.cells l.i l.initial.loaded l.loaded
