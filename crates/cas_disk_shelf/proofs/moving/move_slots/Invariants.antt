use Rattle.std.proofs.Common.{◌≡◌, ◌+◌, ◌*◌, ◌≤◌, ℕ, List, Ok}
use Rattle.cas_slot.specs.Slots.{slot_count}
use Rattle.cas_disk.specs.Disk.{ContinuesOnly}
use Rattle.cas_cells.specs.Cells.{CellsStand, cells_of, disk_of}
use Rattle.cas_cells.specs.Format.{narrow_in}
use Rattle.cas_cells.specs.Length.{NotLonger}
use Rattle.cas_cells.specs.declared.cells.Cells.{Cells}
use Rattle.cas_disk_shelf.specs.declared.memory.Loaded.{Loaded}
use Rattle.cas_disk_shelf.specs.Image.{left_on}
use Rattle.cas_disk_shelf.specs.Memory.{AreCleared, IsMoving}
use Rattle.cas_disk_shelf.proofs.moving.move_slots.Given as goal

-- so many narrow cells were cleared, and a crash would have left what was there before
pub record Moving {D : Type 0} (tells : Type 0) (seen : D → List ℕ) (may_leave : D → List ℕ → Type 0) (moment : D → ℕ) (left_since : D → ℕ → List ℕ → Type 0) (fault_count : D → ℕ) (first now : Cells D) (before loaded : Loaded) (i : ℕ) : Type 0 where
  pub stands : CellsStand tells seen may_leave now
  pub moving : IsMoving (cells_of now) loaded
  pub cleared : AreCleared (cells_of now) i
  pub narrow : narrow_in (cells_of now) ≡ narrow_in (cells_of first)
  pub held : loaded.memory.held ≡ before.memory.held
  pub any_moment : tells → ContinuesOnly moment left_since (disk_of first) (disk_of now) (λ c. left_on c ≡ Ok before.memory.held)
  pub length : tells → NotLonger moment left_since may_leave (disk_of first) (disk_of now) (1024 * (1 + narrow_in (cells_of first)) + 9216 * (slot_count before.memory.held.slots + 1))
  pub faults : fault_count (disk_of first) ≤ fault_count (disk_of now)

abbrev pub invariant-loop-i : goal.invariant-loop-i
invariant-loop-i g l = Moving g.D.Disk.tells g.D.Disk.seen g.D.Disk.may_leave g.D.Disk.moment g.D.Disk.left_since g.D.Disk.fault_count l.initial.cells l.cells l.initial.loaded l.loaded l.i
