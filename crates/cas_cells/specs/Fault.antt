-- Why a call on cells did not do what it was asked.
use Rattle.std.specs.Prelude.{ℕ, ◌≤◌, Result, IsErrOf}
use Rattle.cas_base.specs.Faults.{Rose}
use Rattle.cas_cells.specs.declared.fault.CellFault.{CellFault}
use Rattle.cas_cells.specs.declared.fault.CellFault.TheVariants.{DiskFault, Foreign}

-- the disk's count of faults does not fall, and `DiskFault` comes only where it rose
pub record HasCellCause {T : Type 0} (result : Result T CellFault) (old new : ℕ) : Type 0 where
  pub never_falls : old ≤ new
  pub failed : IsErrOf result DiskFault → Rose old new

-- the same, and `Foreign` does not come
pub record IsFaultOfDisk {T : Type 0} (result : Result T CellFault) (old new : ℕ) : Type 0 where
  pub never_falls : old ≤ new
  pub failed : IsErrOf result DiskFault → Rose old new
  pub not_foreign : (at : ℕ) → IsErrOf result (Foreign at) → ⊥
