-- What a fault of the cells is to a vault.
use Rattle.cas_cells.specs.declared.fault.CellFault.{CellFault}
use Rattle.cas_cells.specs.declared.fault.CellFault.TheVariants.{DiskFault, Foreign as ForeignCells, NoMemory as NoMemoryOfCells}
use Rattle.cas_vault.specs.declared.error.VaultError.{VaultError}
use Rattle.cas_vault.specs.declared.error.VaultError.TheVariants.{VaultFault, Foreign, NoMemory}

abbrev pub error_of : CellFault → VaultError
error_of DiskFault = VaultFault
error_of (ForeignCells at) = Foreign at
error_of NoMemoryOfCells = NoMemory
