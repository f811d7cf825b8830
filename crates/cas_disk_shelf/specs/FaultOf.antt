-- What a fault of the cells is to a shelf.
use Rattle.cas_cells.specs.declared.fault.CellFault.{CellFault}
use Rattle.cas_cells.specs.declared.fault.CellFault.TheVariants as cells
use Rattle.cas_slot.specs.declared.fault.ShelfFault.{ShelfFault}
use Rattle.cas_slot.specs.declared.fault.ShelfFault.TheVariants.{DiskFault, Foreign, NoMemory}

abbrev pub fault_of : CellFault → ShelfFault
fault_of cells.DiskFault = DiskFault
fault_of (cells.Foreign at) = Foreign at
fault_of cells.NoMemory = NoMemory
