-- What a fault of the disk is to the cells.
use Rattle.cas_disk.specs.declared.disk.DiskFault.{DiskFault as FaultOfDisk}
use Rattle.cas_disk.specs.declared.disk.DiskFault.TheVariants.{Failed, NoMemory as NoMemoryOfDisk}
use Rattle.cas_cells.specs.declared.fault.CellFault.{CellFault}
use Rattle.cas_cells.specs.declared.fault.CellFault.TheVariants.{DiskFault, NoMemory}

abbrev pub fault_of : FaultOfDisk → CellFault
fault_of Failed = DiskFault
fault_of NoMemoryOfDisk = NoMemory
