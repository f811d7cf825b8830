-- How a run ends over a folder that does not serve.
use Rattle.casreg.specs.declared.folder.FolderFault.{FolderFault}
use Rattle.casreg.specs.declared.folder.FolderFault.TheVariants as fault
use Rattle.casreg_command.specs.declared.status.Status.{Status}
use Rattle.casreg_command.specs.declared.status.Status.TheVariants as status

-- no disk is opened then, so it is the first that is said to fail
abbrev pub status_of_folder : FolderFault → Status
status_of_folder fault.Unusable = status.DiskFault 0
status_of_folder fault.NoMemory = status.NoMemory
