-- How a run of the program ends.
use Rattle.std.specs.Prelude.{ℕ, Result, Ok, Err}
use Rattle.cas_audit.specs.declared.text.AuditFault.{AuditFault}
use Rattle.cas_audit.specs.declared.text.AuditFault.TheVariants as audit
use Rattle.cas_lines.specs.declared.lines.LineFault.{LineFault}
use Rattle.cas_lines.specs.declared.lines.LineFault.TheVariants as fault
use Rattle.casreg_marks.specs.declared.marks.MarksFault.{MarksFault}
use Rattle.casreg_marks.specs.declared.marks.MarksFault.TheVariants as marks
use Rattle.casreg_race.specs.declared.race.RaceFault.{RaceFault}
use Rattle.casreg_race.specs.declared.race.RaceFault.TheVariants as race
use Rattle.casreg_tasks.specs.declared.histories.HistoryFault.TheVariants as text
use Rattle.cas_store.specs.declared.rack.RackFault.{RackFault}
use Rattle.cas_store.specs.declared.rack.RackFault.TheVariants as rack
use Rattle.cas_reopen.specs.declared.fault.ReopenFault.{ReopenFault}
use Rattle.cas_reopen.specs.declared.fault.ReopenFault.TheVariants as reopening
use Rattle.cas_world.specs.declared.fault.OpenFault.{OpenFault}
use Rattle.cas_world.specs.declared.fault.OpenFault.TheVariants as opening
use Rattle.casreg_command.specs.declared.status.Status.{Status}
use Rattle.casreg_command.specs.declared.status.Status.TheVariants as status

-- the exit status of the program
abbrev pub number_of : Status → ℕ
number_of status.Ok = 0
number_of status.Usage = 2
number_of status.ReadFault = 3
number_of status.WriteFault = 4
number_of (status.NotEmpty disk) = 5
number_of (status.DiskFault disk) = 6
number_of status.TooManyLines = 7
number_of status.NoMemory = 8
number_of (status.Endless line) = 9
number_of (status.Foreign disk at) = 10
number_of (status.TooManyKeys keys) = 11
number_of (status.LostDisk disk) = 12
number_of (status.Spent disk) = 13

-- how a run ends whose next line could not be read
abbrev pub status_of_fault : LineFault → Status
status_of_fault fault.ReadFault = status.ReadFault
status_of_fault fault.TooManyLines = status.TooManyLines
status_of_fault (fault.Endless line) = status.Endless line
status_of_fault fault.NoMemory = status.NoMemory

-- how a run ends whose disks are not known to be empty
abbrev pub status_of_rack : RackFault → Status
status_of_rack (rack.NotEmpty disk) = status.NotEmpty disk
status_of_rack (rack.DiskFault disk) = status.DiskFault disk
status_of_rack rack.NoMemory = status.NoMemory

-- how a run ends whose store was not opened over its disks
abbrev pub status_of_reopening : ReopenFault → Status
status_of_reopening (reopening.LostDisk disk) = status.LostDisk disk
status_of_reopening (reopening.Foreign disk at) = status.Foreign disk at
status_of_reopening (reopening.TooManyKeys keys) = status.TooManyKeys keys
status_of_reopening (reopening.Spent disk) = status.Spent disk
status_of_reopening (reopening.DiskFault disk) = status.DiskFault disk
status_of_reopening reopening.NoMemory = status.NoMemory

-- how a race ends whose store was not opened
abbrev pub status_of_opening : OpenFault → Status
status_of_opening (opening.DiskFault disk) = status.DiskFault disk
status_of_opening (opening.Foreign disk at) = status.NotEmpty disk
status_of_opening (opening.Spent disk) = status.NotEmpty disk
status_of_opening opening.NoMemory = status.NoMemory

-- how a run ends that was a race
abbrev pub status_of_race : Result (Unit {0}) RaceFault → Status
status_of_race (Ok done) = status.Ok
status_of_race (Err (race.NotRun fault)) = status_of_fault fault
status_of_race (Err (race.CutOff text.WriteFault)) = status.WriteFault
status_of_race (Err (race.CutOff text.NoMemory)) = status.NoMemory

-- how an audit ends that told nothing
abbrev pub status_of_audit : AuditFault → Status
status_of_audit audit.ReadFault = status.ReadFault
status_of_audit audit.WriteFault = status.WriteFault
status_of_audit audit.TooManyLines = status.TooManyLines
status_of_audit audit.NoMemory = status.NoMemory
status_of_audit (audit.Endless line) = status.Endless line

-- how a run ends whose record was not written whole
abbrev pub status_of_marks : MarksFault → Status
status_of_marks marks.WriteFault = status.WriteFault
status_of_marks marks.NoMemory = status.NoMemory
