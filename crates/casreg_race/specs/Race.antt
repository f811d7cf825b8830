-- What a race over the lines of an input did, by its record and what was written.
use Rattle.std.specs.Prelude.{◌≡◌, ◌≤◌, ℕ, suc, List, [], length, reverse, Option, Some, slice_get, Result, Ok, Err}
use Rattle.cas_lines.specs.declared.lines.LineFault.{LineFault}
use Rattle.cas_record.specs.declared.mark.Mark.{Mark}
use Rattle.cas_turn.specs.Seen.{Begins}
use Rattle.cas_board_steps.specs.Mine.{mine}
use Rattle.casreg_tasks.specs.Tasks.{AreAllLines, bad_lines, tasks_of}
use Rattle.casreg_tasks.specs.Texts.{WroteFrontOf, WroteText}
use Rattle.casreg_tasks.specs.declared.histories.HistoryFault.{HistoryFault}
use Rattle.casreg_race.specs.Runs.{RanBehind}
use Rattle.casreg_race.specs.Texts.{IsRaceText}
use Rattle.casreg_race.specs.declared.race.RaceFault.{RaceFault}
use Rattle.casreg_race.specs.declared.race.RaceFault.TheVariants as fault
use Rattle.casreg_race.specs.declared.told.Told.{Told}

-- The record of a race over these lines, read oldest first, on disks that tell what they keep or do not. It begins with these first marks. Each
-- caller's own marks behind its own of these are those of what its lines ask for, in their order, with these answers. At most as many of its
-- frames were lost or made late as its fate's count of harms rose by.
pub record Raced (tells : Type 0) (tries proposers : ℕ) (first : List Mark) (lines : List (List ℕ)) (harms harms_then : List ℕ) (answers : List (List Told)) (marks : List Mark) : Type 0 where
  pub callers : length answers ≡ suc proposers
  pub begins : Begins first marks
  pub runs : (n : ℕ) (of_caller : List Told) → slice_get answers n ≡ Some of_caller → RanBehind tells marks tries n first (tasks_of proposers n lines) of_caller harms harms_then marks

-- What a race wrote whose record has these marks, behind these first ones: its text, or a front of it where the sink failed or there was no memory; or nothing, where not
-- all lines could be read, or there was no memory before any was run.
pub data WroteRace (tells : Type 0) (tries proposers : ℕ) (first : List Mark) (input old new : Option (List ℕ)) (harms harms_then : List ℕ) (marks : List Mark) : Result (Unit {0}) RaceFault → Type 0 where
  whole : (lines : List (List ℕ)) (answers : List (List Told)) → AreAllLines input lines → Raced tells tries proposers first lines harms harms_then answers marks → WroteText (IsRaceText (bad_lines proposers 1 lines) answers (reverse marks)) old new
      → WroteRace tells tries proposers first input old new harms harms_then marks (Ok tt)
  cut_off : (why : HistoryFault) (lines : List (List ℕ)) (answers : List (List Told)) → AreAllLines input lines → Raced tells tries proposers first lines harms harms_then answers marks
      → WroteFrontOf (IsRaceText (bad_lines proposers 1 lines) answers (reverse marks)) old new → WroteRace tells tries proposers first input old new harms harms_then marks (Err (fault.CutOff why))
  not_run : (why : LineFault) → Begins first marks → ((n : ℕ) → n ≤ proposers → mine n marks ≡ mine n first) → harms_then ≡ harms → new ≡ old → WroteRace tells tries proposers first input old new harms harms_then marks (Err (fault.NotRun why))
