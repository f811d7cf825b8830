-- What the lines of a race ask its callers for, and what is answered to those that are bad.
use Rattle.std.specs.Prelude.{◌≡◌, ℕ, suc, ◌≤◌, ◌&&◌, ◌==◌, nat_le, if◌then◌else◌, List, [], ◌∷◌, ◌++◌, length, Option, Some, None, option_map, Result, Ok, Err, IfSome, slice_index_or}
use Rattle.cas_change_text.specs.Words.{words_of}
use Rattle.cas_change_text.specs.declared.refusal.TextRefusal.{TextRefusal}
use Rattle.cas_change_text.specs.declared.refusal.Why.TheVariants as why
use Rattle.cas_lines.specs.Answers.{bad_line}
use Rattle.cas_lines.specs.Command.{change_of, is_event}
use Rattle.cas_lines.specs.Lines.{lines_of}
use Rattle.cas_lines.specs.Reading.{line_in}
use Rattle.cas_lines.specs.declared.command.Command.{Command}
use Rattle.cas_lines.specs.declared.command.Command.TheVariants.{Join, Leave, Resize, Collect, Probe, Read}
use Rattle.cas_lines.specs.declared.reading.TheConstants.{LONGEST_LINE}
use Rattle.casreg_tasks.specs.declared.tasks.Task.{Task}
use Rattle.casreg_tasks.specs.declared.tasks.Task.TheVariants as task

-- ---- one line
-- what a line says in a race: what it says in a script, but that an event's line is refused at its first word
abbrev pub race_line_in : ℕ → List ℕ → Result (Option Command) TextRefusal
race_line_in proposers line = if nat_le (length line) LONGEST_LINE && is_event (words_of line)
    then Err (record { why = why.UnknownWord; word = 0 }) else line_in proposers line

-- whom a command asks, and for what; the operator is caller 0, and an event asks nobody
abbrev pub task_of : Command → Option (ℕ × Task)
task_of (Join id) = Some (0, task.Join id)
task_of (Leave id) = Some (0, task.Leave id)
task_of (Resize need_prep need_acc) = Some (0, task.Resize need_prep need_acc)
task_of (Collect key) = Some (0, task.Collect key)
task_of (Probe key) = Some (0, task.Probe key)
task_of (Read key) = Some (0, task.Read key)
task_of command = option_map (λ asked. (asked.caller, task.Change asked.key asked.program)) (change_of command)

-- the same of what a line says; a remark asks nobody, nor does a bad line
abbrev pub asked_in : Result (Option Command) TextRefusal → Option (ℕ × Task)
asked_in (Ok (Some command)) = task_of command
asked_in other = None

-- ---- all lines
-- the task of a line in front of those of later lines, if it is this caller's
abbrev pub onto_tasks : ℕ → Option (ℕ × Task) → List Task → List Task
onto_tasks n None later = later
onto_tasks n (Some asked) later = if asked.0 == n then asked.1 ∷ later else later

-- what the lines ask this caller for, in their order
abbrev pub tasks_of : ℕ → ℕ → List (List ℕ) → List Task
tasks_of proposers n [] = []
tasks_of proposers n (line ∷ later) = onto_tasks n (asked_in (race_line_in proposers line)) (tasks_of proposers n later)

-- the answer to the line of that number where it is bad, and nothing where it is not
abbrev pub bad_text : ℕ → Result (Option Command) TextRefusal → List ℕ
bad_text number (Ok said) = []
bad_text number (Err refusal) = bad_line number refusal.why

-- the answers to the bad ones of these lines, of which the first has that number
abbrev pub bad_lines : ℕ → ℕ → List (List ℕ) → List ℕ
bad_lines proposers number [] = []
bad_lines proposers number (line ∷ later) = bad_text number (race_line_in proposers line) ++ bad_lines proposers (suc number) later

-- these are the answers to the bad ones of the lines, and the tasks of the operator and of each caller
pub record AreParted (proposers : ℕ) (lines : List (List ℕ)) (bad : List ℕ) (tasks : List (List Task)) : Type 0 where
  pub bad_are : bad ≡ bad_lines proposers 1 lines
  pub callers : length tasks ≡ suc proposers
  pub tasks_are : (n : ℕ) → n ≤ proposers → slice_index_or tasks n [] ≡ tasks_of proposers n lines

-- these are all lines of an input, where it is known
abbrev pub AreAllLines : Option (List ℕ) → List (List ℕ) → Type 0
AreAllLines input lines = IfSome input (λ bytes. lines ≡ lines_of bytes)
