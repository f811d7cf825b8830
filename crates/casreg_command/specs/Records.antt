-- What an audit writes, and a command behind all other output: its record.
use Rattle.std.specs.Prelude.{◌≡◌, ⊤, ℕ, Bool, true, false, List, reverse, Option}
use Rattle.std.specs.Io.KnownBytes.{Appends}
use Rattle.cas_lines.specs.Lines.{lines_of}
use Rattle.cas_lines.specs.Sink.{AppendsFront}
use Rattle.cas_record.specs.Legal.{IsLegal}
use Rattle.cas_record.specs.declared.mark.Mark.{Mark}
use Rattle.cas_audit.specs.Spelling.Texts.{Spells, IsFound, finding_line}
use Rattle.cas_audit.specs.declared.finding.Finding.{Finding}
use Rattle.cas_audit.specs.declared.finding.Finding.TheVariants.{Legal}
use Rattle.casreg_tasks.specs.Tasks.{AreAllLines}
use Rattle.casreg_tasks.specs.Texts.{WroteFrontOf}
use Rattle.casreg_marks.specs.Marks.{record_text}
use Rattle.casreg_marks.specs.declared.marks.MarksFault.{MarksFault}
use Rattle.casreg_command.specs.Status.{status_of_marks}
use Rattle.casreg_command.specs.declared.status.Status.{Status}
use Rattle.casreg_command.specs.declared.status.Status.TheVariants as status

-- ---- audits
-- this is found in all lines of the input
pub record IsFoundInText (input : Option (List ℕ)) (finding : Finding) : Type 0 where
  pub lines : List (List ℕ)
  pub are : AreAllLines input lines
  pub found : IsFound lines finding

-- the line that says what is found was written
pub record WroteWhole (input old new : Option (List ℕ)) : Type 0 where
  pub finding : Finding
  pub found : IsFoundInText input finding
  pub written : Appends old new (finding_line finding)

-- a front of that line, and not all of it
pub record WrotePart (input old new : Option (List ℕ)) : Type 0 where
  pub finding : Finding
  pub found : IsFoundInText input finding
  pub written : AppendsFront old new (finding_line finding)

-- what an audit wrote by its end: that line, or a front of it where the sink failed. It names no disk, and writes nothing else
abbrev pub WroteFinding : Option (List ℕ) → Option (List ℕ) → Option (List ℕ) → Status → Type 0
WroteFinding input old new status.Ok = WroteWhole input old new
WroteFinding input old new status.Usage = ⊥
WroteFinding input old new status.ReadFault = new ≡ old
WroteFinding input old new status.WriteFault = WrotePart input old new
WroteFinding input old new (status.NotEmpty disk) = ⊥
WroteFinding input old new (status.Foreign disk at) = ⊥
WroteFinding input old new (status.TooManyKeys keys) = ⊥
WroteFinding input old new (status.LostDisk disk) = ⊥
WroteFinding input old new (status.Spent disk) = ⊥
WroteFinding input old new (status.DiskFault disk) = ⊥
WroteFinding input old new status.TooManyLines = new ≡ old
WroteFinding input old new status.NoMemory = new ≡ old
WroteFinding input old new (status.Endless line) = new ≡ old

-- ---- records
-- a run that ended so wrote all that stands before its record
abbrev pub IsComplete : Status → Type 0
IsComplete status.WriteFault = ⊥
IsComplete status.NoMemory = ⊥
IsComplete other = ⊤

-- The text of these marks was written. Its lines spell just these, and whoever audits it finds it legal, if the marks are.
pub record WroteRecord (marks : List Mark) (old new : Option (List ℕ)) : Type 0 where
  pub written : Appends old new (record_text marks)
  pub spells : Spells (lines_of (record_text marks)) marks
  pub audited : IsLegal (reverse marks) → (finding : Finding) → IsFound (lines_of (record_text marks)) finding → finding ≡ Legal

-- How a run ends that had ended so, with these marks, once its record is written where that is asked for: as it had, and nothing more was
-- written, where it is not asked for or what stands before it is not all there; as it had, and the record was written; or a front of the
-- record was, and its status is why.
pub data EndsBehindMarks (asked : Bool) (marks : List Mark) (ended : Status) (old new : Option (List ℕ)) (result : Status) : Type 0 where
  unasked : asked ≡ false → new ≡ old → result ≡ ended → EndsBehindMarks asked marks ended old new result
  incomplete : (IsComplete ended → ⊥) → new ≡ old → result ≡ ended → EndsBehindMarks asked marks ended old new result
  whole : asked ≡ true → IsComplete ended → WroteRecord marks old new → result ≡ ended → EndsBehindMarks asked marks ended old new result
  cut_off : (why : MarksFault) → asked ≡ true → IsComplete ended → WroteFrontOf (λ text. text ≡ record_text marks) old new → result ≡ status_of_marks why → EndsBehindMarks asked marks ended old new result
