-- What is known of a text after some of its lines, and how the audit of a text ends.
use Rattle.std.specs.Prelude.{◌≡◌, ℕ, suc, List, [], ◌++◌, length, reverse, Option, Result, Ok, Err, IfSome}
use Rattle.cas_lines.specs.Lines.{lines_of, HasTold}
use Rattle.cas_lines.specs.Sink.{AppendsFront}
use Rattle.cas_lines.specs.Source.{Taken}
use Rattle.cas_record.specs.declared.mark.Mark.{Mark}
use Rattle.cas_audit.specs.Spelling.Texts.{BadLine, marks_from, marks_of, IsFound, finding_line}
use Rattle.cas_audit.specs.declared.finding.Finding.{Finding}
use Rattle.cas_lines.specs.declared.lines.LineFault.{LineFault}
use Rattle.cas_lines.specs.declared.lines.LineFault.TheVariants as line
use Rattle.cas_audit.specs.declared.text.AuditFault.{AuditFault}
use Rattle.cas_audit.specs.declared.text.AuditFault.TheVariants as fault
use Rattle.cas_audit.specs.declared.text.Progress.{Progress}
use Rattle.cas_audit.specs.declared.text.Progress.TheVariants.{Empty, Marks, Bad}

-- the marks, and those behind them
abbrev pub marks_onto : List Mark → Result (List Mark) BadLine → Result (List Mark) BadLine
marks_onto marks (Ok later) = Ok (marks ++ later)
marks_onto marks (Err bad) = Err bad

-- what is known after the lines that said these marks, the newest first, whichever lines follow
abbrev pub IsProgress : List (List ℕ) → List Mark → Progress → Type 0
IsProgress lines marks Empty = (lines ≡ []) × (marks ≡ [])
IsProgress lines marks (Marks left) = (later : List (List ℕ)) → marks_of (lines ++ later) ≡ marks_onto (reverse marks) (marks_from (suc (length lines)) later left)
IsProgress lines marks (Bad line why) = (later : List (List ℕ)) → marks_of (lines ++ later) ≡ Err (record { line = line; why = why })

-- ---- ends
-- how an audit ends whose next line could not be read
abbrev pub fault_of_line : LineFault → AuditFault
fault_of_line line.ReadFault = fault.ReadFault
fault_of_line line.TooManyLines = fault.TooManyLines
fault_of_line (line.Endless number) = fault.Endless number
fault_of_line line.NoMemory = fault.NoMemory

-- the lines that a source told up to the end of its input: those of the input, where it is known
pub record AreLines {S : Type 0} (gives : S → Taken → S → Type 0) (old new : S) (input : Option (List ℕ)) (lines : List (List ℕ)) : Type 0 where
  pub told : HasTold gives old lines [] new
  pub known : IfSome input (λ bytes. lines ≡ lines_of bytes)

-- what was found in the lines of a whole input
pub record IsFoundInInput {S : Type 0} (gives : S → Taken → S → Type 0) (old new : S) (input : Option (List ℕ)) (finding : Finding) : Type 0 where
  pub lines : List (List ℕ)
  pub are : AreLines gives old new input lines
  pub found : IsFound lines finding

-- a front of the line that says what was found there was written, and not all of it
pub record WroteFront {S : Type 0} (gives : S → Taken → S → Type 0) (old new : S) (input held_old held_new : Option (List ℕ)) : Type 0 where
  pub finding : Finding
  pub found : IsFoundInInput gives old new input finding
  pub front : AppendsFront held_old held_new (finding_line finding)
