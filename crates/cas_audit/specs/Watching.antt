-- What an audit finds as the marks come.
use Rattle.std.specs.Prelude.{ℕ, List, Option, Some, None}
use Rattle.cas_record.specs.declared.mark.Mark.{Mark}
use Rattle.cas_record.specs.Legal.{IsLegal}
use Rattle.cas_audit.specs.declared.auditor.Broken.{Broken}
use Rattle.cas_audit.specs.declared.auditor.Rule.{Rule}
use Rattle.cas_audit.specs.declared.auditor.Rule.TheVariants.{Numbered, DoneStands, RefusedNever, AfterSeen, OnlyGrows, HasVotes, Floors, ShortHarmed}
use Rattle.cas_audit.specs.declared.tables.Tables.{Tables}
use Rattle.cas_audit.specs.Auditing.{rules, IsFirstBroken}
use Rattle.cas_audit.specs.Tables.{AreTables}

-- the number of a rule in the list of rules
abbrev pub number_of : Rule → ℕ
number_of Numbered = 1
number_of DoneStands = 2
number_of RefusedNever = 3
number_of AfterSeen = 4
number_of OnlyGrows = 5
number_of HasVotes = 7
number_of Floors = 8
number_of ShortHarmed = 9

-- the rule is the first that the marks break; without one they are a legal record
abbrev pub IsFirstOf : Option Rule → List Mark → Type 0
IsFirstOf None marks = IsLegal marks
IsFirstOf (Some rule) marks = IsFirstBroken 0 rules (number_of rule) marks

-- while no rule is broken the tables are those of the marks
abbrev pub TellsWhileLegal : Option Broken → Tables → List Mark → Type 0
TellsWhileLegal None tables marks = AreTables tables marks
TellsWhileLegal (Some broken) tables marks = Unit {0}
