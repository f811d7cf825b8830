-- What the text of a record says, line by line, and what is found in it.
use Rattle.std.specs.Prelude.{◌≡◌, ℕ, zero, suc, List, [], ◌∷◌, ◌++◌, codes, decimal, length, reverse, Result, Ok, Err, ⊤, ◌↔◌}
use Rattle.cas_change_text.specs.Reading.{◌>>=◌}
use Rattle.cas_change_text.specs.Words.{WordsLeft, words_of, all_of}
use Rattle.cas_change_text.specs.declared.refusal.TextRefusal.{TextRefusal}
use Rattle.cas_change_text.specs.declared.refusal.Why.{Why}
use Rattle.cas_change_text.specs.declared.refusal.Why.TheVariants as why
use Rattle.cas_lines.specs.Answers.{bad_line}
use Rattle.cas_lines.specs.Reading.{ended}
use Rattle.cas_record.specs.Legal.{IsLegal}
use Rattle.cas_record.specs.declared.mark.Mark.{Mark}
use Rattle.cas_audit.specs.Auditing.{IsBroken}
use Rattle.cas_audit.specs.Spelling.Lines.{IsMarkLine, IsCountLine}
use Rattle.cas_audit.specs.Spelling.Reading.{u32_of, said_at, behind_name, line_mark}
use Rattle.cas_audit.specs.declared.auditor.Broken.{Broken as BrokenRule}
use Rattle.cas_audit.specs.declared.finding.Finding.{Finding}
use Rattle.cas_audit.specs.declared.finding.Finding.TheVariants.{Legal, Broken, Bad}

-- ---- what a text says
-- how many marks there are, behind the word `record`
unfoldable pub count_at : WordsLeft → Result ℕ TextRefusal
count_at left = do
  behind ← behind_name (codes "record") left
  ended (said_at u32_of behind)

-- how many marks there are, as the first line of a text says
abbrev pub line_count : List ℕ → Result ℕ TextRefusal
line_count line = count_at (all_of (words_of line))

-- the number of a line, counted from 1, that is missing or is not what must stand there, and why
pub record BadLine : Type 0 where
  pub line : ℕ
  pub why : Why

-- the mark in front of those behind it
abbrev pub mark_onto : Mark → Result (List Mark) BadLine → Result (List Mark) BadLine
mark_onto mark (Ok marks) = Ok (mark ∷ marks)
mark_onto mark (Err bad) = Err bad

-- the mark that the line of that number says, and those behind it
abbrev pub mark_before : ℕ → Result Mark TextRefusal → Result (List Mark) BadLine → Result (List Mark) BadLine
mark_before number (Ok mark) marks = mark_onto mark marks
mark_before number (Err refusal) marks = Err (record { line = number; why = refusal.why })

-- the marks that so many lines say, the first of which has that number, or the first line that does not fit
abbrev pub marks_from : ℕ → List (List ℕ) → ℕ → Result (List Mark) BadLine
marks_from number [] zero = Ok []
marks_from number [] (suc count) = Err (record { line = number; why = why.NoWord })
marks_from number (line ∷ lines) zero = Err (record { line = number; why = why.UnknownWord })
marks_from number (line ∷ lines) (suc count) = mark_before number (line_mark line) (marks_from (suc number) lines count)

-- the same by how many the first line says that there are
abbrev pub marks_counted : Result ℕ TextRefusal → List (List ℕ) → Result (List Mark) BadLine
marks_counted (Ok count) lines = marks_from 2 lines count
marks_counted (Err refusal) lines = Err (record { line = 1; why = refusal.why })

-- the marks of the record that the lines spell, or the first line that does not fit
abbrev pub marks_of : List (List ℕ) → Result (List Mark) BadLine
marks_of [] = Err (record { line = 1; why = why.NoWord })
marks_of (first ∷ lines) = marks_counted (line_count first) lines

-- the words of each line are those of its mark
abbrev pub SayEach : List (List ℕ) → List Mark → Type 0
SayEach [] [] = Unit {0}
SayEach [] (mark ∷ marks) = ⊥
SayEach (line ∷ lines) [] = ⊥
SayEach (line ∷ lines) (mark ∷ marks) = IsMarkLine (words_of line) mark × SayEach lines marks

-- the lines spell the record: the first says how many marks there are, and each other says its mark
pub record Spells (lines : List (List ℕ)) (marks : List Mark) : Type 0 where
  pub first : List ℕ
  pub others : List (List ℕ)
  pub split : lines ≡ first ∷ others
  pub counted : IsCountLine (words_of first) (length marks)
  pub says : SayEach others marks

-- what is read is exactly the record that the lines spell
abbrev pub RecordsAreRead : Type 0
RecordsAreRead = (lines : List (List ℕ)) (marks : List Mark) → (marks_of lines ≡ Ok marks) ↔ Spells lines marks

-- ---- what is found
-- the lines spell a legal record
pub record SpellsLegal (lines : List (List ℕ)) : Type 0 where
  pub marks : List Mark
  pub spelled : Spells lines marks
  pub legal : IsLegal (reverse marks)

-- they spell a record that breaks that rule first, at that mark
pub record SpellsBroken (lines : List (List ℕ)) (broken : BrokenRule) : Type 0 where
  pub marks : List Mark
  pub spelled : Spells lines marks
  pub breaks : IsBroken broken (reverse marks)

-- they spell no record
abbrev pub SpellsNone : List (List ℕ) → Type 0
SpellsNone lines = (marks : List Mark) → Spells lines marks → ⊥

abbrev pub IsBad : Finding → Type 0
IsBad Legal = ⊥
IsBad (Broken broken) = ⊥
IsBad (Bad line why) = ⊤

-- what is found in the lines of a text, and exactly where
pub record IsFound (lines : List (List ℕ)) (finding : Finding) : Type 0 where
  pub legal : (finding ≡ Legal) ↔ SpellsLegal lines
  pub broken : (broken : BrokenRule) → (finding ≡ Broken broken) ↔ SpellsBroken lines broken
  pub none : IsBad finding ↔ SpellsNone lines
  -- which line it is, and why
  pub bad : (line : ℕ) (why : Why) → (finding ≡ Bad line why) ↔ (marks_of lines ≡ Err (record { line = line; why = why }))

-- the line that says what was found
abbrev pub finding_line : Finding → List ℕ
finding_line Legal = codes "legal\n"
finding_line (Broken broken) = codes "broken L" ++ decimal broken.rule ++ codes " at " ++ decimal broken.at ++ codes "\n"
finding_line (Bad line why) = bad_line line why
