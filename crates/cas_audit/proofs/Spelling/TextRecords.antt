-- Lemmas on the record that the lines of a text spell.
use Rattle.std.proofs.Common.{◌≡◌, ℕ, zero, suc, List, [], ◌∷◌, length, refl, sym, ap, subst, ◌∙◌}
use Rattle.std.specs.Prelude.{Result, Ok, Err}
use Rattle.cas_change_text.specs.Words.{words_of}
use Rattle.cas_change_text.specs.declared.refusal.TextRefusal.{TextRefusal}
use Rattle.cas_record.specs.declared.mark.Mark.{Mark}
use Rattle.cas_audit.specs.Spelling.Reading.{line_mark}
use Rattle.cas_audit.specs.Spelling.Texts.{BadLine, line_count, mark_before, marks_from, marks_counted, marks_of, SayEach, Spells, RecordsAreRead}
use Rattle.cas_audit.proofs.Spelling.MarkWords.{mark_found, mark_reads, count_found, count_reads}

-- the first of the marks, and those behind it
record Before (read : Result Mark TextRefusal) (later : Result (List Mark) BadLine) (marks : List Mark) : Type 0 where
  mark : Mark
  more : List Mark
  first : read ≡ Ok mark
  behind : later ≡ Ok more
  all : marks ≡ mark ∷ more

before : (number : ℕ) (read : Result Mark TextRefusal) (later : Result (List Mark) BadLine) (marks : List Mark) → mark_before number read later ≡ Ok marks → Before read later marks
before number (Ok mark) (Ok more) marks is = record { mark = mark; more = more; first = refl; behind = refl; all = cc }
before number (Ok mark) (Err bad) marks is = absurd cc
before number (Err refusal) later marks is = absurd cc

-- as many lines as there are to be, each of which says its mark
record SaysMarks (lines : List (List ℕ)) (count : ℕ) (marks : List Mark) : Type 0 where
  counted : count ≡ length marks
  each : SayEach lines marks

says_nothing : (marks : List Mark) → [] ≡ marks → SaysMarks [] 0 marks
says_nothing [] is = record { counted = refl; each = tt }
says_nothing (mark ∷ marks) is = absurd cc

read_says : (number : ℕ) (lines : List (List ℕ)) (count : ℕ) (marks : List Mark) → marks_from number lines count ≡ Ok marks → SaysMarks lines count marks
read_says number [] zero marks is = says_nothing marks cc
read_says number [] (suc count) marks is = absurd cc
read_says number (line ∷ lines) zero marks is = absurd cc
read_says number (line ∷ lines) (suc count) marks is =
    let p = before number (line_mark line) (marks_from (suc number) lines count) marks is in
    let rest = read_says (suc number) lines count p.more p.behind in
    record {
      counted = ap suc rest.counted ∙ sym (ap length p.all);
      each = subst (SayEach (line ∷ lines)) (sym p.all) (mark_found (words_of line) p.mark p.first, rest.each);
    }

says_read : (number : ℕ) (lines : List (List ℕ)) (marks : List Mark) → SayEach lines marks → marks_from number lines (length marks) ≡ Ok marks
says_read number [] [] is = refl
says_read number [] (mark ∷ marks) is = absurd is
says_read number (line ∷ lines) [] is = absurd is
says_read number (line ∷ lines) (mark ∷ marks) is =
    let first : line_mark line ≡ Ok mark = mark_reads (words_of line) mark is.0 in
    let later : marks_from (suc number) lines (length marks) ≡ Ok marks = says_read (suc number) lines marks is.1 in
    λ i. mark_before number (first i) (later i)

-- by how many marks the first line says that there are
read_spells_by : (first : List ℕ) (others : List (List ℕ)) (read : Result ℕ TextRefusal) (marks : List Mark) → line_count first ≡ read → marks_counted read others ≡ Ok marks → Spells (first ∷ others) marks
read_spells_by first others (Ok count) marks counted is =
    let p = read_says 2 others count marks is in
    record { first = first; others = others; split = refl; counted = count_found (words_of first) (length marks) (counted ∙ ap Ok p.counted); says = p.each }
read_spells_by first others (Err refusal) marks counted is = absurd cc

read_spells : (lines : List (List ℕ)) (marks : List Mark) → marks_of lines ≡ Ok marks → Spells lines marks
read_spells [] marks is = absurd cc
read_spells (first ∷ others) marks is = read_spells_by first others (line_count first) marks refl is

pub spells_read : (lines : List (List ℕ)) (marks : List Mark) → Spells lines marks → marks_of lines ≡ Ok marks
spells_read lines marks s = ap marks_of s.split ∙ ap (λ read. marks_counted read s.others) (count_reads (words_of s.first) (length marks) s.counted) ∙ says_read 2 s.others marks s.says

pub records_read : RecordsAreRead
records_read lines marks = (read_spells lines marks, spells_read lines marks)
