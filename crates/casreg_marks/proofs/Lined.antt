-- The lines of a record's text are those of its marks.
use Rattle.std.proofs.Common.{◌≡◌, ℕ, ◌^◌, ◌<◌, ◌≤◌, Bool, true, false, cond, not, List, [], ◌∷◌, ◌++◌, length, map, refl, sym, ap, subst, ◌∙◌, append_assoc, arith}
use Rattle.std.specs.Prelude.{◌==◌, nat_lt, codes, decimal}
use Rattle.std.specs.List.{filter, flat_map, slice_split, onto_first, AllByRecursion}
use Rattle.std.proofs.lemmas.Bool.{and_parts, and_from, not-true}
use Rattle.std.proofs.lemmas.List.Sums.{length-filter, count_by-le-length}
use Rattle.std.proofs.lemmas.Bool.Decides.{nat_tests}
use Rattle.cas_change_text.specs.Words.{Word, is_blank, words_of}
use Rattle.cas_change_text.proofs.Printed.{IsWord-decimal, u64_of-decimal}
use Rattle.cas_change_text.proofs.WordLists.{kept}
use Rattle.cas_lines.specs.Lines.{lines_of}
use Rattle.cas_record.specs.declared.mark.Mark.{Mark}
use Rattle.cas_audit.specs.Spelling.Lines.{IsMarkLine}
use Rattle.cas_audit.specs.Spelling.Printing.{has_text, mark_text}
use Rattle.cas_audit.specs.Spelling.Texts.{SayEach, Spells}
use Rattle.cas_audit.proofs.Spelling.TextWords.{first_part, word_alone, name, words_apart}
use Rattle.casreg_marks.specs.Marks.{with_text, count_line, mark_line, record_text}
use Rattle.casreg_marks.proofs.Inner.{is_inner, has_inner, have_inner, none, word, first, number, mark_words}

-- ---- lines whose words have no end of a line
-- parts that are empty have none
all_parts : (parts : List Word) → have_inner (filter (λ part. nat_lt 0 (length part)) parts) ≡ true → have_inner parts ≡ true
all_parts [] e = refl
all_parts ([] ∷ parts) e = all_parts parts e
all_parts ((byte ∷ word) ∷ parts) e =
    let both = and_parts (has_inner (byte ∷ word)) (have_inner (filter (λ part. nat_lt 0 (length part)) parts)) (sym (ap have_inner (kept (byte ∷ word) parts (omega arith))) ∙ e) in
    and_from (has_inner (byte ∷ word)) (have_inner parts) both.0 (all_parts parts both.1)

by_parts : (line : List ℕ) → have_inner (slice_split is_blank line) ≡ true → has_inner line ≡ true
by_parts [] e = refl
by_parts (byte ∷ line) e = by (by_parts line) (is_blank byte) refl (first_part is_blank line) e
  where
    blank : is_blank byte ≡ true → is_inner byte ≡ true
    blank is = grind (arith, nat_tests)

    by : (have_inner (slice_split is_blank line) ≡ true → has_inner line ≡ true) → (b : Bool) → is_blank byte ≡ b → (part : List ℕ) × (parts : List Word) × (slice_split is_blank line ≡ part ∷ parts)
        → have_inner (cond (is_blank byte) ([] ∷ slice_split is_blank line) (onto_first byte (slice_split is_blank line))) ≡ true → has_inner (byte ∷ line) ≡ true
    by rest true is found all = and_from (is_inner byte) (has_inner line) (blank is)
        (rest (sym (ap (λ b. have_inner (cond b ([] ∷ slice_split is_blank line) (onto_first byte (slice_split is_blank line)))) is) ∙ all))
    by rest false is found all =
        let cut : have_inner ((byte ∷ found.0) ∷ found.1) ≡ true =
        sym (ap (λ b. have_inner (cond b ([] ∷ slice_split is_blank line) (onto_first byte (slice_split is_blank line)))) is
        ∙ ap (λ (parts : List Word). have_inner (onto_first byte parts)) found.2) ∙ all in
        let both = and_parts (has_inner (byte ∷ found.0)) (have_inner found.1) cut in
        let bytes = and_parts (is_inner byte) (has_inner found.0) both.0 in
        and_from (is_inner byte) (has_inner line) bytes.0
        (rest (ap have_inner found.2 ∙ and_from (has_inner found.0) (have_inner found.1) bytes.1 both.1))

by_words : (line : List ℕ) → have_inner (words_of line) ≡ true → has_inner line ≡ true
by_words line e = by_parts line (all_parts (slice_split is_blank line) e)

-- a line in front of others
line_before : (line rest : List ℕ) → has_inner line ≡ true → lines_of (line ++ 10 ∷ rest) ≡ line ∷ lines_of rest
line_before [] rest e = refl
line_before (byte ∷ line) rest e =
    let parts = and_parts (is_inner byte) (has_inner line) e in
    let tests = and_parts (not (byte == 10)) (not (byte == 13)) parts.0 in
    let no_newline : (byte == 10) ≡ false = not-true (byte == 10) tests.0 in
    let no_return : (byte == 13) ≡ false = not-true (byte == 13) tests.1 in
    rw (no_newline, no_return, line_before line rest parts.1) refl

-- ---- marks
-- the mark is said by its line, where it has one
abbrev pub SaysItself : Mark → Type 0
SaysItself mark = has_text mark ≡ true → IsMarkLine (words_of (mark_text mark)) mark

-- the lines of the marks that have one
pub marks_lined : (marks : List Mark) → AllByRecursion SaysItself marks → lines_of (flat_map mark_line marks) ≡ map mark_text (with_text marks)
marks_lined [] each = refl
marks_lined (mark ∷ marks) each = by (marks_lined marks each.1) (has_text mark) refl
  where
    by : lines_of (flat_map mark_line marks) ≡ map mark_text (with_text marks) → (b : Bool) → has_text mark ≡ b
        → lines_of (mark_line mark ++ flat_map mark_line marks) ≡ map mark_text (with_text (mark ∷ marks))
    by rest true is =
        ap (λ b. lines_of (cond b (mark_text mark ++ codes "\n") [] ++ flat_map mark_line marks)) is
        ∙ ap lines_of (append_assoc (mark_text mark) (codes "\n") (flat_map mark_line marks))
        ∙ line_before (mark_text mark) (flat_map mark_line marks) (by_words (mark_text mark) (mark_words (words_of (mark_text mark)) mark (each.0 is)).have)
        ∙ ap (λ (lines : List (List ℕ)). mark_text mark ∷ lines) rest
        ∙ sym (ap (λ b. map mark_text (cond b (mark ∷ with_text marks) (with_text marks))) is)
    by rest false is =
        ap (λ b. lines_of (cond b (mark_text mark ++ codes "\n") [] ++ flat_map mark_line marks)) is
        ∙ rest
        ∙ sym (ap (λ b. map mark_text (cond b (mark ∷ with_text marks) (with_text marks))) is)

-- each of these marks is said by its line
abbrev Said : List Mark → Type 0
Said marks = SayEach (map mark_text marks) marks

pub marks_said : (marks : List Mark) → AllByRecursion SaysItself marks → SayEach (map mark_text (with_text marks)) (with_text marks)
marks_said [] each = tt
marks_said (mark ∷ marks) each = by (marks_said marks each.1) (has_text mark) refl
  where
    by : Said (with_text marks) → (b : Bool) → has_text mark ≡ b → Said (with_text (mark ∷ marks))
    by rest true is = subst Said (sym (ap (λ b. cond b (mark ∷ with_text marks) (with_text marks)) is)) (each.0 is, rest)
    by rest false is = subst Said (sym (ap (λ b. cond b (mark ∷ with_text marks) (with_text marks)) is)) rest

-- marks without a line add nothing to a text
pub only_with_text : (marks : List Mark) → flat_map mark_line (with_text marks) ≡ flat_map mark_line marks
only_with_text [] = refl
only_with_text (mark ∷ marks) = by (only_with_text marks) (has_text mark) refl
  where
    by : flat_map mark_line (with_text marks) ≡ flat_map mark_line marks → (b : Bool) → has_text mark ≡ b → flat_map mark_line (with_text (mark ∷ marks)) ≡ mark_line mark ++ flat_map mark_line marks
    by rest true is = ap (λ b. flat_map mark_line (cond b (mark ∷ with_text marks) (with_text marks))) is ∙ ap (λ (l : List ℕ). mark_line mark ++ l) rest
    by rest false is =
        ap (λ b. flat_map mark_line (cond b (mark ∷ with_text marks) (with_text marks))) is ∙ rest
        ∙ sym (ap (λ b. cond b (mark_text mark ++ codes "\n") [] ++ flat_map mark_line marks) is)

no_more : (marks : List Mark) → length (with_text marks) ≤ length marks
no_more marks = let same = length-filter has_text marks in let less = count_by-le-length has_text marks in omega (arith, same, less)

-- ---- the whole text
count_words : (count : ℕ) → count < 2 ^ 64 → words_of (codes "record " ++ decimal count) ≡ codes "record" ∷ decimal count ∷ []
count_words count fits =
    words_apart (codes "record") (decimal count)
    ∙ (λ i. name (codes "record") (omega arith) refl i ++ word_alone (decimal count) (IsWord-decimal count fits) i)

count_lined : (count : ℕ) (rest : List ℕ) → count < 2 ^ 64 → lines_of (count_line count ++ rest) ≡ (codes "record " ++ decimal count) ∷ lines_of rest
count_lined count rest fits =
    ap lines_of (append_assoc (codes "record ") (decimal count ++ codes "\n") rest ∙ ap (λ (l : List ℕ). codes "record " ++ l) (append_assoc (decimal count) (codes "\n") rest)
    ∙ sym (append_assoc (codes "record ") (decimal count) (10 ∷ rest)))
    ∙ line_before (codes "record " ++ decimal count) rest
    (by_words (codes "record " ++ decimal count) (ap have_inner (count_words count fits)
    ∙ (first {one = codes "record"} {words = decimal count ∷ []} (word refl) (first {one = decimal count} {words = []} (number (u64_of-decimal count fits)) none)).have))

-- the lines of the text spell the marks
pub text_spells : (marks : List Mark) → AllByRecursion SaysItself marks → length marks < 2 ^ 32 → Spells (lines_of (record_text (with_text marks))) (with_text marks)
text_spells marks each few =
    let count : ℕ = length (with_text marks) in
    let less = no_more marks in
    let fits : count < 2 ^ 32 = omega (arith, less, few) in
    let fits_more : count < 2 ^ 64 = omega (arith, fits) in
    record {
      first = codes "record " ++ decimal count;
      others = map mark_text (with_text marks);
      split = count_lined count (flat_map mark_line (with_text marks)) fits_more
          ∙ ap (λ (lines : List (List ℕ)). (codes "record " ++ decimal count) ∷ lines) (ap lines_of (only_with_text marks) ∙ marks_lined marks each);
      counted = (decimal count, count_words count fits_more, (u64_of-decimal count fits_more, fits));
      says = marks_said marks each;
    }
