-- Lemmas on what is known of a text as its lines come.
use Rattle.std.proofs.Common.{◌≡◌, ℕ, zero, suc, ◌-◌, ◌<◌, List, [], ◌∷◌, ◌++◌, length, refl, sym, ap, ◌∙◌, subst, arith, append_assoc, append-nil, length-append}
use Rattle.std.specs.Prelude.{Result, Ok, Err, reverse}
use Rattle.std.proofs.lemmas.Grind.{reverse_onto}
use Rattle.std.proofs.lemmas.List.{reverse-reverse}
use Rattle.cas_change_text.specs.declared.refusal.Why.{Why}
use Rattle.cas_change_text.specs.declared.refusal.Why.TheVariants as why
use Rattle.cas_record.specs.Legal.{IsLegal}
use Rattle.cas_record.specs.declared.mark.Mark.{Mark}
use Rattle.cas_audit.specs.Auditing.{IsBroken}
use Rattle.cas_audit.specs.Spelling.Progress.{marks_onto, IsProgress}
use Rattle.cas_audit.specs.Spelling.Reading.{line_mark}
use Rattle.cas_audit.specs.Spelling.Texts.{BadLine, mark_onto, mark_before, marks_from, marks_of, IsFound}
use Rattle.cas_audit.specs.declared.auditor.Broken.{Broken as BrokenRule}
use Rattle.cas_audit.specs.declared.finding.Finding.TheVariants.{Legal, Broken, Bad}
use Rattle.cas_audit.specs.declared.text.Progress.TheVariants as progress
use Rattle.cas_audit.proofs.Findings.{found_legal, found_broken, found_bad}

-- ---- the marks so far

onto_more : (marks : List Mark) (mark : Mark) (later : Result (List Mark) BadLine) → marks_onto marks (mark_onto mark later) ≡ marks_onto (marks ++ mark ∷ []) later
onto_more marks mark (Ok more) = ap Ok (sym (append_assoc marks (mark ∷ []) more))
onto_more marks mark (Err bad) = refl

longer : (lines : List (List ℕ)) (line : List ℕ) → length (lines ++ line ∷ []) ≡ suc (length lines)
longer lines line = omega (arith, length-append lines (line ∷ []))

-- ---- one line more

-- what is read of a line more, and of those behind it
next_is : (lines : List (List ℕ)) (line : List ℕ) (marks : List Mark) (left : ℕ) → IsProgress lines marks (progress.Marks left)
    → (later : List (List ℕ)) → marks_of ((lines ++ line ∷ []) ++ later) ≡ marks_onto (reverse marks) (marks_from (suc (length lines)) (line ∷ later) left)
next_is lines line marks left at later = ap marks_of (append_assoc lines (line ∷ []) later) ∙ at (line ∷ later)

next_says : (lines : List (List ℕ)) (line : List ℕ) (mark : Mark) (marks : List Mark) (left : ℕ) → IsProgress lines marks (progress.Marks (suc left)) → line_mark line ≡ Ok mark
    → IsProgress (lines ++ line ∷ []) (mark ∷ marks) (progress.Marks left)
next_says lines line mark marks left at is later =
    let rest = marks_from (suc (suc (length lines))) later left in
    next_is lines line marks (suc left) at later
    ∙ ap (λ read. marks_onto (reverse marks) (mark_before (suc (length lines)) read rest)) is
    ∙ onto_more (reverse marks) mark rest
    ∙ ap (λ m. marks_onto m rest) (sym (reverse_onto marks mark []))
    ∙ (λ i. marks_onto (reverse (mark ∷ marks)) (marks_from (suc (sym (longer lines line) i)) later left))

pub next_mark : (lines : List (List ℕ)) (line : List ℕ) (mark : Mark) (marks new : List Mark) (left : ℕ) → 0 < left → IsProgress lines marks (progress.Marks left) → line_mark line ≡ Ok mark → new ≡ mark ∷ marks
    → IsProgress (lines ++ line ∷ []) new (progress.Marks (left - 1))
next_mark lines line mark marks new zero some at is new_is = absurd (omega arith)
next_mark lines line mark marks new (suc left) some at is new_is =
    let less : suc left - 1 ≡ left = omega arith in
    subst (λ n. IsProgress (lines ++ line ∷ []) new (progress.Marks n)) (sym less) (subst (λ m. IsProgress (lines ++ line ∷ []) m (progress.Marks left)) (sym new_is) (next_says lines line mark marks left at is))

-- ---- no line more
-- all marks came
whole_is : (lines : List (List ℕ)) (marks : List Mark) → IsProgress lines marks (progress.Marks zero) → marks_of lines ≡ Ok (reverse marks)
whole_is lines marks at = ap marks_of (sym (append-nil lines)) ∙ at [] ∙ ap Ok (append-nil (reverse marks))

pub found_whole_legal : (lines : List (List ℕ)) (marks : List Mark) → IsProgress lines marks (progress.Marks zero) → IsLegal marks → IsFound lines Legal
found_whole_legal lines marks at legal = found_legal lines (reverse marks) (whole_is lines marks at) (subst IsLegal (sym (reverse-reverse marks)) legal)

pub found_whole_broken : (lines : List (List ℕ)) (marks : List Mark) (broken : BrokenRule) → IsProgress lines marks (progress.Marks zero) → IsBroken broken marks → IsFound lines (Broken broken)
found_whole_broken lines marks broken at is = found_broken lines (reverse marks) broken (whole_is lines marks at) (subst (IsBroken broken) (sym (reverse-reverse marks)) is)

-- a line is missing
pub found_missing : (lines : List (List ℕ)) (marks : List Mark) (left number : ℕ) → 0 < left → IsProgress lines marks (progress.Marks left) → number ≡ suc (length lines) → IsFound lines (Bad number why.NoWord)
found_missing lines marks zero number some at counted = absurd (omega arith)
found_missing lines marks (suc left) number some at counted =
    found_bad lines number why.NoWord (ap marks_of (sym (append-nil lines)) ∙ at [] ∙ (λ i. Err (record { line = sym counted i; why = why.NoWord })))

pub found_bad_line : (lines : List (List ℕ)) (marks : List Mark) (number : ℕ) (reason : Why) → IsProgress lines marks (progress.Bad number reason) → IsFound lines (Bad number reason)
found_bad_line lines marks number reason at = found_bad lines number reason (ap marks_of (sym (append-nil lines)) ∙ at [])
