-- Lemmas on what is found in a text.
use Rattle.std.proofs.Common.{◌≡◌, ℕ, List, refl, sym, ap, ◌∙◌, subst}
use Rattle.std.specs.Prelude.{Option, Some, None, Result, Ok, Err, reverse}
use Rattle.cas_change_text.specs.declared.refusal.Why.{Why}
use Rattle.cas_record.specs.declared.mark.Mark.{Mark}
use Rattle.cas_record.specs.Legal.{IsLegal}
use Rattle.cas_audit.specs.Auditing.{IsBroken, IsVerdict}
use Rattle.cas_audit.specs.Spelling.Texts.{BadLine, marks_of, Spells, IsFound}
use Rattle.cas_audit.specs.declared.auditor.Broken.{Broken as BrokenRule}
use Rattle.cas_audit.specs.declared.finding.Finding.{Finding}
use Rattle.cas_audit.specs.declared.finding.Finding.TheVariants.{Legal, Broken, Bad}
use Rattle.cas_audit.proofs.Spelling.TextRecords.{spells_read, records_read}
use Rattle.cas_audit.proofs.Verdicts.{verdicts_one}

-- two readings of a text
abbrev both_read : Result (List Mark) BadLine → Result (List Mark) BadLine → Type 0
both_read one two = one ≡ two

-- a text spells one record
spelled_is : (lines : List (List ℕ)) (marks others : List Mark) → marks_of lines ≡ Ok marks → Spells lines others → others ≡ marks
spelled_is lines marks others is s = let both : both_read (Ok others) (Ok marks) = sym (spells_read lines others s) ∙ is in cc

-- the verdict on the record that is spelled is the one on it that is known
verdict_is : (lines : List (List ℕ)) (marks others : List Mark) (one two : Option BrokenRule) → marks_of lines ≡ Ok marks → IsVerdict one (reverse marks) → Spells lines others → IsVerdict two (reverse others) → one ≡ two
verdict_is lines marks others one two is known s other =
    verdicts_one (reverse marks) one two known (subst (λ m. IsVerdict two (reverse m)) (spelled_is lines marks others is s) other)

-- ---- a record
pub found_legal : (lines : List (List ℕ)) (marks : List Mark) → marks_of lines ≡ Ok marks → IsLegal (reverse marks) → IsFound lines Legal
found_legal lines marks is legal = record {
  legal = (λ _. record { marks = marks; spelled = (records_read lines marks).0 is; legal = legal }, λ _. refl);
  broken = λ broken. (λ same. absurd cc, λ s. let p : None ≡ Some broken = verdict_is lines marks s.marks None (Some broken) is legal s.spelled s.breaks in absurd cc);
  none = (λ h. absurd h, λ no. absurd (no marks ((records_read lines marks).0 is)));
  bad = λ line why. (λ same. absurd cc, λ e. let p : Ok marks ≡ Err (record { line = line; why = why }) = sym is ∙ e in absurd cc);
}

pub found_broken : (lines : List (List ℕ)) (marks : List Mark) (rule : BrokenRule) → marks_of lines ≡ Ok marks → IsBroken rule (reverse marks) → IsFound lines (Broken rule)
found_broken lines marks rule is broken = record {
  legal = (λ same. absurd cc, λ s. let p : Some rule ≡ None = verdict_is lines marks s.marks (Some rule) None is broken s.spelled s.legal in absurd cc);
  broken = λ other. (
    λ same. let p : rule ≡ other = cc in record { marks = marks; spelled = (records_read lines marks).0 is; breaks = subst (λ b. IsBroken b (reverse marks)) p broken },
    λ s. let p : Some rule ≡ Some other = verdict_is lines marks s.marks (Some rule) (Some other) is broken s.spelled s.breaks in cc,
  );
  none = (λ h. absurd h, λ no. absurd (no marks ((records_read lines marks).0 is)));
  bad = λ line why. (λ same. absurd cc, λ e. let p : Ok marks ≡ Err (record { line = line; why = why }) = sym is ∙ e in absurd cc);
}

-- ---- no record
spells_none : (lines : List (List ℕ)) (bad : BadLine) (marks : List Mark) → marks_of lines ≡ Err bad → Spells lines marks → ⊥
spells_none lines bad marks is s = let p : Ok marks ≡ Err bad = sym (spells_read lines marks s) ∙ is in absurd cc

-- a bad line, as it is found
finding_of : Result (List Mark) BadLine → Finding
finding_of (Ok marks) = Legal
finding_of (Err bad) = Bad bad.line bad.why

bad_same : {line other : ℕ} {why reason : Why} → both_read (Err (record { line = line; why = why })) (Err (record { line = other; why = reason })) → Bad line why ≡ Bad other reason
unfolding finding_of
bad_same p = ap finding_of p

pub found_bad : (lines : List (List ℕ)) (line : ℕ) (why : Why) → marks_of lines ≡ Err (record { line = line; why = why }) → IsFound lines (Bad line why)
found_bad lines line why is = record {
  legal = (λ same. absurd cc, λ s. absurd (spells_none lines _ s.marks is s.spelled));
  broken = λ broken. (λ same. absurd cc, λ s. absurd (spells_none lines _ s.marks is s.spelled));
  none = (λ _ marks s. spells_none lines _ marks is s, λ _. tt);
  bad = λ other reason. (
    λ same. let at : line ≡ other = cc in let by : why ≡ reason = cc in is ∙ (λ i. Err (record { line = at i; why = by i })),
    λ e. bad_same (sym is ∙ e),
  );
}
