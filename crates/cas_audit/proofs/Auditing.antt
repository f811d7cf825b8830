-- The rules of a legal record, and the first that is broken.
use Rattle.std.proofs.Common.{◌≡◌, ℕ, ◌+◌, List, [], ◌∷◌, sym, ◌∙◌, inl, inr}
use Rattle.cas_record.specs.Legal.{IsLegal}
use Rattle.cas_record.specs.declared.mark.Mark.{Mark}
use Rattle.cas_audit.specs.Auditing.{rules, IsFirstBroken, AllKept, RulesAreLegal, BrokenRulesAreOne}

none_broken : (before : ℕ) (kept : List (List Mark → Type 0)) (number : ℕ) (marks : List Mark) → AllKept kept marks → IsFirstBroken before kept number marks → ⊥
none_broken before [] number marks all broken = broken
none_broken before (rule ∷ others) number marks all (inl first) = first.1 all.0
none_broken before (rule ∷ others) number marks all (inr later) = none_broken (before + 1) others number marks all.1 later.1

kept_of : (marks : List Mark) → IsLegal marks → AllKept rules marks
kept_of marks legal = (legal.numbered, (record { each = λ at. legal.done_stands at }, (legal.refused_never, (record { each = λ at began. legal.after_seen at began }, (record { each = λ part older. legal.only_grows part older }, (record { each = λ part. legal.begun_first part }, (record { each = λ at. legal.has_votes at }, (record { each = λ at. legal.floors at }, (record { each = λ at. legal.short_harmed at }, tt)))))))))

legal_of : (marks : List Mark) → AllKept rules marks → IsLegal marks
legal_of marks all = record {
  numbered = all.0;
  done_stands = λ at. all.1.0.each at;
  refused_never = all.1.1.0;
  after_seen = λ at began. all.1.1.1.0.each at began;
  only_grows = λ part older. all.1.1.1.1.0.each part older;
  begun_first = λ part. all.1.1.1.1.1.0.each part;
  has_votes = λ at. all.1.1.1.1.1.1.0.each at;
  floors = λ at. all.1.1.1.1.1.1.1.0.each at;
  short_harmed = λ at. all.1.1.1.1.1.1.1.1.0.each at;
}

pub rules_legal : RulesAreLegal
rules_legal marks = ((kept_of marks, legal_of marks), λ number legal broken. none_broken 0 rules number marks (kept_of marks legal) broken)

one_first : (before : ℕ) (kept : List (List Mark → Type 0)) (one two : ℕ) (marks : List Mark) → IsFirstBroken before kept one marks → IsFirstBroken before kept two marks → one ≡ two
one_first before [] one two marks broken other = absurd broken
one_first before (rule ∷ others) one two marks (inl first) (inl second) = first.0 ∙ sym second.0
one_first before (rule ∷ others) one two marks (inl first) (inr later) = absurd (first.1 later.0)
one_first before (rule ∷ others) one two marks (inr later) (inl first) = absurd (first.1 later.0)
one_first before (rule ∷ others) one two marks (inr later) (inr other) = one_first (before + 1) others one two marks later.1 other.1

pub first_is_one : BrokenRulesAreOne
first_is_one marks one two = one_first 0 rules one two marks
