-- Which rule of a legal record is broken first, and where. The marks are read newest first.
use Rattle.std.specs.Prelude.{◌≡◌, ℕ, ◌+◌, ◌<◌, List, [], ◌∷◌, length, Option, Some, None, ◌⊎◌, ◌↔◌}
use Rattle.cas_record.specs.Legal.{IsLegal, IsNumbered, RefusedNever}
use Rattle.cas_record.specs.Places.{IsOlderPart}
use Rattle.cas_record.specs.declared.mark.Mark.{Mark}
use Rattle.cas_audit.specs.Rules.{DoneStands, StandsAfterSeen, OnlyGrows, BegunFirst, AckedByVotes, FloorsAreTombstones, ShortIsHarmed}
use Rattle.cas_audit.specs.declared.auditor.Broken.{Broken}

-- the rules of a legal record, in their order
abbrev pub rules : List (List Mark → Type 0)
rules = IsNumbered ∷ DoneStands ∷ RefusedNever ∷ StandsAfterSeen ∷ OnlyGrows ∷ BegunFirst ∷ AckedByVotes ∷ FloorsAreTombstones ∷ ShortIsHarmed ∷ []

-- the rule of that number, counted from 1, is broken, and none before it
abbrev pub IsFirstBroken : ℕ → List (List Mark → Type 0) → ℕ → List Mark → Type 0
IsFirstBroken before [] number marks = ⊥
IsFirstBroken before (rule ∷ others) number marks = ((number ≡ before + 1) × (rule marks → ⊥)) ⊎ (rule marks × IsFirstBroken (before + 1) others number marks)

-- the shortest front of the record that is not legal has so many marks, and the rule is the first that it breaks
pub record IsBroken (broken : Broken) (marks : List Mark) : Type 0 where
  pub part : List Mark
  pub stands : IsOlderPart part marks
  pub at : broken.at ≡ length part
  pub before : {shorter : List Mark} → IsOlderPart shorter marks → length shorter < length part → IsLegal shorter
  pub rule : IsFirstBroken 0 rules broken.rule part

-- what an audit of the record tells: nothing exactly where it is legal
abbrev pub IsVerdict : Option Broken → List Mark → Type 0
IsVerdict None marks = IsLegal marks
IsVerdict (Some broken) marks = IsBroken broken marks

-- each of the rules is kept
abbrev pub AllKept : List (List Mark → Type 0) → List Mark → Type 0
AllKept [] marks = Unit {0}
AllKept (rule ∷ others) marks = rule marks × AllKept others marks

-- a record is legal exactly where it keeps the rules, and then none of them is the first that is broken
abbrev pub RulesAreLegal : Type 0
RulesAreLegal = (marks : List Mark) → (IsLegal marks ↔ AllKept rules marks) × ((number : ℕ) → IsLegal marks → IsFirstBroken 0 rules number marks → ⊥)

-- no record has two first broken rules
abbrev pub BrokenRulesAreOne : Type 0
BrokenRulesAreOne = (marks : List Mark) (one two : ℕ) → IsFirstBroken 0 rules one marks → IsFirstBroken 0 rules two marks → one ≡ two

-- an audit has one verdict
abbrev pub VerdictsAreOne : Type 0
VerdictsAreOne = (marks : List Mark) (one two : Option Broken) → IsVerdict one marks → IsVerdict two marks → one ≡ two

-- once a rule is broken, each further mark has the same verdict
abbrev pub VerdictsStay : Type 0
VerdictsStay = (mark : Mark) (marks : List Mark) (broken : Broken) → IsVerdict (Some broken) marks → IsVerdict (Some broken) (mark ∷ marks)
