use Rattle.std.specs.FinMap.{from_entries}
use Rattle.cas_survey.specs.Survey.{kept_on, IsGreatestAmong}
use Rattle.cas_survey.proofs.Among.{IsLower, FoundBelow}
use Rattle.cas_survey.proofs.findings.survey.Given as goal

-- what the members with lower numbers hold is found
abbrev pub invariant-loop-number : goal.invariant-loop-number
invariant-loop-number g l = record {
  slots : FoundBelow l.number l.members (kept_on g.S.Shelf.contents l.shelves) (from_entries l.found.slots.entries);
  past : IsGreatestAmong (IsLower l.number l.members) (kept_on g.S.Shelf.contents l.shelves) l.found.past;
}
