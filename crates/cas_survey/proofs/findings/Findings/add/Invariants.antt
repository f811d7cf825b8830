use Rattle.std.proofs.Common.{take}
use Rattle.std.specs.FinMap.{from_entries}
use Rattle.cas_survey.proofs.Gathering.{GathersOf, CountsOf}
use Rattle.cas_survey.proofs.findings.Findings.add.Given as goal

-- what the keys so far hold is gathered
abbrev pub invariant-loop-key : goal.invariant-loop-key
invariant-loop-key g l = record {
  slots : GathersOf (take l.key-index l.key-items) (g.S.Shelf.contents l.shelf) (from_entries l.fn.self.slots.entries) (from_entries l.self.slots.entries);
  past : CountsOf (take l.key-index l.key-items) (g.S.Shelf.contents l.shelf) l.fn.self.past l.self.past;
}
