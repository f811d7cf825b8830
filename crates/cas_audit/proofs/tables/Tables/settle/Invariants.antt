-- the ballots from the place of the last step on are kept, and what was settled before stays
use Rattle.std.proofs.Common.{◌≡◌, ℕ, ◌+◌, ◌≤◌, ◌<◌, List, length}
use Rattle.indexmap.specs.IndexMap.{get}
use Rattle.cas_record.specs.declared.mark.Mark.{Mark}
use Rattle.cas_record.specs.Histories.Chain.{chain_of, settled_of}
use Rattle.cas_audit.specs.Tables.{AreTables, HasRoomInTables, IsAudit, IsFoundIn, same_place}
use Rattle.cas_audit.specs.Told.{Reaches}
use Rattle.cas_audit.proofs.tables.Tables.settle.Given as goal

abbrev pub invariant-loop-step : goal.invariant-loop-step
invariant-loop-step l = record {
  low : l.settled ≤ l.step;
  tables : (marks : List Mark) → IsAudit l.fn.self marks → l.settled ≡ length (settled_of l.key marks) → AreTables l.self marks;
  room : HasRoomInTables l.fn.self → HasRoomInTables l.self;
  long : (marks : List Mark) → IsAudit l.fn.self marks → l.long ≡ length (chain_of l.key l.fn.ballot marks);
  reaches : (marks : List Mark) (left : ℕ) → IsAudit l.fn.self marks → l.settled ≡ length (settled_of l.key marks) → left + l.step ≡ l.long + l.settled → Reaches l.key l.found marks (chain_of l.key l.fn.ballot marks) left;
  found : (marks : List Mark) (place : ℕ) → IsAudit l.fn.self marks → l.settled ≡ length (settled_of l.key marks) → l.long + l.settled ≤ place + l.step → place < l.long
      → IsFoundIn l.key marks (chain_of l.key l.fn.ballot marks) place (get same_place l.self.settled (l.key, place));
}
