-- no row so far is of a key with an entry or a floor
use Rattle.std.proofs.Common.{◌≤◌, List}
use Rattle.cas_record.specs.declared.mark.Mark.{Mark}
use Rattle.cas_record.specs.Kept.Tables.{IsTablesOf, AreUnlisted}
use Rattle.cas_record.proofs.tables.Tables.next_listed.Given as goal

abbrev pub invariant-loop-at : goal.invariant-loop-at
invariant-loop-at l = (l.from ≤ l.at) × ((marks : List Mark) → IsTablesOf l.self marks → AreUnlisted l.self.rows.items marks l.from l.at)
