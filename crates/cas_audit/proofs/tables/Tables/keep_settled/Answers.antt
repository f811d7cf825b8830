use Rattle.indexmap.specs.IndexMap.{get}
use Rattle.cas_audit.specs.Tables.{same_place}
use Rattle.cas_audit.proofs.Updates.{settled_put}
use Rattle.cas_audit.proofs.tables.Tables.keep_settled.Goals as goal

pub returns-clause-tables : goal.returns-clause-tables
returns-clause-tables c = λ marks are beyond. record {
  counts = are.counts;
  calls = are.calls;
  rows = are.rows;
  openings = are.openings;
  floors = are.floors;
  nodes = are.nodes;
  spots = are.spots;
  settled = settled_put c.args.key.now c.args.place c.args.ballot marks (get same_place c.args.self.now.settled) (get same_place c.keep.new.table) beyond c.in_ok-keep.ensures.ok are.settled;
  calls_began = are.calls_began;
}
