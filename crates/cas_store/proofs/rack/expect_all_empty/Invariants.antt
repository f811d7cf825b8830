use Rattle.std.proofs.Common.{◌≤◌}
use Rattle.cas_store.specs.Rack.{rack_meaning, AreFoundEmptyBelow}
use Rattle.cas_store.proofs.rack.expect_all_empty.Given as goal

-- those before the next one are empty
abbrev pub invariant-loop-place : goal.invariant-loop-place
invariant-loop-place g l = record {
  empty : AreFoundEmptyBelow (rack_meaning g.D.Disk) l.fn.disks.items l.place l.disks.items;
  to : l.place ≤ l.count;
}
