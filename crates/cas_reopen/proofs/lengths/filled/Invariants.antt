use Rattle.std.proofs.Common.{◌≤◌}
use Rattle.cas_store.specs.Rack.{rack_meaning}
use Rattle.cas_reopen.proofs.Filling.{FoundBelow}
use Rattle.cas_reopen.proofs.lengths.filled.Given as goal

abbrev pub invariant-loop-place : goal.invariant-loop-place
invariant-loop-place g l = record {
  found : FoundBelow (rack_meaning g.D.Disk) l.fn.disks.items l.place l.found l.disks.items;
  to : l.place ≤ l.count;
}
