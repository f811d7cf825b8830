use Rattle.std.proofs.Common.{◌≡◌, ◌+◌, ◌≤◌, drop}
use Rattle.std.specs.Prelude.{reverse, vec_capacity}
use Rattle.cas_world.specs.Openings.OpeningOn.{AreTakenUpBelow}
use Rattle.cas_world.proofs.reopen.take_up_desks.Given as goal
use Rattle.cas_model.specs.View.{disk_meaning}

abbrev pub invariant-loop-number : goal.invariant-loop-number
invariant-loop-number g l = record {
  made : AreTakenUpBelow (disk_meaning g.V.Disk) g.V.Disk.seen g.V.Disk.fault_count l.fn.past (reverse l.fn.disks.items) l.number l.desks.items;
  left : reverse l.disks.items ≡ drop l.number (reverse l.fn.disks.items);
  room : l.fn.proposers + 1 ≤ vec_capacity l.desks;
  capacity : vec_capacity l.disks ≡ vec_capacity l.fn.disks;
}
