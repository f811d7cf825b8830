use Rattle.std.proofs.Common.{◌≡◌, ◌+◌, ◌≤◌, length, take}
use Rattle.cas_cells.specs.Held.{OnDisk}
use Rattle.cas_cells.specs.Reading.{OnlyRead}
use Rattle.cas_cells.proofs.reading.read_rest.Given as goal

abbrev pub invariant-loop-index : goal.invariant-loop-index
invariant-loop-index g l = record {
  size : length l.cells.items ≡ 1 + l.index;
  first : take 1 l.cells.items ≡ l.initial.cells.items;
  held : g.D.Disk.tells → OnDisk l.narrow (g.D.Disk.seen l.initial.disk) l.cells.items;
  read : g.D.Disk.tells → OnlyRead g.D.Disk.moment g.D.Disk.left_since g.D.Disk.seen g.D.Disk.may_leave l.initial.disk l.disk;
  faults : g.D.Disk.fault_count l.initial.disk ≤ g.D.Disk.fault_count l.disk;
}
