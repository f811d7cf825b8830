use Rattle.std.proofs.Common.{◌-◌, drop}
use Rattle.cas_disk.specs.Medium.{IsImage}
use Rattle.cas_disk.proofs.medium.spread_all.Given as goal

abbrev pub invariant-loop-i : goal.invariant-loop-i
invariant-loop-i l = IsImage l.initial.bytes.items (drop (l.count - l.i) l.writes) l.bytes.items
