use Rattle.cas_disk.specs.Disk.{Torn}
use Rattle.cas_disk.proofs.medium.spread.Given as goal

abbrev pub invariant-loop-k : goal.invariant-loop-k
invariant-loop-k l = Torn l.at l.len l.initial.bytes.items l.bytes.items
