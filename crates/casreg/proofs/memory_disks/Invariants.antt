use Rattle.std.proofs.Common.{◌≡◌}
use Rattle.std.specs.Prelude.{vec_len, All}
use Rattle.cas_disk.specs.Memory.{faults_of}
use Rattle.casreg.specs.Disks.{IsUnused, CountNoFault}
use Rattle.casreg.proofs.memory_disks.Given as goal

abbrev pub invariant-loop-disk : goal.invariant-loop-disk
invariant-loop-disk l = record {
  made : vec_len l.disks ≡ l._disk;
  unused : All IsUnused l.disks.items;
  faultless : CountNoFault faults_of l.disks.items;
}
