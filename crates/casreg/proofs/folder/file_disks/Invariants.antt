use Rattle.std.proofs.Common.{◌≡◌}
use Rattle.std.specs.Prelude.{vec_len}
use Rattle.cas_disk.specs.File.{faults_of}
use Rattle.casreg.specs.Disks.{CountNoFault}
use Rattle.casreg.proofs.folder.file_disks.Given as goal

abbrev pub invariant-loop-number : goal.invariant-loop-number
invariant-loop-number g l = record {
  made : vec_len l.disks ≡ l.number-counter;
  found : vec_len l.found ≡ l.initial.count;
  faultless : CountNoFault faults_of l.disks.items;
}
