use Rattle.std.proofs.Common.{◌≡◌, drop}
use Rattle.std.specs.Prelude.{IsTrue}
use Rattle.cas_disk.specs.Medium.{undone, all_fit}
use Rattle.cas_disk.proofs.medium.undo_all.Given as goal

abbrev pub invariant-loop-write : goal.invariant-loop-write
invariant-loop-write l = record {
  rest : undone (drop l.write-index l.writes) l.bytes.items ≡ undone l.writes l.initial.bytes.items;
  fit : IsTrue (all_fit (drop l.write-index l.writes) l.bytes.items);
}
