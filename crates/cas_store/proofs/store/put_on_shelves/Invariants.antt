use Rattle.std.proofs.Common.{◌≡◌, ◌+◌, ◌≤◌, ◌++◌, map}
use Rattle.std.specs.Prelude.{reverse, vec_len, vec_capacity}
use Rattle.cas_disk_shelf.specs.Shelf.{disk_of}
use Rattle.cas_store.proofs.store.put_on_shelves.Given as goal

abbrev pub decreases-loop-disk : goal.decreases-loop-disk
decreases-loop-disk g l = vec_len l.disks

-- the disks that stand on shelves, and those that are left, are all of them
abbrev pub invariant-loop-disk : goal.invariant-loop-disk
invariant-loop-disk g l = record {
  all : map disk_of l.shelves.items ++ reverse l.disks.items ≡ l.fn.disks.items;
  room : vec_len l.shelves + vec_len l.disks ≤ vec_capacity l.shelves;
  capacity : vec_capacity l.disks ≡ vec_capacity l.fn.disks;
}
