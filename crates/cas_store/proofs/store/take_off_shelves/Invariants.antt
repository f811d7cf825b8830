use Rattle.std.proofs.Common.{◌≡◌, ◌+◌, ◌≤◌, ◌++◌, map}
use Rattle.std.specs.Prelude.{reverse, vec_len, vec_capacity}
use Rattle.cas_disk_shelf.specs.Shelf.{disk_of}
use Rattle.cas_store.proofs.store.take_off_shelves.Given as goal

abbrev pub decreases-loop-shelf : goal.decreases-loop-shelf
decreases-loop-shelf g l = vec_len l.shelves

-- the disks that are on shelves still, and those that were taken off, the last one first
abbrev pub invariant-loop-shelf : goal.invariant-loop-shelf
invariant-loop-shelf g l = record {
  all : map disk_of l.shelves.items ++ reverse l.disks.items ≡ map disk_of l.fn.shelves.items;
  room : vec_len l.shelves + vec_len l.disks ≤ vec_capacity l.disks;
  capacity : vec_capacity l.disks ≡ vec_capacity l.fn.disks;
}
