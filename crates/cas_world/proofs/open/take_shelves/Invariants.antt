use Rattle.std.proofs.Common.{◌≡◌, ◌+◌, ◌≤◌, ◌++◌, length}
use Rattle.std.specs.Prelude.{reverse, vec_len, vec_capacity}
use Rattle.cas_world.specs.Openings.Opening.{unstarted}
use Rattle.cas_world.proofs.open.take_shelves.Given as goal

abbrev pub decreases-loop-shelf : goal.decreases-loop-shelf
decreases-loop-shelf g l = vec_len l.shelves

-- those that were made, and those over the shelves that are left, are all of them
abbrev pub invariant-loop-shelf : goal.invariant-loop-shelf
invariant-loop-shelf g l = record {
  all : l.acceptors.items ++ unstarted (length l.acceptors.items) (reverse l.shelves.items) ≡ unstarted 0 l.fn.shelves.items;
  few : vec_len l.acceptors + vec_len l.shelves ≤ 64;
  room : 64 ≤ vec_capacity l.acceptors;
  capacity : vec_capacity l.shelves ≡ vec_capacity l.fn.shelves;
}
