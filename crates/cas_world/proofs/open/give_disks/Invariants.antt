use Rattle.std.proofs.Common.{◌≡◌, ◌+◌, ◌≤◌, ◌++◌}
use Rattle.std.specs.Prelude.{reverse, vec_len, vec_capacity}
use Rattle.cas_world.specs.Openings.Opening.{disks_of}
use Rattle.cas_world.proofs.open.give_disks.Given as goal

abbrev pub decreases-loop-desk : goal.decreases-loop-desk
decreases-loop-desk g l = vec_len l.desks

-- the disks that are to be given back, and those that were, the last one first
abbrev pub invariant-loop-desk : goal.invariant-loop-desk
invariant-loop-desk g l = record {
  all : disks_of l.desks.items ++ reverse l.disks.items ≡ disks_of l.fn.desks.items ++ reverse l.fn.disks.items;
  room : vec_len l.desks + vec_len l.disks ≤ vec_capacity l.disks;
}
