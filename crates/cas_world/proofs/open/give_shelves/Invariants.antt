use Rattle.std.proofs.Common.{◌≡◌, ◌+◌, ◌≤◌, ◌++◌}
use Rattle.std.specs.Prelude.{reverse, vec_len, vec_capacity}
use Rattle.cas_world.specs.Openings.Opening.{shelves_of}
use Rattle.cas_world.proofs.open.give_shelves.Given as goal

abbrev pub decreases-loop-acceptor : goal.decreases-loop-acceptor
decreases-loop-acceptor g l = vec_len l.acceptors

-- the shelves that are to be given back, and those that were, the last one first
abbrev pub invariant-loop-acceptor : goal.invariant-loop-acceptor
invariant-loop-acceptor g l = record {
  all : shelves_of l.acceptors.items ++ reverse l.shelves.items ≡ shelves_of l.fn.acceptors.items;
  room : vec_len l.acceptors + vec_len l.shelves ≤ vec_capacity l.shelves;
}
