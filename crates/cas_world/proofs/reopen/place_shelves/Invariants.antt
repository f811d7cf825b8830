use Rattle.std.proofs.Common.{◌≡◌, ◌+◌, ◌≤◌, ◌++◌, ℕ, true, length}
use Rattle.std.specs.Prelude.{reverse, vec_len, vec_capacity}
use Rattle.cas_ballot.specs.Members.{has_member}
use Rattle.cas_model.specs.View.{IsAt}
use Rattle.cas_world.specs.Openings.OpeningOn.{placed}
use Rattle.cas_world.proofs.reopen.place_shelves.Given as goal

abbrev pub decreases-loop-shelf : goal.decreases-loop-shelf
decreases-loop-shelf g l = vec_len l.shelves

-- those that were made, and those over the shelves that are left, are all of them
abbrev pub invariant-loop-shelf : goal.invariant-loop-shelf
invariant-loop-shelf g l = record {
  all : l.acceptors.items ++ placed l.fn.members (length l.acceptors.items) (reverse l.shelves.items) ≡ placed l.fn.members 0 l.fn.shelves.items;
  up : (id : ℕ) (shelf : g.row.S.Denot) → has_member l.fn.members (length l.acceptors.items + id) ≡ true → IsAt (reverse l.shelves.items) id shelf → g.S.Shelf.is_up shelf;
  few : vec_len l.acceptors + vec_len l.shelves ≤ 64;
  room : 64 ≤ vec_capacity l.acceptors;
  capacity : vec_capacity l.shelves ≡ vec_capacity l.fn.shelves;
}
