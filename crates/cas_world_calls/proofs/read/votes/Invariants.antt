use Rattle.std.proofs.Common.{◌≡◌, map}
use Rattle.std.specs.List.{filter, range_with_len}
use Rattle.cas_ballot.specs.Members.{has_member}
use Rattle.cas_world_calls.specs.Read.{vote_of}
use Rattle.cas_world_calls.proofs.read.votes.Given as goal

-- a vote of each member so far
abbrev pub invariant-loop-number : goal.invariant-loop-number
invariant-loop-number l = l.marks.items ≡ map (vote_of l.key l.ballot) (filter (has_member l.by) (range_with_len 0 l.number))
