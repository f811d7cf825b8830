use Rattle.std.proofs.Common.{◌≡◌, map}
use Rattle.std.specs.List.{filter, range_with_len}
use Rattle.cas_ballot.specs.Members.{has_member}
use Rattle.cas_world_calls.specs.Council.{unanswered}
use Rattle.cas_world_calls.proofs.council.unanswered.Given as goal

-- a probe for each member so far
abbrev pub invariant-loop-number : goal.invariant-loop-number
invariant-loop-number l = l.probes.items ≡ map unanswered (filter (has_member l.members) (range_with_len 0 l.number))
