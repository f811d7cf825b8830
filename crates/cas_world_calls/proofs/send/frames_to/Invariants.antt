use Rattle.std.proofs.Common.{◌≡◌, map}
use Rattle.std.specs.List.{filter, range_with_len}
use Rattle.cas_ballot.specs.Members.{has_member}
use Rattle.cas_world_calls.proofs.Sending.{asking}
use Rattle.cas_world_calls.proofs.send.frames_to.Given as goal

-- a frame for each member so far, and the next asks the same
abbrev pub invariant-loop-number : goal.invariant-loop-number
invariant-loop-number l =
    (l.frames.items ≡ map (asking l.fn.proposer l.fn.age l.fn.ask) (filter (has_member l.members) (range_with_len 0 l.number)))
    × (l.request.from ≡ l.fn.proposer) × (l.request.age ≡ l.fn.age) × (l.request.ask ≡ l.fn.ask)
    × (l.flow ≡ l.initial.flow)
