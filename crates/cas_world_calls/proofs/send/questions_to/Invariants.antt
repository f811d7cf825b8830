use Rattle.std.proofs.Common.{◌≡◌, map}
use Rattle.std.specs.List.{filter, range_with_len}
use Rattle.cas_ballot.specs.Members.{has_member}
use Rattle.cas_world_calls.specs.Council.{question_view}
use Rattle.cas_world_calls.proofs.Sending.{questioning}
use Rattle.cas_world_calls.proofs.send.questions_to.Given as goal

-- a frame for each member so far
abbrev pub invariant-loop-number : goal.invariant-loop-number
invariant-loop-number l = l.frames.items ≡ map (questioning l.fn.age l.fn.tag (question_view l.question)) (filter (has_member l.members) (range_with_len 0 l.number))
