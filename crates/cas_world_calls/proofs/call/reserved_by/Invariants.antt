use Rattle.std.proofs.Common.{◌≡◌, ◌+◌, drop, sum_by}
use Rattle.cas_world_calls.specs.Call.{reserved_of}
use Rattle.cas_world_calls.proofs.call.reserved_by.Given as goal

-- what was added up so far, and what is left, are the whole
abbrev pub invariant-loop-caller : goal.invariant-loop-caller
invariant-loop-caller l = l.all + sum_by reserved_of (drop l.caller-index l.callers) ≡ sum_by reserved_of l.callers
