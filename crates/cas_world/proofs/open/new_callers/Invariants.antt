use Rattle.std.proofs.Common.{◌≡◌, ◌+◌, ◌≤◌, replicate}
use Rattle.std.specs.Prelude.{vec_capacity}
use Rattle.cas_world.specs.Openings.Opening.{unbegun}
use Rattle.cas_world.proofs.open.new_callers.Given as goal

-- a caller for each number so far, and room for all
abbrev pub invariant-loop-number : goal.invariant-loop-number
invariant-loop-number l = (l.callers.items ≡ replicate l._number unbegun) × (l.fn.proposers + 1 ≤ vec_capacity l.callers)
