use Rattle.std.proofs.Common.{◌≡◌, ℕ, ◌<◌, true}
use Rattle.cas_ballot.specs.Members.{has_member}
use Rattle.cas_world_calls.proofs.collecting.least_without.Given as goal

-- those below are among both
abbrev pub invariant-loop-number : goal.invariant-loop-number
invariant-loop-number l = (other : ℕ) → other < l.number → has_member l.all other ≡ true → has_member l.some other ≡ true
