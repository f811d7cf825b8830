use Rattle.std.proofs.Common.{◌≡◌, ◌+◌, ◌-◌, ◌≤◌}
use Rattle.cas_world.specs.Openings.Opening.{members_to}
use Rattle.cas_reopen.proofs.rack.first_members.Given as goal

-- the members so far
abbrev pub invariant-loop-number : goal.invariant-loop-number
invariant-loop-number l = (l.members ≡ members_to (l.number - 1)) × (l.number ≤ l.count + 1)
