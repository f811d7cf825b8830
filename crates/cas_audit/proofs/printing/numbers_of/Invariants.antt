use Rattle.std.proofs.Common.{◌≡◌, filter}
use Rattle.std.specs.List.{range_with_len}
use Rattle.cas_ballot.specs.Members.{has_member}
use Rattle.cas_audit.proofs.printing.numbers_of.Given as goal

-- the members below the next number
abbrev pub invariant-loop-number : goal.invariant-loop-number
invariant-loop-number l = l.numbers.items ≡ filter (has_member l.members) (range_with_len 0 l.number)
