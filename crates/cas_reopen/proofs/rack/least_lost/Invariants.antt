use Rattle.cas_reopen.proofs.Numbers.{AllBelow}
use Rattle.cas_reopen.proofs.rack.least_lost.Given as goal

-- the disk of each member so far is not empty
abbrev pub invariant-loop-number : goal.invariant-loop-number
invariant-loop-number l = AllBelow l.members l.filled.acceptors l.number
