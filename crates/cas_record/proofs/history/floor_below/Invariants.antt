-- the greatest floor of the marks so far
use Rattle.std.proofs.Common.{◌≡◌, take, reverse}
use Rattle.cas_record.specs.Histories.Chain.{floor_below}
use Rattle.cas_record.proofs.history.floor_below.Given as goal

abbrev pub invariant-loop-mark : goal.invariant-loop-mark
invariant-loop-mark l = l.floor ≡ floor_below l.key l.ballot (reverse (take l.mark-index l.marks))
