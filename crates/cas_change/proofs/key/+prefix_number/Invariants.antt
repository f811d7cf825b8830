use Rattle.std.proofs.Common.{length}
use Rattle.cas_change.proofs.key.+prefix_number.Given as goal

abbrev pub decreases-prefix_number : goal.decreases-prefix_number
decreases-prefix_number l = length l.bytes.now
