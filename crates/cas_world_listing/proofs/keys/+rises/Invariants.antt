use Rattle.std.proofs.Common.{length}
use Rattle.cas_world_listing.proofs.keys.+rises.Given as goal

abbrev pub decreases-rises : goal.decreases-rises
decreases-rises l = length l.keys.now
