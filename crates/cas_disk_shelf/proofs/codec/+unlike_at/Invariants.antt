use Rattle.std.proofs.Common.{length}
use Rattle.cas_disk_shelf.proofs.codec.+unlike_at.Given as goal

abbrev pub decreases-unlike_at : goal.decreases-unlike_at
decreases-unlike_at l = length l.text.now
