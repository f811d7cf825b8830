use Rattle.std.proofs.Common.{length}
use Rattle.cas_http.proofs.fields.+asks_to_close.Given as goal

abbrev pub decreases-asks_to_close : goal.decreases-asks_to_close
decreases-asks_to_close l = length l.fields.now
