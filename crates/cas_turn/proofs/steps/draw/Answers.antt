use Rattle.std.proofs.Common.{rules}
use Rattle.cas_turn.proofs.Taking.{draws_at}
use Rattle.cas_turn.proofs.steps.draw.Goals as goal

pub fetch_add-requires : goal.fetch_add-requires
fetch_add-requires g c = let t = c.requires.table in (search rules, search rules, draws_at _ _ _ _ _ _ _ _ c.requires.idle)
