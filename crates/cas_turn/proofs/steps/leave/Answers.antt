use Rattle.std.proofs.Common.{rules}
use Rattle.cas_turn.proofs.Taking.{leaves_at}
use Rattle.cas_turn.proofs.steps.leave.Goals as goal

pub fetch_add-requires : goal.fetch_add-requires
fetch_add-requires g c = let t = c.requires.table in (search rules, search rules, leaves_at _ _ _ _ _ _ _ _ _ c.requires.home.1)
