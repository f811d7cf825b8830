use Rattle.std.proofs.Common.{rules}
use Rattle.cas_turn.proofs.Taking.{measures_at}
use Rattle.cas_turn.proofs.steps.measure.Goals as goal

pub load-requires : goal.load-requires
load-requires g c = let t = c.requires.table in (search rules, search rules, measures_at _ _ _ _ _ _ _ _ _ _ c.requires.holds.1)
