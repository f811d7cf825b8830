use Rattle.std.proofs.Common.{rules, ◌∙◌}
use Rattle.cas_turn.proofs.Taking.{looks_at}
use Rattle.cas_turn.proofs.steps.wait.Goals as goal

pub load-requires : goal.load-requires
load-requires g c = let t = c.requires.table in let i = c.loop.invariant in (search rules, search rules, looks_at _ _ _ _ _ _ _ _ _ _ (i.1 ∙ c.requires.waits.waits) c.requires.few)
