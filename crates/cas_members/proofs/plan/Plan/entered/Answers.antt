use Rattle.cas_members.proofs.PlanLemmas.{enters_half, enters_whole}
use Rattle.cas_members.proofs.plan.Plan.entered.Goals as goal
use Rattle.cas_members.proofs.plan.Plan.entered.Goals.{in-Some, in-None}

pub invariant_of-self : goal.invariant_of-self
invariant_of-self c = elim c.match-take.branch [
  | in-Some w ↦ enters_half c.self.inside.era _ w.in-Some.half c.self.inside.half c.self.inside.whole _ _ (cc) (cc) (cc) (cc) c.self.invariant
  | in-None w ↦ enters_whole c.self.inside.era _ c.self.inside.half c.self.inside.whole _ _ (cc) (cc) (cc) (cc) c.self.invariant
]
