use Rattle.std.proofs.Common.{◌≤◌, sym, subst, ◌∙◌}
use Rattle.cas_collect.specs.Order.{IsStepOf}
use Rattle.cas_model.specs.View.{View}
use Rattle.cas_world.proofs.world.World.renew_next.Goals as goal

pub returns-in-Renew-clause-known : goal.returns-in-Renew-clause-known
returns-in-Renew-clause-known g c =
    subst (λ (v : (View g.row.S.Denot g.row.V.Denot)). c.in-Renew.proposer ≤ v.last_proposer) c.self.view_is
    (subst (IsStepOf c.self.inside.setup.proposers) (sym c.next.ensures ∙ c.in-Renew.is) (c.self.invariant.safe.collection.each c.in-Some.collection c.in-Some.is).is_step)
