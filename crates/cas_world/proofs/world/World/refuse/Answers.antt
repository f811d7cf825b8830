use Rattle.std.proofs.Common.{ap, subst, sym, ◌∙◌}
use Rattle.cas_model.specs.Council.{telling}
use Rattle.cas_model.specs.Exchanges.Step.{told_view}
use Rattle.cas_model.specs.Exchanges.Tellings.{StopsUndone}
use Rattle.cas_model.specs.View.{View}
use Rattle.cas_world_calls.specs.Council.{council_view}
use Rattle.cas_world.proofs.Exchanges.Exchanges.{plain_undone, told_seen, told_world}
use Rattle.cas_world.proofs.world.World.refuse.Goals as goal

pub invariant_of-self : goal.invariant_of-self
invariant_of-self g c = told_world c.self.inside.setup.proposers c.self.inside.council c.self.inside.acceptors.items c.self.inside.desks.items c.self.inside.callers.items c.self.inside.flow c.self.inside.record c.tell.new.self c.copy_of_op.result (subst StopsUndone (sym c.copy_of_op.ensures) (plain_undone c.args.refusal c.requires)) c.self.invariant c.tell.ensures.eras c.tell.ensures.told

pub returns-clause-told : goal.returns-clause-told
returns-clause-told g c =
    told_seen c.self.inside.setup.proposers c.self.inside.council c.self.inside.acceptors.items c.self.inside.desks.items c.self.inside.callers.items c.self.inside.flow c.self.inside.record c.tell.new.self c.args.refusal c.tell.ensures.eras
    (c.tell.ensures.told ∙ ap (telling (council_view c.self.inside.council)) c.copy_of_op.ensures)
    ∙ ap (λ (v : View _ _). told_view v c.args.refusal) c.self.view_is
