use Rattle.std.proofs.Common.{refl, sym, ap, subst, ◌∙◌, arith}
use Rattle.cas_model.specs.Step as step
use Rattle.cas_model.specs.View.{View, meaning}
use Rattle.cas_model.proofs.Safety.Steps.{steps_are_safe}
use Rattle.cas_world_calls.specs.Council.{council_view}
use Rattle.cas_world.specs.World.{view_of}
use Rattle.cas_world.proofs.Parts.{remembered_then}
use Rattle.cas_model.specs.Step.{StepEnd}
use Rattle.cas_model.specs.Exchanges.Step.{with_council}
use Rattle.cas_world_calls.specs.Collecting.{ended_in}
use Rattle.cas_world.proofs.Collection.Collects.{ended_reserves, ends_collect}
use Rattle.cas_world.proofs.Exchanges.Exchanges.{council_next, council_world}
use Rattle.cas_model.specs.Safe.{IsSafe}
use Rattle.cas_model.specs.Council.{reserved_by}
use Rattle.cas_world.proofs.Parts.{Remembers}
use Rattle.cas_world.proofs.world.World.end_collect.Given.{Over}
use Rattle.cas_world.proofs.world.World.end_collect.Goals as goal
use Rattle.cas_world.proofs.world.World.end_collect.Goals.{After-end_round}

did : (g : Over) (c : After-end_round g) → step.Step (meaning g.S.Shelf g.V.Disk) c.args.self.now (step.EndCollect c.args.answer) (view_of c.self-2.inside.setup.proposers c.end_round.new.self c.self-2.inside.acceptors.items c.self-2.inside.desks.items c.self-2.inside.callers.items c.self-2.inside.flow c.self-2.inside.record)
did g c = ends_collect (meaning g.S.Shelf g.V.Disk) c.args.self.now (view_of c.self-2.inside.setup.proposers c.self-2.inside.council c.self-2.inside.acceptors.items c.self-2.inside.desks.items c.self-2.inside.callers.items c.self-2.inside.flow c.self-2.inside.record) _ c.args.answer (subst (λ (v : (View g.row.S.Denot g.row.V.Denot)). IsSafe v) c.self.view_is c.self.invariant.safe) c.requires.calling
    (subst (λ (v : (View g.row.S.Denot g.row.V.Denot)). StepEnd (meaning g.S.Shelf g.V.Disk) c.args.self.now 0 c.args.answer v) (sym c.self-2.view_is) c.end-answer.ensures.step)
    (council_next c.self-2.inside.setup.proposers c.self-2.inside.council c.end_round.new.self c.self-2.inside.acceptors.items c.self-2.inside.desks.items c.self-2.inside.callers.items c.self-2.inside.flow c.self-2.inside.record (council_view c.end_round.new.self) c.end_round.ensures.eras refl
    ∙ ap (with_council (view_of c.self-2.inside.setup.proposers c.self-2.inside.council c.self-2.inside.acceptors.items c.self-2.inside.desks.items c.self-2.inside.callers.items c.self-2.inside.flow c.self-2.inside.record)) (c.end_round.ensures.ended ∙ ap (ended_in (council_view c.self-2.inside.council)) c.end-answer.ensures.same))

pub invariant_of-self : goal.invariant_of-self
invariant_of-self g c =
    council_world (view_of c.self-2.inside.setup.proposers c.self-2.inside.council c.self-2.inside.acceptors.items c.self-2.inside.desks.items c.self-2.inside.callers.items c.self-2.inside.flow c.self-2.inside.record) _ c.self-2.inside.callers.items c.self-2.inside.record.room c.self-2.inside.record.room c.self-2.invariant refl
    (steps_are_safe (meaning g.S.Shelf g.V.Disk) c.args.self.now (step.EndCollect c.args.answer) _ (subst (λ (v : (View g.row.S.Denot g.row.V.Denot)). IsSafe v) c.self.view_is c.self.invariant.safe) (did g c))
    (remembered_then (meaning g.S.Shelf g.V.Disk) (step.EndCollect c.args.answer) (did g c) (subst (λ (v : (View g.row.S.Denot g.row.V.Denot)). Remembers (meaning g.S.Shelf g.V.Disk) v) c.self.view_is c.self.invariant.remembered))
    (omega (arith, c.self-2.invariant.room, ap reserved_by c.end_round.ensures.ended, ended_reserves (council_view c.self-2.inside.council) c.end-answer.result))

pub returns-clause-step : goal.returns-clause-step
returns-clause-step g c = did g c
