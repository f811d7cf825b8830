use Rattle.std.proofs.Common.{Some, sym, ap, ◌∙◌, subst, refl, arith}
use Rattle.std.specs.Prelude.{option_map}
use Rattle.cas_proposer.specs.Desk.{DeskView}
use Rattle.cas_quorum.specs.declared.era.Era.{Era}
use Rattle.cas_record.specs.declared.operator.OpAnswer.TheVariants as op
use Rattle.cas_model.specs.View.{View, IsAt}
use Rattle.cas_model.proofs.Places.{at_one}
use Rattle.cas_world_calls.specs.Council.{plan_view}
use Rattle.cas_world.specs.Collection.Collect as collects
use Rattle.cas_world.proofs.Exchanges.Exchanges.{some_there}
use Rattle.cas_world.proofs.Parts.{at_place}
use Rattle.cas_world.proofs.world.World.refusal_to_collect.Goals as goal

pub returns-then-is_some : goal.returns-then-is_some
returns-then-is_some g c desk at =
    let there = some_there c.self.inside.council.plan (sym c.if-is_some.ensures) in
    let here : IsAt c.args.self.now.desks 0 c.index.result.now = subst (λ (v : (View g.row.S.Denot g.row.V.Denot)). IsAt v.desks 0 c.index.result.now) c.self.view_is (at_place c.self.inside.desks.items 0 0 c.index.result.now refl (omega (arith, c.self.invariant.safe.sound.desks)) c.index.ensures) in
    collects.is_busy (plan_view there.0) (ap (λ (d : DeskView g.row.V.Denot). d.down) (at_one c.args.self.now.desks 0 at here) ∙ sym c.if-is_down.ensures)
    (sym (ap (λ (v : (View g.row.S.Denot g.row.V.Denot)). v.council.plan) c.self.view_is) ∙ ap (option_map plan_view) there.1) (ap (λ (e : Era). Some (op.Busy e.number)) c.era.ensures)
