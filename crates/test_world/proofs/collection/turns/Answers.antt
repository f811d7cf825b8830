use Rattle.std.proofs.Common.{refl, ◌∙◌}
use Rattle.cas_model.specs.Step as step
use Rattle.cas_flow.specs.Flow.{queue_at}
use Rattle.cas_model.specs.View.{meaning}
use Rattle.casreg_script.proofs.Outcomes.{on_err_of}
use Rattle.casreg_script.proofs.Calls.Keeping.{quiet_then, refuse_keeps, turn_keeps}
use Rattle.casreg_script.proofs.Calls.Playing.{turn_plays, turn_fails}
use Rattle.casreg_script.proofs.Calls.Turns.{as_turn, as_refusal, in_front, turn_fewer, none_waits}
use Rattle.test_world.proofs.Leading.{others_lead, same_leads, then_leads}
use Rattle.test_world.proofs.collection.turns.Goals as goal

pub loop-front-init : goal.loop-front-init
loop-front-init g c = record { plays = λ asked proposed was. was; quiet = c.requires.quiet; council = refl; leads = same_leads c.args.world.now }

pub loop-front-smaller : goal.loop-front-smaller
loop-front-smaller g c = turn_fewer _ c.loop-front.world c.turn.new.self 0 c.verdict_of-verdict.result c.verdict_of-verdict.ensures (as_turn _ c.loop-front.world c.turn.new.self 0 _ c.loop-front.invariant.quiet c.in_ok-turn.ensures.ok)

pub loop-front-preserved : goal.loop-front-preserved
loop-front-preserved g c =
    let by = as_turn _ c.loop-front.world c.turn.new.self 0 _ c.loop-front.invariant.quiet c.in_ok-turn.ensures.ok in
    let keeps = turn_keeps _ c.loop-front.world c.turn.new.self 0 _ by in
    record {
      plays = λ asked proposed was. turn_plays _ c.loop-front.world c.turn.new.self 0 _ asked proposed (c.loop-front.invariant.plays asked proposed was) by;
      quiet = quiet_then c.loop-front.world c.turn.new.self 0 keeps c.loop-front.invariant.quiet;
      council = keeps.council c.loop-front.invariant.quiet ∙ c.loop-front.invariant.council;
      leads = then_leads c.args.world.now c.loop-front.world c.turn.new.self c.loop-front.invariant.leads (others_lead (meaning g.S.Shelf g.V.Disk) c.loop-front.world c.turn.new.self (step.Turn 0 _) by keeps);
    }

pub returns-in_err-turn-clause-over : goal.returns-in_err-turn-clause-over
returns-in_err-turn-clause-over g c asked proposed was =
    on_err_of c.from_residual.result (turn_fails _ c.loop-front.world c.turn.new.self 0 asked proposed (c.loop-front.invariant.plays asked proposed was) (as_refusal _ c.loop-front.world c.turn.new.self 0 c.loop-front.invariant.quiet c.in_err-turn.ensures.err))

pub returns-in_err-turn-clause-council : goal.returns-in_err-turn-clause-council
returns-in_err-turn-clause-council g c =
    (refuse_keeps _ c.loop-front.world c.turn.new.self 0 (as_refusal _ c.loop-front.world c.turn.new.self 0 c.loop-front.invariant.quiet c.in_err-turn.ensures.err)).council c.loop-front.invariant.quiet ∙ c.loop-front.invariant.council

pub returns-in_err-turn-clause-leads : goal.returns-in_err-turn-clause-leads
returns-in_err-turn-clause-leads g c =
    let by = as_refusal _ c.loop-front.world c.turn.new.self 0 c.loop-front.invariant.quiet c.in_err-turn.ensures.err in
    then_leads c.args.world.now c.loop-front.world c.turn.new.self c.loop-front.invariant.leads (others_lead (meaning g.S.Shelf g.V.Disk) c.loop-front.world c.turn.new.self (step.RefuseTurn 0) by (refuse_keeps _ c.loop-front.world c.turn.new.self 0 by))

pub returns-clause-through : goal.returns-clause-through
returns-clause-through g c = none_waits (queue_at c.loop-front.world.flow 0).messages c.front.result (in_front c.loop-front.world 0 c.loop-front.invariant.quiet c.front.ensures) c.in_default.is
