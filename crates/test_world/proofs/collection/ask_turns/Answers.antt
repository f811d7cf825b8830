use Rattle.cas_flow.specs.Flow.{queue_at}
use Rattle.cas_model.specs.Council.{exchange_place}
use Rattle.cas_model.specs.Step as step
use Rattle.cas_model.specs.View.{meaning}
use Rattle.casreg_script.proofs.Outcomes.{on_err_of}
use Rattle.casreg_script.proofs.Exchanges.Asking.{same_order, both_orders, turn_order, ask_turn_keeps, ask_refusal_keeps, keeps_idle, still_asks, told_none, as_ask_turn, as_ask_refusal, ask_front, ask_turn_fewer}
use Rattle.casreg_script.proofs.Calls.Turns.{none_waits}
use Rattle.test_world.proofs.Leading.{same_goes, step_goes, then_goes}
use Rattle.test_world.proofs.collection.ask_turns.Goals as goal

pub loop-front-init : goal.loop-front-init
loop-front-init g c = record { asks = λ question was. was; order = same_order c.args.world.now; goes = same_goes c.args.world.now }

pub loop-front-smaller : goal.loop-front-smaller
loop-front-smaller g c =
    ask_turn_fewer _ c.loop-front.world c.turn.new.self c.verdict_of-verdict.result c.verdict_of-verdict.ensures
    (as_ask_turn _ c.loop-front.world c.turn.new.self c.requires.asks.0 (c.loop-front.invariant.asks c.requires.asks.0 c.requires.asks.1) c.verdict_of-verdict.result c.in_ok-turn.ensures.ok)

pub loop-front-preserved : goal.loop-front-preserved
loop-front-preserved g c =
    let by = as_ask_turn _ c.loop-front.world c.turn.new.self c.requires.asks.0 (c.loop-front.invariant.asks c.requires.asks.0 c.requires.asks.1) c.verdict_of-verdict.result c.in_ok-turn.ensures.ok in
    record {
      asks = λ question was. still_asks _ c.loop-front.world c.turn.new.self question c.verdict_of-verdict.result (c.loop-front.invariant.asks question was) by;
      order = both_orders c.args.world.now c.loop-front.world c.turn.new.self c.loop-front.invariant.order (turn_order _ c.loop-front.world c.turn.new.self c.verdict_of-verdict.result by);
      goes = then_goes c.args.world.now c.loop-front.world c.turn.new.self c.loop-front.invariant.goes
          (step_goes (meaning g.S.Shelf g.V.Disk) c.loop-front.world c.turn.new.self (step.TurnExchange _) by (keeps_idle c.loop-front.world c.turn.new.self (ask_turn_keeps _ c.loop-front.world c.turn.new.self c.verdict_of-verdict.result by)));
    }

pub returns-in_err-turn-clause-told : goal.returns-in_err-turn-clause-told
returns-in_err-turn-clause-told g c = on_err_of c.from_residual.result (told_none _ c.loop-front.world c.turn.new.self c.requires.asks.0 (c.loop-front.invariant.asks c.requires.asks.0 c.requires.asks.1) (as_ask_refusal _ c.loop-front.world c.turn.new.self c.requires.asks.0 (c.loop-front.invariant.asks c.requires.asks.0 c.requires.asks.1) c.in_err-turn.ensures.err))

pub returns-in_err-turn-clause-goes : goal.returns-in_err-turn-clause-goes
returns-in_err-turn-clause-goes g c =
    let by = as_ask_refusal _ c.loop-front.world c.turn.new.self c.requires.asks.0 (c.loop-front.invariant.asks c.requires.asks.0 c.requires.asks.1) c.in_err-turn.ensures.err in
    then_goes c.args.world.now c.loop-front.world c.turn.new.self c.loop-front.invariant.goes (step_goes (meaning g.S.Shelf g.V.Disk) c.loop-front.world c.turn.new.self step.RefuseTurnExchange by (keeps_idle c.loop-front.world c.turn.new.self (ask_refusal_keeps _ c.loop-front.world c.turn.new.self by)))

pub returns-clause-through : goal.returns-clause-through
returns-clause-through g c = none_waits (queue_at c.loop-front.world.flow exchange_place).messages c.front.result (ask_front c.loop-front.world c.requires.asks.0 (c.loop-front.invariant.asks c.requires.asks.0 c.requires.asks.1) c.front.ensures) c.in_default.is
