use Rattle.std.proofs.Common.{◌<◌, ℕ, sym, subst}
use Rattle.std.specs.Prelude.{Bool}
use Rattle.cas_model.specs.Council.{exchange_place}
use Rattle.cas_model.specs.View.{meaning}
use Rattle.cas_flow.specs.Flow.{queue_at}
use Rattle.casreg_script.specs.Exchanges.Exchanges.{AskTurned, none}
use Rattle.casreg_script.specs.Calls.Playing.{turns_left}
use Rattle.casreg_script.proofs.Outcomes.{on_err_of}
use Rattle.casreg_script.proofs.Exchanges.Asking.{same_calls, both_calls, same_order, both_orders, turn_order, ask_turn_keeps, still_asks, told_none, as_ask_turn, as_ask_refusal, ask_front, ask_turn_fewer, ask_turned_more, ask_turn_refused, ask_refusal_keeps, near_calls, near_order, near_asks}
use Rattle.casreg_script.proofs.Calls.Turns.{none_waits, same_turns}
use Rattle.casreg_script.proofs.exchange.ask_turns.Goals as goal

pub loop-front-init : goal.loop-front-init
loop-front-init g c = record {
  turned = λ by is. record { view = by; is = is; has = none };
  asks = λ question was. was;
  order = same_order c.args.world.now;
  network = λ by is. (by, is);
  calls = same_calls c.args.world.now;
}

pub let_in-requires : goal.let_in-requires
let_in-requires g c = record { network = c.loop-front.invariant.network c.requires.network.0 c.requires.network.1 }

pub verdict-verdict-requires : goal.verdict-verdict-requires
verdict-verdict-requires g c = let now = c.loop-front.invariant.network c.requires.network.0 c.requires.network.1 in record { network = c.let_in.ensures.network now.0 now.1 }

pub loop-front-smaller : goal.loop-front-smaller
loop-front-smaller g c =
    let asks = near_asks c.loop-front.world c.let_in.new.world c.let_in.ensures.under_way c.requires.asks.0 (c.loop-front.invariant.asks c.requires.asks.0 c.requires.asks.1) in
    subst (λ (n : ℕ). turns_left c.turn.new.self exchange_place < n) (same_turns c.loop-front.world c.let_in.new.world exchange_place c.let_in.ensures.under_way)
    (ask_turn_fewer _ c.let_in.new.world c.turn.new.self c.verdict-verdict.result c.verdict-verdict.ensures.not_held (as_ask_turn _ c.let_in.new.world c.turn.new.self c.requires.asks.0 asks c.verdict-verdict.result c.in_ok-turn.ensures.ok))

pub loop-front-preserved : goal.loop-front-preserved
loop-front-preserved g c =
    let under = c.let_in.ensures.under_way in
    let asks = near_asks c.loop-front.world c.let_in.new.world under c.requires.asks.0 (c.loop-front.invariant.asks c.requires.asks.0 c.requires.asks.1) in
    let by_turn = as_ask_turn _ c.let_in.new.world c.turn.new.self c.requires.asks.0 asks c.verdict-verdict.result c.in_ok-turn.ensures.ok in
    record {
      turned = λ by is.
          let before = c.loop-front.invariant.turned by is in
          let between = c.let_in.ensures.lets_in before.view before.is in
          let after = c.verdict-verdict.ensures.decides between.view between.is in
          record {
            view = after.view;
            is = after.is;
            has = subst (λ (again : Bool). AskTurned (meaning g.S.Shelf g.V.Disk) by c.args.world.now after.view again c.turn.new.self) (sym c.is_to_repeat-again.ensures)
                (ask_turned_more _ c.args.world.now c.loop-front.world c.let_in.new.world c.turn.new.self c.front.result c.in-Some.front.0 c.in-Some.front.1 (ask_front c.loop-front.world c.requires.asks.0 (c.loop-front.invariant.asks c.requires.asks.0 c.requires.asks.1) c.front.ensures) c.in-Some.is
                under before.has between.has after.has by_turn);
          };
      asks = λ question was. still_asks _ c.let_in.new.world c.turn.new.self question c.verdict-verdict.result (near_asks c.loop-front.world c.let_in.new.world under question (c.loop-front.invariant.asks question was)) by_turn;
      order = both_orders c.args.world.now c.loop-front.world c.turn.new.self c.loop-front.invariant.order (both_orders c.loop-front.world c.let_in.new.world c.turn.new.self (near_order c.loop-front.world c.let_in.new.world under) (turn_order _ c.let_in.new.world c.turn.new.self c.verdict-verdict.result by_turn));
      network = λ by is.
          let before = c.loop-front.invariant.network by is in
          let between = c.let_in.ensures.network before.0 before.1 in
          c.verdict-verdict.ensures.network between.0 between.1;
      calls = both_calls c.args.world.now c.loop-front.world c.turn.new.self c.loop-front.invariant.calls (both_calls c.loop-front.world c.let_in.new.world c.turn.new.self (near_calls c.loop-front.world c.let_in.new.world under) (ask_turn_keeps _ c.let_in.new.world c.turn.new.self c.verdict-verdict.result by_turn));
    }

pub returns-in_err-turn-clause-told : goal.returns-in_err-turn-clause-told
returns-in_err-turn-clause-told g c =
    let asks = near_asks c.loop-front.world c.let_in.new.world c.let_in.ensures.under_way c.requires.asks.0 (c.loop-front.invariant.asks c.requires.asks.0 c.requires.asks.1) in
    on_err_of c.from_residual.result (told_none _ c.let_in.new.world c.turn.new.self c.requires.asks.0 asks (as_ask_refusal _ c.let_in.new.world c.turn.new.self c.requires.asks.0 asks c.in_err-turn.ensures.err))

pub returns-clause-through : goal.returns-clause-through
returns-clause-through g c by is =
    let now = c.loop-front.invariant.turned by is in
    record {
      view = now.view;
      is = now.is;
      has = record {
        again = c.loop-front.again;
        turned = now.has;
        none_waits = none_waits (queue_at c.loop-front.world.flow exchange_place).messages c.front.result (ask_front c.loop-front.world c.requires.asks.0 (c.loop-front.invariant.asks c.requires.asks.0 c.requires.asks.1) c.front.ensures) c.in_default.is;
      };
    }

pub returns-in_err-turn-clause-fails : goal.returns-in_err-turn-clause-fails
returns-in_err-turn-clause-fails g c = on_err_of c.from_residual.result (λ by is.
    let asks = near_asks c.loop-front.world c.let_in.new.world c.let_in.ensures.under_way c.requires.asks.0 (c.loop-front.invariant.asks c.requires.asks.0 c.requires.asks.1) in
    let before = c.loop-front.invariant.turned by is in
    let between = c.let_in.ensures.lets_in before.view before.is in
    let after = c.verdict-verdict.ensures.decides between.view between.is in
    record {
      view = after.view;
      is = after.is;
      has = ask_turn_refused _ c.args.world.now c.loop-front.world c.let_in.new.world c.turn.new.self c.front.result c.in-Some.front.0 c.in-Some.front.1 (ask_front c.loop-front.world c.requires.asks.0 (c.loop-front.invariant.asks c.requires.asks.0 c.requires.asks.1) c.front.ensures) c.in-Some.is
          c.let_in.ensures.under_way before.has between.has after.has (as_ask_refusal _ c.let_in.new.world c.turn.new.self c.requires.asks.0 asks c.in_err-turn.ensures.err);
    })

pub returns-in_err-turn-clause-calls : goal.returns-in_err-turn-clause-calls
returns-in_err-turn-clause-calls g c =
    let asks = near_asks c.loop-front.world c.let_in.new.world c.let_in.ensures.under_way c.requires.asks.0 (c.loop-front.invariant.asks c.requires.asks.0 c.requires.asks.1) in
    both_calls c.args.world.now c.loop-front.world c.turn.new.self c.loop-front.invariant.calls (both_calls c.loop-front.world c.let_in.new.world c.turn.new.self (near_calls c.loop-front.world c.let_in.new.world c.let_in.ensures.under_way)
    (ask_refusal_keeps _ c.let_in.new.world c.turn.new.self (as_ask_refusal _ c.let_in.new.world c.turn.new.self c.requires.asks.0 asks c.in_err-turn.ensures.err)))
