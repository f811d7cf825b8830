use Rattle.std.proofs.Common.{◌<◌, ℕ, refl, sym, subst, ◌∙◌}
use Rattle.std.specs.Prelude.{Bool}
use Rattle.cas_model.specs.View.{meaning}
use Rattle.cas_flow.specs.Flow.{queue_at}
use Rattle.casreg_script.specs.Calls.Changes.{Turned, none}
use Rattle.casreg_script.specs.Calls.Playing.{turns_left}
use Rattle.casreg_script.proofs.Outcomes.{on_err_of}
use Rattle.casreg_script.proofs.Calls.Keeping.{quiet_then, turn_keeps}
use Rattle.casreg_script.proofs.Calls.Playing.{turn_plays, turn_fails, turn_greatest}
use Rattle.casreg_script.proofs.Calls.Turns.{as_turn, as_refusal, in_front, turn_fewer, turned_more, turn_refused, none_waits, same_turns, quiet_near}
use Rattle.casreg_script.proofs.changes.all_turns.Goals as goal

pub loop-front-init : goal.loop-front-init
loop-front-init g c = record {
  turned = λ by is. record { view = by; is = is; has = none };
  plays = λ asked proposed was. was;
  network = λ by is. (by, is);
  last_proposer = refl;
  quiet = c.requires.quiet;
}

pub let_in-requires : goal.let_in-requires
let_in-requires g c = record { network = c.loop-front.invariant.network c.requires.network.0 c.requires.network.1 }

pub verdict-verdict-requires : goal.verdict-verdict-requires
verdict-verdict-requires g c = let now = c.loop-front.invariant.network c.requires.network.0 c.requires.network.1 in record { network = c.let_in.ensures.network now.0 now.1 }

pub loop-front-smaller : goal.loop-front-smaller
loop-front-smaller g c =
    subst (λ (n : ℕ). turns_left c.turn.new.self c.args.proposer < n) (same_turns c.loop-front.world c.let_in.new.world c.args.proposer c.let_in.ensures.under_way)
    (turn_fewer _ c.let_in.new.world c.turn.new.self c.args.proposer c.verdict-verdict.result c.verdict-verdict.ensures.not_held
    (as_turn _ c.let_in.new.world c.turn.new.self c.args.proposer _ (quiet_near c.loop-front.world c.let_in.new.world c.args.proposer c.let_in.ensures.under_way c.loop-front.invariant.quiet) c.in_ok-turn.ensures.ok))

pub loop-front-preserved : goal.loop-front-preserved
loop-front-preserved g c =
    let quiet = quiet_near c.loop-front.world c.let_in.new.world c.args.proposer c.let_in.ensures.under_way c.loop-front.invariant.quiet in
    let by_turn = as_turn _ c.let_in.new.world c.turn.new.self c.args.proposer _ quiet c.in_ok-turn.ensures.ok in
    record {
      turned = λ by is.
          let before = c.loop-front.invariant.turned by is in
          let between = c.let_in.ensures.lets_in before.view before.is in
          let after = c.verdict-verdict.ensures.decides between.view between.is in
          record {
            view = after.view;
            is = after.is;
            has = subst (λ (again : Bool). Turned (meaning g.S.Shelf g.V.Disk) by c.args.proposer c.args.world.now after.view again c.turn.new.self) (sym c.is_to_repeat-again.ensures)
                (turned_more _ c.args.proposer c.args.world.now c.loop-front.world c.let_in.new.world c.turn.new.self c.front.result c.in-Some.front.0 c.in-Some.front.1 (in_front c.loop-front.world c.args.proposer c.loop-front.invariant.quiet c.front.ensures) c.in-Some.is
                c.let_in.ensures.under_way before.has between.has after.has by_turn);
          };
      plays = λ asked proposed was. turn_plays _ c.let_in.new.world c.turn.new.self c.args.proposer _ asked proposed (c.let_in.ensures.under_way.plays c.args.proposer asked proposed (c.loop-front.invariant.plays asked proposed was)) by_turn;
      network = λ by is.
          let before = c.loop-front.invariant.network by is in
          let between = c.let_in.ensures.network before.0 before.1 in
          c.verdict-verdict.ensures.network between.0 between.1;
      last_proposer = turn_greatest _ c.let_in.new.world c.turn.new.self c.args.proposer _ by_turn ∙ c.let_in.ensures.under_way.last_proposer ∙ c.loop-front.invariant.last_proposer;
      quiet = quiet_then c.let_in.new.world c.turn.new.self c.args.proposer (turn_keeps _ c.let_in.new.world c.turn.new.self c.args.proposer _ by_turn) quiet;
    }

pub returns-in_err-turn-clause-told : goal.returns-in_err-turn-clause-told
returns-in_err-turn-clause-told g c asked proposed was =
    on_err_of c.from_residual.result (turn_fails _ c.let_in.new.world c.turn.new.self c.args.proposer asked proposed (c.let_in.ensures.under_way.plays c.args.proposer asked proposed (c.loop-front.invariant.plays asked proposed was))
    (as_refusal _ c.let_in.new.world c.turn.new.self c.args.proposer (quiet_near c.loop-front.world c.let_in.new.world c.args.proposer c.let_in.ensures.under_way c.loop-front.invariant.quiet) c.in_err-turn.ensures.err))

pub returns-in_err-turn-clause-fails : goal.returns-in_err-turn-clause-fails
returns-in_err-turn-clause-fails g c = on_err_of c.from_residual.result (λ by is.
    let before = c.loop-front.invariant.turned by is in
    let between = c.let_in.ensures.lets_in before.view before.is in
    let after = c.verdict-verdict.ensures.decides between.view between.is in
    record {
      view = after.view;
      is = after.is;
      has = turn_refused _ c.args.proposer c.args.world.now c.loop-front.world c.let_in.new.world c.turn.new.self c.front.result c.in-Some.front.0 c.in-Some.front.1 (in_front c.loop-front.world c.args.proposer c.loop-front.invariant.quiet c.front.ensures) c.in-Some.is
          c.let_in.ensures.under_way before.has between.has after.has (as_refusal _ c.let_in.new.world c.turn.new.self c.args.proposer (quiet_near c.loop-front.world c.let_in.new.world c.args.proposer c.let_in.ensures.under_way c.loop-front.invariant.quiet) c.in_err-turn.ensures.err);
    })

pub returns-clause-through : goal.returns-clause-through
returns-clause-through g c by is =
    let now = c.loop-front.invariant.turned by is in
    record {
      view = now.view;
      is = now.is;
      has = record {
        again = c.loop-front.again;
        turned = now.has;
        none_waits = none_waits (queue_at c.loop-front.world.flow c.args.proposer).messages c.front.result (in_front c.loop-front.world c.args.proposer c.loop-front.invariant.quiet c.front.ensures) c.in_default.is;
      };
    }
