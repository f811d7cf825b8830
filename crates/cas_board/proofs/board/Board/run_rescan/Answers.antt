use Rattle.std.proofs.Common.{sym, ap, subst, ◌∙◌}
use Rattle.std.proofs.lemmas.Bool.{ltb-true, ltb-false}
use Rattle.cas_world.specs.Eras.Plans.{asked_of}
use Rattle.cas_board_steps.specs.Calls.Changes.{harm_by}
use Rattle.cas_board_steps.specs.Eras.Membership.{HasRescan, RoundsAreKept, IsRescannedTo, IsPlanMark, IsRescanMark}
use Rattle.cas_board_steps.specs.Calls.Stages.{tells_met}
use Rattle.cas_board_steps.proofs.Calls.Tries.{rescan_within}
use Rattle.cas_board.proofs.Passes.{still_pass}
use Rattle.cas_board.proofs.Sittings.{rounds_spent, tried_asked, tried_on}
use Rattle.cas_board.proofs.Operating.{order_runs, order_pass, order_number, order_own, order_ran, order_goes_on, order_ends, run_less}
use Rattle.cas_board.proofs.Steps.{wanted_still, run_step, not_counted}
use Rattle.cas_board.proofs.board.Board.run_rescan.Goals as goal

pub verdict_at-verdict-requires : goal.verdict_at-verdict-requires
verdict_at-verdict-requires g c =
    record { pass = still_pass c.args.self.now c.args.pass.now c.loop.pass c.requires.pass c.loop.invariant.run.pass }

pub rescan_on_once-requires-clause-pass : goal.rescan_on_once-requires-clause-pass
rescan_on_once-requires-clause-pass g c =
    order_pass IsPlanMark _ _ c.args.pass.now c.loop.pass c.verdict_at-verdict.new.pass c.loop.invariant.run c.verdict_at-verdict.ensures.pass c.args.self.now c.requires.pass

pub rescan_on_once-requires-clause-operator : goal.rescan_on_once-requires-clause-operator
rescan_on_once-requires-clause-operator g c =
    order_number IsPlanMark _ _ c.args.pass.now c.loop.pass c.verdict_at-verdict.new.pass c.loop.invariant.run c.verdict_at-verdict.ensures.pass ∙ c.requires.operator

pub returns-in-Ok-Counted-clause-pass : goal.returns-in-Ok-Counted-clause-pass
returns-in-Ok-Counted-clause-pass g c =
    order_ran IsPlanMark _ _ c.args.pass.now c.loop.pass c.verdict_at-verdict.new.pass c.loop.invariant.run c.verdict_at-verdict.ensures.pass (harm_by c.verdict_at-verdict.result) _ c.rescan_on_once.new.pass c.verdict_at-verdict.ensures.front c.verdict_at-verdict.ensures.counted c.rescan_on_once.ensures.pass

pub returns-in-Ok-Counted-clause-goes_on : goal.returns-in-Ok-Counted-clause-goes_on
returns-in-Ok-Counted-clause-goes_on g c =
    run_step IsPlanMark _ _ c.args.pass.now c.rescan_on_once.new.pass (order_goes_on IsPlanMark _ _ c.args.pass.now c.loop.pass c.verdict_at-verdict.new.pass c.loop.invariant.run c.verdict_at-verdict.ensures.pass (harm_by c.verdict_at-verdict.result) _ c.rescan_on_once.new.pass c.verdict_at-verdict.ensures.front c.verdict_at-verdict.ensures.counted c.rescan_on_once.ensures.pass c.in-Ok-Counted.ensures.goes_on)

pub returns-in-Err-clause-pass : goal.returns-in-Err-clause-pass
returns-in-Err-clause-pass g c =
    order_ran IsPlanMark _ _ c.args.pass.now c.loop.pass c.verdict_at-verdict.new.pass c.loop.invariant.run c.verdict_at-verdict.ensures.pass (harm_by c.verdict_at-verdict.result) _ c.rescan_on_once.new.pass c.verdict_at-verdict.ensures.front c.verdict_at-verdict.ensures.counted c.rescan_on_once.ensures.pass

pub returns-in-Err-clause-told : goal.returns-in-Err-clause-told
returns-in-Err-clause-told g c =
    order_ends (IsRescanMark c.args.tries) _ _ c.args.pass.now c.loop.pass c.verdict_at-verdict.new.pass (run_less IsPlanMark (IsRescanMark c.args.tries) (rescan_within c.args.tries) (λ enters proposer era. tt) _ _ c.args.pass.now c.loop.pass c.loop.invariant.run) c.verdict_at-verdict.ensures.pass (harm_by c.verdict_at-verdict.result) _ c.rescan_on_once.new.pass c.verdict_at-verdict.ensures.front c.verdict_at-verdict.ensures.counted c.rescan_on_once.ensures.pass (asked_of c.args.target.now) c.in-Err.told
    (c.in-Err.ensures.told c.args.tries (λ no_more. rounds_spent c.args.tries c.loop.rounds (tells_met c.loop.stage) c.verdict_at-verdict.new.pass.own (tried_asked c.args.tries c.loop.rounds (tells_met c.loop.stage) c.loop.pass c.verdict_at-verdict.new.pass c.verdict_at-verdict.ensures.pass c.loop.invariant.tried) c.rounds_with-rounds.result c.rounds_with-rounds.ensures (ltb-false _ _ no_more)))

pub loop-init : goal.loop-init
loop-init g c =
    record { run = order_runs IsPlanMark (g.F.Fate.harm_count c.args.fate.now) c.args.pass.now; rescans = c.requires.rescans; wanted = c.requires.wanted; tried = record { counted = c.requires.first.first; tells = c.requires.first.unmet ∙ sym c.requires.first.fresh; within = c.requires.some; more = λ met. absurd (cc (c.requires.first.fresh, met)) } }

pub rescan_on_once-requires-clause-rescans : goal.rescan_on_once-requires-clause-rescans
rescan_on_once-requires-clause-rescans g c =
    subst (HasRescan (asked_of c.args.target.now) c.args.rescan.begun.call c.args.rescan.key) (sym (order_own IsPlanMark _ _ c.args.pass.now c.loop.pass c.verdict_at-verdict.new.pass c.loop.invariant.run c.verdict_at-verdict.ensures.pass)) c.loop.invariant.rescans

pub rescan_on_once-requires-clause-wanted : goal.rescan_on_once-requires-clause-wanted
rescan_on_once-requires-clause-wanted g c =
    wanted_still c.loop.pass.number c.loop.pass.seen c.verdict_at-verdict.new.pass.seen (ap (λ s. s.number) c.loop.invariant.run.pass ∙ c.requires.operator) c.verdict_at-verdict.ensures.wanted ∙ c.loop.invariant.wanted

pub returns-in-Ok-Counted-clause-planned : goal.returns-in-Ok-Counted-clause-planned
returns-in-Ok-Counted-clause-planned g c =
    subst (IsRescannedTo (asked_of c.args.target.now) c.args.rescan.begun.call c.args.rescan.key c.rescan_on_once.new.pass.own) c.in-Ok-Counted.field-0-is c.in-Ok-Counted.ensures.rescans

pub loop-preserved : goal.loop-preserved
loop-preserved g c =
    let kept = subst (RoundsAreKept _ c.verdict_at-verdict.new.pass.own c.rescan_on_once.new.pass.own) c.in-Ok-Goes.field-0-is c.in-Ok-Goes.ensures.rounds in
    record {
      run = order_goes_on IsPlanMark _ _ c.args.pass.now c.loop.pass c.verdict_at-verdict.new.pass c.loop.invariant.run c.verdict_at-verdict.ensures.pass (harm_by c.verdict_at-verdict.result) _ c.rescan_on_once.new.pass c.verdict_at-verdict.ensures.front c.verdict_at-verdict.ensures.counted c.rescan_on_once.ensures.pass c.in-Ok-Goes.ensures.goes_on;
      rescans = subst (IsRescannedTo (asked_of c.args.target.now) c.args.rescan.begun.call c.args.rescan.key c.rescan_on_once.new.pass.own) c.in-Ok-Goes.field-0-is c.in-Ok-Goes.ensures.rescans;
      wanted = c.in-Ok-Goes.ensures.wanted (not_counted c.in-Ok-Goes.field-0 c.in-Ok-Goes.next c.in-Ok-Goes.field-0-is) ∙ wanted_still c.loop.pass.number c.loop.pass.seen c.verdict_at-verdict.new.pass.seen (ap (λ s. s.number) c.loop.invariant.run.pass ∙ c.requires.operator) c.verdict_at-verdict.ensures.wanted ∙ c.loop.invariant.wanted;
      tried = tried_on c.args.tries c.loop.rounds (tells_met c.loop.stage) c.verdict_at-verdict.new.pass.own (tried_asked c.args.tries c.loop.rounds (tells_met c.loop.stage) c.loop.pass c.verdict_at-verdict.new.pass c.verdict_at-verdict.ensures.pass c.loop.invariant.tried)
          c.rounds_with-rounds.result (tells_met c.in-Ok-Goes.next) c.rescan_on_once.new.pass.own c.rounds_with-rounds.ensures kept.rounds kept.met (λ met. ltb-true _ _ (kept.repeats met));
    }
