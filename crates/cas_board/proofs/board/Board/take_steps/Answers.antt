use Rattle.std.proofs.Common.{refl, ap, ◌∙◌}
use Rattle.cas_world.specs.Eras.Plans.{asked_of}
use Rattle.cas_board_steps.specs.Eras.Membership.{IsPlanMark, IsRescanMark}
use Rattle.cas_board_steps.proofs.Calls.Tries.{rescan_within}
use Rattle.cas_board.proofs.Passes.{still_pass}
use Rattle.cas_board.proofs.Operating.{order_runs, order_ran, order_goes_on, order_ends, run_less}
use Rattle.cas_board.proofs.Steps.{stays}
use Rattle.cas_board.proofs.board.Board.take_steps.Goals as goal

pub loop-init : goal.loop-init
loop-init g c =
    record { run = order_runs IsPlanMark (g.F.Fate.harm_count c.args.fate.now) c.args.pass.now; planned = c.requires.planned }

pub take_step-requires-clause-pass : goal.take_step-requires-clause-pass
take_step-requires-clause-pass g c =
    still_pass c.args.self.now c.args.pass.now c.loop.pass c.requires.pass c.loop.invariant.run.pass

pub take_step-requires-clause-operator : goal.take_step-requires-clause-operator
take_step-requires-clause-operator g c =
    ap (λ s. s.number) c.loop.invariant.run.pass ∙ c.requires.operator

pub take_step-requires-clause-planned : goal.take_step-requires-clause-planned
take_step-requires-clause-planned g c =
    c.loop.invariant.planned

pub returns-in-Err-clause-pass : goal.returns-in-Err-clause-pass
returns-in-Err-clause-pass g c =
    order_ran IsPlanMark _ _ c.args.pass.now c.loop.pass c.loop.pass c.loop.invariant.run refl c.in-Err.ensures.told.0 _ c.take_step.new.pass (stays c.loop.pass) c.in-Err.ensures.told.1 c.take_step.ensures.pass

pub returns-in-Err-clause-told : goal.returns-in-Err-clause-told
returns-in-Err-clause-told g c =
    order_ends (IsRescanMark c.args.tries) _ _ c.args.pass.now c.loop.pass c.loop.pass (run_less IsPlanMark (IsRescanMark c.args.tries) (rescan_within c.args.tries) (λ enters proposer era. tt) _ _ c.args.pass.now c.loop.pass c.loop.invariant.run) refl c.in-Err.ensures.told.0 _ c.take_step.new.pass (stays c.loop.pass) c.in-Err.ensures.told.1 c.take_step.ensures.pass (asked_of c.args.target.now) c.in-Err.told c.in-Err.ensures.told.2

pub loop-preserved : goal.loop-preserved
loop-preserved g c =
    record {
      run = order_goes_on IsPlanMark _ _ c.args.pass.now c.loop.pass c.loop.pass c.loop.invariant.run refl c.in-Ok.ensures.goes_on.0 _ c.take_step.new.pass (stays c.loop.pass) c.in-Ok.ensures.goes_on.1 c.take_step.ensures.pass c.in-Ok.ensures.goes_on.2;
      planned = c.in-Ok.ensures.planned;
    }
