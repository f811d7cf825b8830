use Rattle.std.proofs.Common.{ap, ◌∙◌}
use Rattle.cas_world.specs.Eras.Plans.{asked_of}
use Rattle.cas_board_steps.specs.Eras.Membership.{IsPlanMark, IsRescanMark}
use Rattle.cas_board_steps.proofs.Calls.Tries.{rescan_within}
use Rattle.cas_board.proofs.Sittings.{counted_none}
use Rattle.cas_board.proofs.Operating.{on_ok, if_err, operated_less, told_less}
use Rattle.cas_board.proofs.Steps.{step_goes_on, step_tells}
use Rattle.cas_board.proofs.board.Board.take_step.Goals as goal

pub finish_step-requires-clause-operator : goal.finish_step-requires-clause-operator
finish_step-requires-clause-operator g c =
    ap (λ s. s.number) c.advance_once.ensures.pass ∙ c.requires.operator

pub finish_step-requires-clause-stands : goal.finish_step-requires-clause-stands
finish_step-requires-clause-stands g c =
    c.in-Ok.ensures.step

pub returns-in-Ok-clause-goes_on : goal.returns-in-Ok-clause-goes_on
returns-in-Ok-clause-goes_on g c =
    on_ok c.finish_step.result (step_goes_on IsPlanMark _ _ c.args.pass.now c.advance_once.new.pass c.finish_step.new.pass c.advance_once.ensures.pass c.finish_step.ensures.pass c.in-Ok.ensures.goes_on) c.finish_step.ensures.goes_on

pub returns-in-Ok-clause-told : goal.returns-in-Ok-clause-told
returns-in-Ok-clause-told g c =
    if_err c.finish_step.result (step_tells (IsRescanMark c.args.tries) _ _ c.args.pass.now c.advance_once.new.pass c.finish_step.new.pass c.advance_once.ensures.pass c.finish_step.ensures.pass (operated_less IsPlanMark (IsRescanMark c.args.tries) (rescan_within c.args.tries) (λ enters proposer era. tt) 0 c.args.pass.now c.advance_once.new.pass c.in-Ok.ensures.goes_on) (asked_of c.args.target.now)) c.finish_step.ensures.told

pub returns-in-Err-clause-told : goal.returns-in-Err-clause-told
returns-in-Err-clause-told g c =
    (0, counted_none (g.F.Fate.harm_count c.args.fate.now), told_less IsPlanMark (IsRescanMark c.args.tries) (rescan_within c.args.tries) (λ enters proposer era. tt) (asked_of c.args.target.now) 0 c.args.pass.now c.advance_once.new.pass c.in-Err.told c.in-Err.ensures.told)
