use Rattle.std.proofs.Common.{sym, subst, ◌∙◌}
use Rattle.cas_world.specs.Eras.Plans.{asked_of}
use Rattle.cas_board_steps.specs.Calls.Changes.{harm_by}
use Rattle.cas_board_steps.specs.Eras.Membership.{HasListing, IsListedTo, IsPlanMark}
use Rattle.cas_board.proofs.Passes.{still_pass}
use Rattle.cas_board.proofs.Operating.{order_runs, order_pass, order_number, order_own, order_ran, order_goes_on, order_ends}
use Rattle.cas_board.proofs.Steps.{run_step}
use Rattle.cas_board.proofs.board.Board.run_listing.Goals as goal

pub verdict_for-verdict-requires : goal.verdict_for-verdict-requires
verdict_for-verdict-requires g c =
    record { pass = still_pass c.args.self.now c.args.pass.now c.loop.pass c.requires.pass c.loop.invariant.run.pass }

pub list_on_once-requires-clause-pass : goal.list_on_once-requires-clause-pass
list_on_once-requires-clause-pass g c =
    order_pass IsPlanMark _ _ c.args.pass.now c.loop.pass c.verdict_for-verdict.new.pass c.loop.invariant.run c.verdict_for-verdict.ensures.pass c.args.self.now c.requires.pass

pub list_on_once-requires-clause-operator : goal.list_on_once-requires-clause-operator
list_on_once-requires-clause-operator g c =
    order_number IsPlanMark _ _ c.args.pass.now c.loop.pass c.verdict_for-verdict.new.pass c.loop.invariant.run c.verdict_for-verdict.ensures.pass ∙ c.requires.operator

pub returns-in-Ok-Over-clause-pass : goal.returns-in-Ok-Over-clause-pass
returns-in-Ok-Over-clause-pass g c =
    order_ran IsPlanMark _ _ c.args.pass.now c.loop.pass c.verdict_for-verdict.new.pass c.loop.invariant.run c.verdict_for-verdict.ensures.pass (harm_by c.verdict_for-verdict.result) _ c.list_on_once.new.pass c.verdict_for-verdict.ensures.front c.verdict_for-verdict.ensures.counted c.list_on_once.ensures.pass

pub returns-in-Ok-Over-clause-goes_on : goal.returns-in-Ok-Over-clause-goes_on
returns-in-Ok-Over-clause-goes_on g c =
    run_step IsPlanMark _ _ c.args.pass.now c.list_on_once.new.pass (order_goes_on IsPlanMark _ _ c.args.pass.now c.loop.pass c.verdict_for-verdict.new.pass c.loop.invariant.run c.verdict_for-verdict.ensures.pass (harm_by c.verdict_for-verdict.result) _ c.list_on_once.new.pass c.verdict_for-verdict.ensures.front c.verdict_for-verdict.ensures.counted c.list_on_once.ensures.pass c.in-Ok-Over.ensures.goes_on)

pub returns-in-Err-clause-pass : goal.returns-in-Err-clause-pass
returns-in-Err-clause-pass g c =
    order_ran IsPlanMark _ _ c.args.pass.now c.loop.pass c.verdict_for-verdict.new.pass c.loop.invariant.run c.verdict_for-verdict.ensures.pass (harm_by c.verdict_for-verdict.result) _ c.list_on_once.new.pass c.verdict_for-verdict.ensures.front c.verdict_for-verdict.ensures.counted c.list_on_once.ensures.pass

pub returns-in-Err-clause-told : goal.returns-in-Err-clause-told
returns-in-Err-clause-told g c =
    order_ends IsPlanMark _ _ c.args.pass.now c.loop.pass c.verdict_for-verdict.new.pass c.loop.invariant.run c.verdict_for-verdict.ensures.pass (harm_by c.verdict_for-verdict.result) _ c.list_on_once.new.pass c.verdict_for-verdict.ensures.front c.verdict_for-verdict.ensures.counted c.list_on_once.ensures.pass (asked_of c.args.target.now) c.in-Err.told c.in-Err.ensures.told

pub loop-init : goal.loop-init
loop-init g c =
    record { run = order_runs IsPlanMark (g.F.Fate.harm_count c.args.fate.now) c.args.pass.now; lists = c.requires.lists }

pub list_on_once-requires-clause-lists : goal.list_on_once-requires-clause-lists
list_on_once-requires-clause-lists g c =
    subst (HasListing (asked_of c.args.target.now)) (sym (order_own IsPlanMark _ _ c.args.pass.now c.loop.pass c.verdict_for-verdict.new.pass c.loop.invariant.run c.verdict_for-verdict.ensures.pass)) c.loop.invariant.lists

pub returns-in-Ok-Over-clause-planned : goal.returns-in-Ok-Over-clause-planned
returns-in-Ok-Over-clause-planned g c =
    subst (IsListedTo (asked_of c.args.target.now) c.list_on_once.new.pass.own) c.in-Ok-Over.field-0-is c.in-Ok-Over.ensures.listed

pub loop-preserved : goal.loop-preserved
loop-preserved g c =
    record { run = order_goes_on IsPlanMark _ _ c.args.pass.now c.loop.pass c.verdict_for-verdict.new.pass c.loop.invariant.run c.verdict_for-verdict.ensures.pass (harm_by c.verdict_for-verdict.result) _ c.list_on_once.new.pass c.verdict_for-verdict.ensures.front c.verdict_for-verdict.ensures.counted c.list_on_once.ensures.pass c.in-Ok-Waits.ensures.goes_on; lists = subst (IsListedTo (asked_of c.args.target.now) c.list_on_once.new.pass.own) c.in-Ok-Waits.field-0-is c.in-Ok-Waits.ensures.listed }
