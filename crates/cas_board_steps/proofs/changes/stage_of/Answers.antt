use Rattle.std.proofs.Common.{sym, ◌∙◌}
use Rattle.cas_board_steps.proofs.Calls.Stages.{is_through, is_idle}
use Rattle.cas_board_steps.proofs.changes.stage_of.Goals as goal

pub returns-then-is_some : goal.returns-then-is_some
returns-then-is_some g c = (c.first_frame.ensures.none c.in-None.is, is_through c.args.world.now c.args.caller c.verdict.result c.verdict.ensures (sym c.is_some.ensures ∙ c.if-is_some.true))

pub returns-else-is_some : goal.returns-else-is_some
returns-else-is_some g c = (c.first_frame.ensures.none c.in-None.is, is_idle c.args.world.now c.args.caller c.verdict.result c.verdict.ensures (sym c.is_some.ensures ∙ c.if-is_some.false))
