use Rattle.std.proofs.Common.{sym, ◌∙◌}
use Rattle.cas_board_steps.proofs.Eras.Plans.{none_settled, made_none}
use Rattle.cas_board_steps.proofs.membership.settle.Goals as goal

pub list-requires-clause-partial : goal.list-requires-clause-partial
list-requires-clause-partial g c = none_settled c.settle_key.result (sym c.is_some.ensures ∙ c.if-is_some.false) c.settle_key.ensures.none

pub returns-in-Ok-clause-goes_on : goal.returns-in-Ok-clause-goes_on
returns-in-Ok-clause-goes_on g c = made_none 0 c.args.world.now c.list.new.world c.in-Ok.ensures.makes c.in-Ok.ensures.counted
