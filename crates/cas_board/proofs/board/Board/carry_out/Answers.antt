use Rattle.std.proofs.Common.{ap, ◌∙◌}
use Rattle.cas_world.specs.Eras.Plans.{asked_of}
use Rattle.cas_board_steps.specs.Eras.Membership.{IsPlanMark, IsRescanMark}
use Rattle.cas_board_steps.proofs.Calls.Tries.{rescan_within}
use Rattle.cas_board.proofs.Sittings.{counted_none}
use Rattle.cas_board.proofs.Operating.{told_behind, told_less}
use Rattle.cas_board.proofs.board.Board.carry_out.Goals as goal

pub take_steps-requires-clause-operator : goal.take_steps-requires-clause-operator
take_steps-requires-clause-operator g c =
    ap (λ s. s.number) c.take_up_once.ensures.pass ∙ c.requires.operator

pub returns-in-Ok-clause-told : goal.returns-in-Ok-clause-told
returns-in-Ok-clause-told g c = (
  c.take_steps.ensures.told.0,
  c.take_steps.ensures.told.1,
  told_behind (asked_of c.args.target.now) (IsRescanMark c.args.tries) c.take_steps.ensures.told.0 c.args.pass.now c.take_up_once.new.pass c.take_steps.new.pass c.take_steps.result (ap (λ s. s.number) c.take_up_once.ensures.pass) c.in-Ok.ensures.front c.in-Ok.ensures.counted c.take_steps.ensures.told.2,
)

pub returns-in-Err-clause-told : goal.returns-in-Err-clause-told
returns-in-Err-clause-told g c =
    (0, counted_none (g.F.Fate.harm_count c.args.fate.now), told_less IsPlanMark (IsRescanMark c.args.tries) (rescan_within c.args.tries) (λ enters proposer era. tt) (asked_of c.args.target.now) 0 c.args.pass.now c.take_up_once.new.pass c.in-Err.told c.in-Err.ensures.told)
