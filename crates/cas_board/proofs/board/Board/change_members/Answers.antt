use Rattle.std.proofs.Common.{refl, ap, ◌∙◌}
use Rattle.cas_world.specs.Eras.Plans.{asked_of}
use Rattle.cas_board_steps.specs.Eras.Membership.{IsRescanMark}
use Rattle.cas_board.specs.Operations.{is_not_begun}
use Rattle.cas_board.proofs.Sittings.{counted_none}
use Rattle.cas_board.proofs.Operating.{told_behind, operates_told}
use Rattle.cas_board.proofs.board.Board.change_members.Goals as goal

pub carry_out-requires-clause-operator : goal.carry_out-requires-clause-operator
carry_out-requires-clause-operator g c =
    ap (λ s. s.number) c.order_members_once.ensures.pass ∙ c.requires.operator

pub returns-in-Ok-clause-free : goal.returns-in-Ok-clause-free
returns-in-Ok-clause-free g c =
    c.carry_out.ensures.told.2.is_free

pub returns-in-Ok-clause-operates : goal.returns-in-Ok-clause-operates
returns-in-Ok-clause-operates g c =
    operates_told (asked_of c.args.target.now) (IsRescanMark c.args.tries) c.carry_out.ensures.told.0 _ _ c.args.pass.now c.carry_out.new.pass c.carry_out.result c.carry_out.ensures.told.1
    (told_behind (asked_of c.args.target.now) (IsRescanMark c.args.tries) c.carry_out.ensures.told.0 c.args.pass.now c.order_members_once.new.pass c.carry_out.new.pass c.carry_out.result (ap (λ s. s.number) c.order_members_once.ensures.pass) c.order_members_once.ensures.front c.order_members_once.ensures.counted c.carry_out.ensures.told.2)

pub returns-in-Err-clause-free : goal.returns-in-Err-clause-free
returns-in-Err-clause-free g c =
    c.in-Err.ensures.refused.1

pub returns-in-Err-clause-operates : goal.returns-in-Err-clause-operates
returns-in-Err-clause-operates g c =
    is_not_begun c.in-Err.refusal c.in-Err.ensures.refused.0 refl (counted_none (g.F.Fate.harm_count c.args.fate.now)) c.order_members_once.ensures.front (λ enters. c.order_members_once.ensures.counted)
