use Rattle.std.proofs.Common.{sym, ap, subst, ◌∙◌}
use Rattle.std.specs.Prelude.{OnOk, IfErr}
use Rattle.cas_world.specs.Eras.Plans.{asked_of}
use Rattle.cas_board_steps.specs.Eras.Membership.{HasPlan, IsPlanMark}
use Rattle.cas_board_steps.specs.Exchanges.Orders.{OperatesIn, IsToldIn}
use Rattle.cas_board_steps.specs.OwnParts.{own_part}
use Rattle.cas_board.proofs.Sittings.{was_held, gives_back}
use Rattle.cas_board.proofs.Operating.{operator_part, operator_own, operator_goes_on, operator_told, operates_or_tells, on_ok, if_err}
use Rattle.cas_board.proofs.Steps.{stands_then}
use Rattle.cas_board.proofs.board.Board.advance_once.Goals as goal

pub advance-step-requires-clause-planned : goal.advance-step-requires-clause-planned
advance-step-requires-clause-planned g c =
    subst (HasPlan (asked_of c.args.target.now)) (sym (operator_part c.args.pass.now.number c.shared.inside.world c.hold-shared.result c.args.pass.now.own c.requires.operator c.shared.view_is c.hold-shared.ensures.own)) c.requires.planned

pub give_back-requires-clause-makes : goal.give_back-requires-clause-makes
give_back-requires-clause-makes g c =
    gives_back 0 c.hold-shared.result c.advance-step.new.world c.args.pass.now c.hold-shared.new.seat c.hold-shared.ensures.seat (sym (ap (λ s. s.number) c.hold-shared.ensures.seat ∙ c.requires.operator))
    (operates_or_tells (asked_of c.args.target.now) IsPlanMark IsPlanMark 0 c.hold-shared.result c.advance-step.new.world c.advance-step.result (subst (λ v. OnOk c.advance-step.result (OperatesIn IsPlanMark 0 v c.advance-step.new.world)) c.shared.view_is c.advance-step.ensures.goes_on) (subst (λ v. IfErr c.advance-step.result (IsToldIn (asked_of c.args.target.now) IsPlanMark 0 v c.advance-step.new.world)) c.shared.view_is c.advance-step.ensures.told))

pub returns-clause-goes_on : goal.returns-clause-goes_on
returns-clause-goes_on g c =
    on_ok c.advance-step.result (operator_goes_on c.hold-shared.result c.advance-step.new.world c.args.pass.now c.give_back.new.pass (was_held 0 c.hold-shared.result c.advance-step.new.world c.args.pass.now c.hold-shared.new.seat c.give_back.new.pass c.hold-shared.ensures.seen c.hold-shared.ensures.own c.hold-shared.ensures.seat (sym (ap (λ s. s.number) c.hold-shared.ensures.seat ∙ c.requires.operator)) c.give_back.ensures.pass) IsPlanMark 0) (subst (λ v. OnOk c.advance-step.result (OperatesIn IsPlanMark 0 v c.advance-step.new.world)) c.shared.view_is c.advance-step.ensures.goes_on)

pub returns-clause-step : goal.returns-clause-step
returns-clause-step g c =
    stands_then (asked_of c.args.target.now) c.advance-step.result c.give_back.new.pass.own (own_part c.advance-step.new.world 0) c.give_back.new.pass.seen c.advance-step.new.world.marks (operator_own c.hold-shared.result c.advance-step.new.world c.args.pass.now c.give_back.new.pass (was_held 0 c.hold-shared.result c.advance-step.new.world c.args.pass.now c.hold-shared.new.seat c.give_back.new.pass c.hold-shared.ensures.seen c.hold-shared.ensures.own c.hold-shared.ensures.seat (sym (ap (λ s. s.number) c.hold-shared.ensures.seat ∙ c.requires.operator)) c.give_back.ensures.pass)) (was_held 0 c.hold-shared.result c.advance-step.new.world c.args.pass.now c.hold-shared.new.seat c.give_back.new.pass c.hold-shared.ensures.seen c.hold-shared.ensures.own c.hold-shared.ensures.seat (sym (ap (λ s. s.number) c.hold-shared.ensures.seat ∙ c.requires.operator)) c.give_back.ensures.pass).seen c.advance-step.ensures.step

pub returns-clause-told : goal.returns-clause-told
returns-clause-told g c =
    if_err c.advance-step.result (operator_told c.hold-shared.result c.advance-step.new.world c.args.pass.now c.give_back.new.pass (was_held 0 c.hold-shared.result c.advance-step.new.world c.args.pass.now c.hold-shared.new.seat c.give_back.new.pass c.hold-shared.ensures.seen c.hold-shared.ensures.own c.hold-shared.ensures.seat (sym (ap (λ s. s.number) c.hold-shared.ensures.seat ∙ c.requires.operator)) c.give_back.ensures.pass) (asked_of c.args.target.now) IsPlanMark 0) (subst (λ v. IfErr c.advance-step.result (IsToldIn (asked_of c.args.target.now) IsPlanMark 0 v c.advance-step.new.world)) c.shared.view_is c.advance-step.ensures.told)
