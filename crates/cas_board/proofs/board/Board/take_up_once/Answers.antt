use Rattle.std.proofs.Common.{[], sym, ap, subst, ◌∙◌}
use Rattle.std.specs.Prelude.{OnOk, IfErr}
use Rattle.cas_world.specs.Eras.Plans.{asked_of}
use Rattle.cas_board_steps.specs.Kept.{Makes}
use Rattle.cas_board_steps.specs.Eras.Membership.{HasPlan, IsPlanMark}
use Rattle.cas_board_steps.specs.Exchanges.Orders.{HasOrder, IsToldIn}
use Rattle.cas_world.specs.Eras.Plans.{rescanned_of}
use Rattle.cas_board.proofs.Sittings.{was_held, gives_back}
use Rattle.cas_board.proofs.Operating.{operator_part, operator_made, operator_own, operator_told, asks_or_tells, on_ok, if_err, still_counted}
use Rattle.cas_board.proofs.board.Board.take_up_once.Goals as goal

pub take_up-taken_up-requires-clause-ordered : goal.take_up-taken_up-requires-clause-ordered
take_up-taken_up-requires-clause-ordered g c =
    subst (HasOrder (asked_of c.args.target.now)) (sym (operator_part c.args.pass.now.number c.shared.inside.world c.hold-shared.result c.args.pass.now.own c.requires.operator c.shared.view_is c.hold-shared.ensures.own)) c.requires.ordered

pub give_back-requires-clause-makes : goal.give_back-requires-clause-makes
give_back-requires-clause-makes g c =
    gives_back 0 c.hold-shared.result c.take_up-taken_up.new.world c.args.pass.now c.hold-shared.new.seat c.hold-shared.ensures.seat (sym (ap (λ s. s.number) c.hold-shared.ensures.seat ∙ c.requires.operator))
    (asks_or_tells (asked_of c.args.target.now) IsPlanMark 0 c.hold-shared.result c.take_up-taken_up.new.world c.take_up-taken_up.result (subst (λ v. OnOk c.take_up-taken_up.result (Makes 0 v c.take_up-taken_up.new.world [])) c.shared.view_is c.take_up-taken_up.ensures.makes) (subst (λ v. IfErr c.take_up-taken_up.result (IsToldIn (asked_of c.args.target.now) IsPlanMark 0 v c.take_up-taken_up.new.world)) c.shared.view_is c.take_up-taken_up.ensures.told))

pub returns-clause-front : goal.returns-clause-front
returns-clause-front g c =
    on_ok c.take_up-taken_up.result (operator_made c.hold-shared.result c.take_up-taken_up.new.world c.args.pass.now c.give_back.new.pass (was_held 0 c.hold-shared.result c.take_up-taken_up.new.world c.args.pass.now c.hold-shared.new.seat c.give_back.new.pass c.hold-shared.ensures.seen c.hold-shared.ensures.own c.hold-shared.ensures.seat (sym (ap (λ s. s.number) c.hold-shared.ensures.seat ∙ c.requires.operator)) c.give_back.ensures.pass) []) (subst (λ v. OnOk c.take_up-taken_up.result (Makes 0 v c.take_up-taken_up.new.world [])) c.shared.view_is c.take_up-taken_up.ensures.makes)

pub returns-clause-planned : goal.returns-clause-planned
returns-clause-planned g c =
    on_ok c.take_up-taken_up.result (subst (HasPlan (asked_of c.args.target.now)) (sym (operator_own c.hold-shared.result c.take_up-taken_up.new.world c.args.pass.now c.give_back.new.pass (was_held 0 c.hold-shared.result c.take_up-taken_up.new.world c.args.pass.now c.hold-shared.new.seat c.give_back.new.pass c.hold-shared.ensures.seen c.hold-shared.ensures.own c.hold-shared.ensures.seat (sym (ap (λ s. s.number) c.hold-shared.ensures.seat ∙ c.requires.operator)) c.give_back.ensures.pass)))) c.take_up-taken_up.ensures.planned

pub returns-clause-told : goal.returns-clause-told
returns-clause-told g c =
    if_err c.take_up-taken_up.result (operator_told c.hold-shared.result c.take_up-taken_up.new.world c.args.pass.now c.give_back.new.pass (was_held 0 c.hold-shared.result c.take_up-taken_up.new.world c.args.pass.now c.hold-shared.new.seat c.give_back.new.pass c.hold-shared.ensures.seen c.hold-shared.ensures.own c.hold-shared.ensures.seat (sym (ap (λ s. s.number) c.hold-shared.ensures.seat ∙ c.requires.operator)) c.give_back.ensures.pass) (asked_of c.args.target.now) IsPlanMark 0) (subst (λ v. IfErr c.take_up-taken_up.result (IsToldIn (asked_of c.args.target.now) IsPlanMark 0 v c.take_up-taken_up.new.world)) c.shared.view_is c.take_up-taken_up.ensures.told)

pub returns-clause-counted : goal.returns-clause-counted
returns-clause-counted g c =
    on_ok c.take_up-taken_up.result (λ same. still_counted c.hold-shared.result c.take_up-taken_up.new.world c.args.pass.now c.give_back.new.pass (was_held 0 c.hold-shared.result c.take_up-taken_up.new.world c.args.pass.now c.hold-shared.new.seat c.give_back.new.pass c.hold-shared.ensures.seen c.hold-shared.ensures.own c.hold-shared.ensures.seat (sym (ap (λ s. s.number) c.hold-shared.ensures.seat ∙ c.requires.operator)) c.give_back.ensures.pass) (same ∙ ap (λ v. rescanned_of v.council.plan) c.shared.view_is)) c.take_up-taken_up.ensures.counted
