use Rattle.std.proofs.Common.{[], length, sym, ap, subst, ◌∙◌}
use Rattle.cas_world.specs.Eras.Plans.{asked_of}
use Rattle.cas_board_steps.specs.Calls.Changes.{IsRefusalBehind}
use Rattle.cas_board_steps.specs.Kept.{Makes}
use Rattle.cas_board_steps.specs.Calls.Open.{NothingIsOpen}
use Rattle.cas_board_steps.specs.Exchanges.Orders.{HasOrder}
use Rattle.cas_board_steps.specs.OwnParts.{own_part}
use Rattle.cas_world.specs.Eras.Plans.{rescanned_of}
use Rattle.cas_board.proofs.Sittings.{was_held, gives_back}
use Rattle.cas_board.proofs.Operating.{operator_part, operator_made, operator_own, on_ok, if_err, still_counted}
use Rattle.cas_board.proofs.board.Board.order_members_once.Goals as goal

pub order_members-ordered-requires-clause-free : goal.order_members-ordered-requires-clause-free
order_members-ordered-requires-clause-free g c =
    subst NothingIsOpen (sym (operator_part c.args.pass.now.number c.shared.inside.world c.hold-shared.result c.args.pass.now.own c.requires.operator c.shared.view_is c.hold-shared.ensures.own)) c.requires.free

pub give_back-requires-clause-makes : goal.give_back-requires-clause-makes
give_back-requires-clause-makes g c =
    gives_back 0 c.hold-shared.result c.order_members-ordered.new.world c.args.pass.now c.hold-shared.new.seat c.hold-shared.ensures.seat (sym (ap (λ s. s.number) c.hold-shared.ensures.seat ∙ c.requires.operator))
    ([], subst (λ v. Makes 0 v c.order_members-ordered.new.world []) c.shared.view_is c.order_members-ordered.ensures.makes)

pub returns-clause-front : goal.returns-clause-front
returns-clause-front g c =
    operator_made c.hold-shared.result c.order_members-ordered.new.world c.args.pass.now c.give_back.new.pass (was_held 0 c.hold-shared.result c.order_members-ordered.new.world c.args.pass.now c.hold-shared.new.seat c.give_back.new.pass c.hold-shared.ensures.seen c.hold-shared.ensures.own c.hold-shared.ensures.seat (sym (ap (λ s. s.number) c.hold-shared.ensures.seat ∙ c.requires.operator)) c.give_back.ensures.pass) [] (subst (λ v. Makes 0 v c.order_members-ordered.new.world []) c.shared.view_is c.order_members-ordered.ensures.makes)

pub returns-clause-ordered : goal.returns-clause-ordered
returns-clause-ordered g c =
    on_ok c.order_members-ordered.result (subst (HasOrder (asked_of c.args.target.now)) (sym (operator_own c.hold-shared.result c.order_members-ordered.new.world c.args.pass.now c.give_back.new.pass (was_held 0 c.hold-shared.result c.order_members-ordered.new.world c.args.pass.now c.hold-shared.new.seat c.give_back.new.pass c.hold-shared.ensures.seen c.hold-shared.ensures.own c.hold-shared.ensures.seat (sym (ap (λ s. s.number) c.hold-shared.ensures.seat ∙ c.requires.operator)) c.give_back.ensures.pass)))) c.order_members-ordered.ensures.ordered

pub returns-clause-refused : goal.returns-clause-refused
returns-clause-refused g c =
    if_err {P = λ why. IsRefusalBehind (length c.order_members-ordered.new.world.marks) why × NothingIsOpen (own_part c.order_members-ordered.new.world 0)} c.order_members-ordered.result
    (λ why is. (subst (λ l. IsRefusalBehind (length l) why) (sym (ap (λ s. s.seen) c.give_back.ensures.pass)) is.0, subst NothingIsOpen (sym (operator_own c.hold-shared.result c.order_members-ordered.new.world c.args.pass.now c.give_back.new.pass (was_held 0 c.hold-shared.result c.order_members-ordered.new.world c.args.pass.now c.hold-shared.new.seat c.give_back.new.pass c.hold-shared.ensures.seen c.hold-shared.ensures.own c.hold-shared.ensures.seat (sym (ap (λ s. s.number) c.hold-shared.ensures.seat ∙ c.requires.operator)) c.give_back.ensures.pass))) is.1)) c.order_members-ordered.ensures.refused

pub returns-clause-counted : goal.returns-clause-counted
returns-clause-counted g c =
    still_counted c.hold-shared.result c.order_members-ordered.new.world c.args.pass.now c.give_back.new.pass (was_held 0 c.hold-shared.result c.order_members-ordered.new.world c.args.pass.now c.hold-shared.new.seat c.give_back.new.pass c.hold-shared.ensures.seen c.hold-shared.ensures.own c.hold-shared.ensures.seat (sym (ap (λ s. s.number) c.hold-shared.ensures.seat ∙ c.requires.operator)) c.give_back.ensures.pass) (c.order_members-ordered.ensures.counted ∙ ap (λ v. rescanned_of v.council.plan) c.shared.view_is)
