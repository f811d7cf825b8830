use Rattle.std.proofs.Common.{sym, ap, subst, ◌∙◌}
use Rattle.std.specs.Prelude.{OnOk, IfErr}
use Rattle.cas_record.specs.declared.operator.Asked.TheVariants as asked
use Rattle.cas_board_steps.specs.Collection.Collecting.{IsTombstoneMark, IsCollectingMark, most_rounds}
use Rattle.cas_board_steps.specs.Calls.Changes.{harm_by}
use Rattle.cas_board_steps.specs.Exchanges.Orders.{OperatesIn, IsToldIn}
use Rattle.cas_board.proofs.Sittings.{was_held, gives_back}
use Rattle.cas_board.proofs.Operating.{operator_own, operator_goes_on, operator_told, operates_or_tells, on_ok, if_err}
use Rattle.cas_board.proofs.Collections.{course_held, course_then}
use Rattle.cas_board.proofs.board.Board.go_on_collecting_once.Goals as goal

pub go_on_collecting-next-requires-clause-at : goal.go_on_collecting-next-requires-clause-at
go_on_collecting-next-requires-clause-at g c =
    course_held c.args.collecting.key (most_rounds c.args.collecting.tries) c.args.collecting.course c.args.pass.now.number c.shared.inside.world c.hold-shared.result c.args.pass.now.own c.args.pass.now.seen c.requires.operator c.shared.view_is c.hold-shared.ensures.own c.hold-shared.ensures.seen c.requires.at

pub give_back-requires-clause-makes : goal.give_back-requires-clause-makes
give_back-requires-clause-makes g c =
    gives_back 0 c.hold-shared.result c.go_on_collecting-next.new.world c.args.pass.now c.hold-shared.new.seat c.hold-shared.ensures.seat (sym (ap (λ s. s.number) c.hold-shared.ensures.seat ∙ c.requires.operator))
    (operates_or_tells (asked.Collect c.args.collecting.key) (IsTombstoneMark c.args.collecting.key) (IsCollectingMark c.args.collecting.key (most_rounds c.args.collecting.tries)) (harm_by c.args.verdict) c.hold-shared.result c.go_on_collecting-next.new.world c.go_on_collecting-next.result (subst (λ v. OnOk c.go_on_collecting-next.result (OperatesIn (IsTombstoneMark c.args.collecting.key) (harm_by c.args.verdict) v c.go_on_collecting-next.new.world)) c.shared.view_is c.go_on_collecting-next.ensures.goes_on) (subst (λ v. IfErr c.go_on_collecting-next.result (IsToldIn (asked.Collect c.args.collecting.key) (IsCollectingMark c.args.collecting.key (most_rounds c.args.collecting.tries)) (harm_by c.args.verdict) v c.go_on_collecting-next.new.world)) c.shared.view_is c.go_on_collecting-next.ensures.told))

pub returns-clause-goes_on : goal.returns-clause-goes_on
returns-clause-goes_on g c =
    on_ok c.go_on_collecting-next.result (operator_goes_on c.hold-shared.result c.go_on_collecting-next.new.world c.args.pass.now c.give_back.new.pass (was_held 0 c.hold-shared.result c.go_on_collecting-next.new.world c.args.pass.now c.hold-shared.new.seat c.give_back.new.pass c.hold-shared.ensures.seen c.hold-shared.ensures.own c.hold-shared.ensures.seat (sym (ap (λ s. s.number) c.hold-shared.ensures.seat ∙ c.requires.operator)) c.give_back.ensures.pass) (IsTombstoneMark c.args.collecting.key) (harm_by c.args.verdict)) (subst (λ v. OnOk c.go_on_collecting-next.result (OperatesIn (IsTombstoneMark c.args.collecting.key) (harm_by c.args.verdict) v c.go_on_collecting-next.new.world)) c.shared.view_is c.go_on_collecting-next.ensures.goes_on)

pub returns-clause-at : goal.returns-clause-at
returns-clause-at g c =
    course_then c.args.collecting.key (most_rounds c.args.collecting.tries) c.go_on_collecting-next.result _ _ _ _ (operator_own c.hold-shared.result c.go_on_collecting-next.new.world c.args.pass.now c.give_back.new.pass (was_held 0 c.hold-shared.result c.go_on_collecting-next.new.world c.args.pass.now c.hold-shared.new.seat c.give_back.new.pass c.hold-shared.ensures.seen c.hold-shared.ensures.own c.hold-shared.ensures.seat (sym (ap (λ s. s.number) c.hold-shared.ensures.seat ∙ c.requires.operator)) c.give_back.ensures.pass)) (was_held 0 c.hold-shared.result c.go_on_collecting-next.new.world c.args.pass.now c.hold-shared.new.seat c.give_back.new.pass c.hold-shared.ensures.seen c.hold-shared.ensures.own c.hold-shared.ensures.seat (sym (ap (λ s. s.number) c.hold-shared.ensures.seat ∙ c.requires.operator)) c.give_back.ensures.pass).seen c.go_on_collecting-next.ensures.at

pub returns-clause-told : goal.returns-clause-told
returns-clause-told g c =
    if_err c.go_on_collecting-next.result (operator_told c.hold-shared.result c.go_on_collecting-next.new.world c.args.pass.now c.give_back.new.pass (was_held 0 c.hold-shared.result c.go_on_collecting-next.new.world c.args.pass.now c.hold-shared.new.seat c.give_back.new.pass c.hold-shared.ensures.seen c.hold-shared.ensures.own c.hold-shared.ensures.seat (sym (ap (λ s. s.number) c.hold-shared.ensures.seat ∙ c.requires.operator)) c.give_back.ensures.pass) (asked.Collect c.args.collecting.key) (IsCollectingMark c.args.collecting.key (most_rounds c.args.collecting.tries)) (harm_by c.args.verdict)) (subst (λ v. IfErr c.go_on_collecting-next.result (IsToldIn (asked.Collect c.args.collecting.key) (IsCollectingMark c.args.collecting.key (most_rounds c.args.collecting.tries)) (harm_by c.args.verdict) v c.go_on_collecting-next.new.world)) c.shared.view_is c.go_on_collecting-next.ensures.told)
