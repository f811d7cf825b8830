use Rattle.std.proofs.Common.{length, [], sym, ap, subst, ◌∙◌}
use Rattle.std.specs.Prelude.{OnOk, IfErr}
use Rattle.cas_model.specs.Exchanges.Step.{everyone}
use Rattle.cas_world.specs.Eras.Plans.{rescanned_of}
use Rattle.cas_board_steps.specs.Kept.{Makes}
use Rattle.cas_board_steps.specs.Exchanges.Orders.{asked_for, HasHarms, HasProbe, IsOrderOf, IsToldIn, IsAskingHarm, WasAskedBehind}
use Rattle.cas_board.proofs.Sittings.{was_held, gives_back}
use Rattle.cas_board.proofs.Operating.{operator_part, operator_made, operator_own, operator_told, asks_or_tells, everyone_set, asked_earlier, seen_of, on_ok, if_err, still_counted}
use Rattle.cas_board.proofs.board.Board.ask_probe_once.Goals as goal

pub ask_probe-probing-requires-clause-order : goal.ask_probe-probing-requires-clause-order
ask_probe-probing-requires-clause-order g c = subst (IsOrderOf c.args.order.inquiry c.args.order.key c.args.order) (sym (operator_part c.args.pass.now.number c.shared.inside.world c.hold-shared.result c.args.pass.now.own c.requires.operator c.shared.view_is c.hold-shared.ensures.own)) c.requires.order

pub give_back-requires-clause-makes : goal.give_back-requires-clause-makes
give_back-requires-clause-makes g c =
    gives_back 0 c.hold-shared.result c.ask_probe-probing.new.world c.args.pass.now c.hold-shared.new.seat c.hold-shared.ensures.seat (sym (ap (λ s. s.number) c.hold-shared.ensures.seat ∙ c.requires.operator))
    (asks_or_tells (asked_for c.args.order.inquiry c.args.order.key) IsAskingHarm 0 c.hold-shared.result c.ask_probe-probing.new.world c.ask_probe-probing.result (subst (λ v. OnOk c.ask_probe-probing.result (Makes 0 v c.ask_probe-probing.new.world [])) c.shared.view_is c.ask_probe-probing.ensures.makes) (subst (λ v. IfErr c.ask_probe-probing.result (IsToldIn (asked_for c.args.order.inquiry c.args.order.key) IsAskingHarm 0 v c.ask_probe-probing.new.world)) c.shared.view_is c.ask_probe-probing.ensures.told))

pub returns-clause-front : goal.returns-clause-front
returns-clause-front g c = on_ok c.ask_probe-probing.result (operator_made c.hold-shared.result c.ask_probe-probing.new.world c.args.pass.now c.give_back.new.pass (was_held 0 c.hold-shared.result c.ask_probe-probing.new.world c.args.pass.now c.hold-shared.new.seat c.give_back.new.pass c.hold-shared.ensures.seen c.hold-shared.ensures.own c.hold-shared.ensures.seat (sym (ap (λ s. s.number) c.hold-shared.ensures.seat ∙ c.requires.operator)) c.give_back.ensures.pass) []) (subst (λ v. OnOk c.ask_probe-probing.result (Makes 0 v c.ask_probe-probing.new.world [])) c.shared.view_is c.ask_probe-probing.ensures.makes)

pub returns-clause-asks : goal.returns-clause-asks
returns-clause-asks g c =
    on_ok c.ask_probe-probing.result (λ has. (everyone c.shared.inside.world, everyone_set c.shared.inside.world, subst (HasProbe c.args.order.inquiry c.args.order.key (everyone c.shared.inside.world)) (sym (operator_own c.hold-shared.result c.ask_probe-probing.new.world c.args.pass.now c.give_back.new.pass (was_held 0 c.hold-shared.result c.ask_probe-probing.new.world c.args.pass.now c.hold-shared.new.seat c.give_back.new.pass c.hold-shared.ensures.seen c.hold-shared.ensures.own c.hold-shared.ensures.seat (sym (ap (λ s. s.number) c.hold-shared.ensures.seat ∙ c.requires.operator)) c.give_back.ensures.pass))) has)) c.ask_probe-probing.ensures.asks

pub returns-clause-told : goal.returns-clause-told
returns-clause-told g c = if_err c.ask_probe-probing.result (operator_told c.hold-shared.result c.ask_probe-probing.new.world c.args.pass.now c.give_back.new.pass (was_held 0 c.hold-shared.result c.ask_probe-probing.new.world c.args.pass.now c.hold-shared.new.seat c.give_back.new.pass c.hold-shared.ensures.seen c.hold-shared.ensures.own c.hold-shared.ensures.seat (sym (ap (λ s. s.number) c.hold-shared.ensures.seat ∙ c.requires.operator)) c.give_back.ensures.pass) (asked_for c.args.order.inquiry c.args.order.key) IsAskingHarm 0) (subst (λ v. IfErr c.ask_probe-probing.result (IsToldIn (asked_for c.args.order.inquiry c.args.order.key) IsAskingHarm 0 v c.ask_probe-probing.new.world)) c.shared.view_is c.ask_probe-probing.ensures.told)

pub returns-clause-harms : goal.returns-clause-harms
returns-clause-harms g c = on_ok c.ask_probe-probing.result (subst (HasHarms 0) (sym (operator_own c.hold-shared.result c.ask_probe-probing.new.world c.args.pass.now c.give_back.new.pass (was_held 0 c.hold-shared.result c.ask_probe-probing.new.world c.args.pass.now c.hold-shared.new.seat c.give_back.new.pass c.hold-shared.ensures.seen c.hold-shared.ensures.own c.hold-shared.ensures.seat (sym (ap (λ s. s.number) c.hold-shared.ensures.seat ∙ c.requires.operator)) c.give_back.ensures.pass)))) c.ask_probe-probing.ensures.harms

pub returns-clause-behind : goal.returns-clause-behind
returns-clause-behind g c =
    on_ok c.ask_probe-probing.result (λ has. subst (WasAskedBehind (length c.args.pass.now.seen)) (sym (operator_own c.hold-shared.result c.ask_probe-probing.new.world c.args.pass.now c.give_back.new.pass (was_held 0 c.hold-shared.result c.ask_probe-probing.new.world c.args.pass.now c.hold-shared.new.seat c.give_back.new.pass c.hold-shared.ensures.seen c.hold-shared.ensures.own c.hold-shared.ensures.seat (sym (ap (λ s. s.number) c.hold-shared.ensures.seat ∙ c.requires.operator)) c.give_back.ensures.pass))) (asked_earlier (length c.args.pass.now.seen) (length c.shared.inside.world.marks) (seen_of c.hold-shared.result c.ask_probe-probing.new.world c.args.pass.now c.give_back.new.pass (was_held 0 c.hold-shared.result c.ask_probe-probing.new.world c.args.pass.now c.hold-shared.new.seat c.give_back.new.pass c.hold-shared.ensures.seen c.hold-shared.ensures.own c.hold-shared.ensures.seat (sym (ap (λ s. s.number) c.hold-shared.ensures.seat ∙ c.requires.operator)) c.give_back.ensures.pass) c.shared.inside.world.marks (ap (λ v. v.marks) (sym c.shared.view_is))) has)) c.ask_probe-probing.ensures.behind

pub returns-clause-counted : goal.returns-clause-counted
returns-clause-counted g c =
    on_ok c.ask_probe-probing.result (λ same. still_counted c.hold-shared.result c.ask_probe-probing.new.world c.args.pass.now c.give_back.new.pass (was_held 0 c.hold-shared.result c.ask_probe-probing.new.world c.args.pass.now c.hold-shared.new.seat c.give_back.new.pass c.hold-shared.ensures.seen c.hold-shared.ensures.own c.hold-shared.ensures.seat (sym (ap (λ s. s.number) c.hold-shared.ensures.seat ∙ c.requires.operator)) c.give_back.ensures.pass) (same ∙ ap (λ v. rescanned_of v.council.plan) c.shared.view_is)) c.ask_probe-probing.ensures.counted
