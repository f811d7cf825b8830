use Rattle.std.proofs.Common.{ℕ, List, refl, sym, ap, subst, ◌∙◌}
use Rattle.std.specs.Prelude.{OnOk, IfErr, take}
use Rattle.cas_record.specs.declared.mark.Mark.{Mark}
use Rattle.cas_board_steps.specs.Calls.Changes.{harm_by}
use Rattle.cas_board_steps.specs.Exchanges.Orders.{asked_for, HasHarms, HasProbe, IsHeardTrue, MarksHarms, OperatesIn, IsToldIn, IsAskingHarm, IsProbeAnswer, IsSilentAtMost, WasAskedBehind}
use Rattle.cas_board_steps.specs.OwnParts.{own_part}
use Rattle.cas_board.proofs.Sittings.{was_held, gives_back}
use Rattle.cas_board.proofs.Operating.{operator_part, operator_own, operator_goes_on, operator_harms, operator_told, on_ok, if_err}
use Rattle.cas_board.proofs.Looks.{operates_or_heard}
use Rattle.cas_board.proofs.board.Board.go_on_probing_once.Goals as goal

pub go_on_probing-next-requires-clause-asks : goal.go_on_probing-next-requires-clause-asks
go_on_probing-next-requires-clause-asks g c = (c.requires.asks.0, subst (HasProbe c.args.probing.inquiry c.args.probing.key c.requires.asks.0) (sym (operator_part c.args.pass.now.number c.shared.inside.world c.hold-shared.result c.args.pass.now.own c.requires.operator c.shared.view_is c.hold-shared.ensures.own)) c.requires.asks.1)

pub give_back-requires-clause-makes : goal.give_back-requires-clause-makes
give_back-requires-clause-makes g c =
    gives_back 0 c.hold-shared.result c.go_on_probing-next.new.world c.args.pass.now c.hold-shared.new.seat c.hold-shared.ensures.seat (sym (ap (λ s. s.number) c.hold-shared.ensures.seat ∙ c.requires.operator))
    (operates_or_heard (asked_for c.args.probing.inquiry c.args.probing.key) IsAskingHarm (harm_by c.args.verdict) c.hold-shared.result c.go_on_probing-next.new.world c.go_on_probing-next.result (subst (λ v. OnOk c.go_on_probing-next.result (OperatesIn IsAskingHarm (harm_by c.args.verdict) v c.go_on_probing-next.new.world)) c.shared.view_is c.go_on_probing-next.ensures.goes_on) (subst (λ v. IfErr c.go_on_probing-next.result (λ heard. IsToldIn (asked_for c.args.probing.inquiry c.args.probing.key) IsAskingHarm (harm_by c.args.verdict) v c.go_on_probing-next.new.world heard.told)) c.shared.view_is c.go_on_probing-next.ensures.told))

pub returns-clause-goes_on : goal.returns-clause-goes_on
returns-clause-goes_on g c = on_ok c.go_on_probing-next.result (operator_goes_on c.hold-shared.result c.go_on_probing-next.new.world c.args.pass.now c.give_back.new.pass (was_held 0 c.hold-shared.result c.go_on_probing-next.new.world c.args.pass.now c.hold-shared.new.seat c.give_back.new.pass c.hold-shared.ensures.seen c.hold-shared.ensures.own c.hold-shared.ensures.seat (sym (ap (λ s. s.number) c.hold-shared.ensures.seat ∙ c.requires.operator)) c.give_back.ensures.pass) IsAskingHarm (harm_by c.args.verdict)) (subst (λ v. OnOk c.go_on_probing-next.result (OperatesIn IsAskingHarm (harm_by c.args.verdict) v c.go_on_probing-next.new.world)) c.shared.view_is c.go_on_probing-next.ensures.goes_on)

pub returns-clause-still : goal.returns-clause-still
returns-clause-still g c = on_ok c.go_on_probing-next.result (λ each members has. subst (HasProbe c.args.probing.inquiry c.args.probing.key members) (sym (operator_own c.hold-shared.result c.go_on_probing-next.new.world c.args.pass.now c.give_back.new.pass (was_held 0 c.hold-shared.result c.go_on_probing-next.new.world c.args.pass.now c.hold-shared.new.seat c.give_back.new.pass c.hold-shared.ensures.seen c.hold-shared.ensures.own c.hold-shared.ensures.seat (sym (ap (λ s. s.number) c.hold-shared.ensures.seat ∙ c.requires.operator)) c.give_back.ensures.pass))) (each members (subst (HasProbe c.args.probing.inquiry c.args.probing.key members) (sym (operator_part c.args.pass.now.number c.shared.inside.world c.hold-shared.result c.args.pass.now.own c.requires.operator c.shared.view_is c.hold-shared.ensures.own)) has))) c.go_on_probing-next.ensures.still

pub returns-clause-harms : goal.returns-clause-harms
returns-clause-harms g c =
    on_ok c.go_on_probing-next.result (operator_harms c.hold-shared.result c.go_on_probing-next.new.world c.args.pass.now c.give_back.new.pass (was_held 0 c.hold-shared.result c.go_on_probing-next.new.world c.args.pass.now c.hold-shared.new.seat c.give_back.new.pass c.hold-shared.ensures.seen c.hold-shared.ensures.own c.hold-shared.ensures.seat (sym (ap (λ s. s.number) c.hold-shared.ensures.seat ∙ c.requires.operator)) c.give_back.ensures.pass)
    (operator_part c.args.pass.now.number c.hold-shared.result c.hold-shared.result c.args.pass.now.own c.requires.operator refl c.hold-shared.ensures.own))
    (subst (λ v. OnOk c.go_on_probing-next.result (MarksHarms v c.go_on_probing-next.new.world)) c.shared.view_is c.go_on_probing-next.ensures.harms)

pub returns-clause-told : goal.returns-clause-told
returns-clause-told g c =
    if_err {P = λ heard. IsToldIn (asked_for c.args.probing.inquiry c.args.probing.key) IsAskingHarm (harm_by c.args.verdict) c.hold-shared.result c.go_on_probing-next.new.world heard.told} c.go_on_probing-next.result
    (λ heard. operator_told c.hold-shared.result c.go_on_probing-next.new.world c.args.pass.now c.give_back.new.pass (was_held 0 c.hold-shared.result c.go_on_probing-next.new.world c.args.pass.now c.hold-shared.new.seat c.give_back.new.pass c.hold-shared.ensures.seen c.hold-shared.ensures.own c.hold-shared.ensures.seat (sym (ap (λ s. s.number) c.hold-shared.ensures.seat ∙ c.requires.operator)) c.give_back.ensures.pass) (asked_for c.args.probing.inquiry c.args.probing.key) IsAskingHarm (harm_by c.args.verdict) heard.told)
    (subst (λ v. IfErr c.go_on_probing-next.result (λ heard. IsToldIn (asked_for c.args.probing.inquiry c.args.probing.key) IsAskingHarm (harm_by c.args.verdict) v c.go_on_probing-next.new.world heard.told)) c.shared.view_is c.go_on_probing-next.ensures.told)

pub returns-clause-answer : goal.returns-clause-answer
returns-clause-answer g c =
    if_err {P = λ heard. (members : List ℕ) → HasProbe c.args.probing.inquiry c.args.probing.key members (own_part c.shared.inside.world 0) → IsProbeAnswer c.args.probing.key members heard.told} c.go_on_probing-next.result
    (λ heard each members has. each members (subst (HasProbe c.args.probing.inquiry c.args.probing.key members) (sym (operator_part c.args.pass.now.number c.shared.inside.world c.hold-shared.result c.args.pass.now.own c.requires.operator c.shared.view_is c.hold-shared.ensures.own)) has)) c.go_on_probing-next.ensures.answer

pub returns-clause-silent : goal.returns-clause-silent
returns-clause-silent g c =
    if_err {P = λ heard. (harms : ℕ) → HasHarms harms (own_part c.shared.inside.world 0) → IsSilentAtMost harms heard.told} c.go_on_probing-next.result
    (λ heard each harms has. each harms (subst (HasHarms harms) (sym (operator_part c.args.pass.now.number c.shared.inside.world c.hold-shared.result c.args.pass.now.own c.requires.operator c.shared.view_is c.hold-shared.ensures.own)) has)) c.go_on_probing-next.ensures.silent

pub returns-clause-truly : goal.returns-clause-truly
returns-clause-truly g c =
    if_err {P = λ heard. (many : ℕ) → WasAskedBehind many (own_part c.shared.inside.world 0) → IsHeardTrue c.args.probing.inquiry g.D.Disk.tells g.D.Disk.tells (take many c.go_on_probing-next.new.world.marks) c.go_on_probing-next.new.world.marks heard} c.go_on_probing-next.result
    (λ heard each many has. subst (λ (marks : List Mark). IsHeardTrue c.args.probing.inquiry g.D.Disk.tells g.D.Disk.tells (take many marks) marks heard) (sym (ap (λ s. s.seen) c.give_back.ensures.pass)) (each many (subst (WasAskedBehind many) (sym (operator_part c.args.pass.now.number c.shared.inside.world c.hold-shared.result c.args.pass.now.own c.requires.operator c.shared.view_is c.hold-shared.ensures.own)) has))) c.go_on_probing-next.ensures.truly

pub returns-clause-behind : goal.returns-clause-behind
returns-clause-behind g c =
    on_ok c.go_on_probing-next.result (λ each many has. subst (WasAskedBehind many) (sym (operator_own c.hold-shared.result c.go_on_probing-next.new.world c.args.pass.now c.give_back.new.pass (was_held 0 c.hold-shared.result c.go_on_probing-next.new.world c.args.pass.now c.hold-shared.new.seat c.give_back.new.pass c.hold-shared.ensures.seen c.hold-shared.ensures.own c.hold-shared.ensures.seat (sym (ap (λ s. s.number) c.hold-shared.ensures.seat ∙ c.requires.operator)) c.give_back.ensures.pass))) (each many (subst (WasAskedBehind many) (sym (operator_part c.args.pass.now.number c.shared.inside.world c.hold-shared.result c.args.pass.now.own c.requires.operator c.shared.view_is c.hold-shared.ensures.own)) has))) c.go_on_probing-next.ensures.behind
