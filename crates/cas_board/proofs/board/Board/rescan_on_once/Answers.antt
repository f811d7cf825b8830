use Rattle.std.proofs.Common.{ℕ, List, refl, sym, ap, subst, ◌∙◌}
use Rattle.std.specs.Prelude.{OnOk, IfOk, IfErr}
use Rattle.cas_world.specs.Eras.Plans.{asked_of}
use Rattle.cas_board_steps.specs.Calls.Changes.{harm_by}
use Rattle.cas_board_steps.specs.Eras.Membership.{HasRescan, RoundsAreKept, IsRescannedTo, IsPlanMark, IsRescanMark}
use Rattle.cas_board_steps.specs.Mine.{wanted_by}
use Rattle.cas_board_steps.specs.Calls.Open.{rounds_after}
use Rattle.cas_board_steps.specs.Exchanges.Orders.{OperatesIn, IsToldIn}
use Rattle.cas_board_steps.specs.OwnParts.{own_part}
use Rattle.cas_board.proofs.Sittings.{was_held, gives_back}
use Rattle.cas_board.proofs.Operating.{operator_part, operator_own, operator_goes_on, operator_told, operates_or_tells, on_ok, if_err}
use Rattle.cas_board.proofs.Steps.{wanted_held, wanted_then}
use Rattle.cas_board.proofs.board.Board.rescan_on_once.Goals as goal

pub rescan_on-rescanning-requires-clause-rescans : goal.rescan_on-rescanning-requires-clause-rescans
rescan_on-rescanning-requires-clause-rescans g c =
    subst (HasRescan (asked_of c.args.target.now) c.args.call c.args.key.now) (sym (operator_part c.args.pass.now.number c.shared.inside.world c.hold-shared.result c.args.pass.now.own c.requires.operator c.shared.view_is c.hold-shared.ensures.own)) c.requires.rescans

pub rescan_on-rescanning-requires-clause-wanted : goal.rescan_on-rescanning-requires-clause-wanted
rescan_on-rescanning-requires-clause-wanted g c =
    ap (λ v. wanted_by 0 v.marks) c.shared.view_is ∙ (wanted_held c.args.pass.now.number c.args.pass.now.seen c.hold-shared.result.marks c.requires.operator c.hold-shared.ensures.seen) ∙ c.requires.wanted

pub give_back-requires-clause-makes : goal.give_back-requires-clause-makes
give_back-requires-clause-makes g c =
    gives_back 0 c.hold-shared.result c.rescan_on-rescanning.new.world c.args.pass.now c.hold-shared.new.seat c.hold-shared.ensures.seat (sym (ap (λ s. s.number) c.hold-shared.ensures.seat ∙ c.requires.operator))
    (operates_or_tells (asked_of c.args.target.now) IsPlanMark (IsRescanMark (rounds_after (own_part c.shared.inside.world 0))) (harm_by c.args.verdict) c.hold-shared.result c.rescan_on-rescanning.new.world c.rescan_on-rescanning.result (subst (λ v. OnOk c.rescan_on-rescanning.result (OperatesIn IsPlanMark (harm_by c.args.verdict) v c.rescan_on-rescanning.new.world)) c.shared.view_is c.rescan_on-rescanning.ensures.goes_on)
    (subst (λ v. IfErr c.rescan_on-rescanning.result (IsToldIn (asked_of c.args.target.now) (IsRescanMark (rounds_after (own_part c.shared.inside.world 0))) (harm_by c.args.verdict) v c.rescan_on-rescanning.new.world)) c.shared.view_is (c.rescan_on-rescanning.ensures.told (rounds_after (own_part c.shared.inside.world 0)) (λ no_more. refl))))

pub returns-clause-goes_on : goal.returns-clause-goes_on
returns-clause-goes_on g c =
    on_ok c.rescan_on-rescanning.result (operator_goes_on c.hold-shared.result c.rescan_on-rescanning.new.world c.args.pass.now c.give_back.new.pass (was_held 0 c.hold-shared.result c.rescan_on-rescanning.new.world c.args.pass.now c.hold-shared.new.seat c.give_back.new.pass c.hold-shared.ensures.seen c.hold-shared.ensures.own c.hold-shared.ensures.seat (sym (ap (λ s. s.number) c.hold-shared.ensures.seat ∙ c.requires.operator)) c.give_back.ensures.pass) IsPlanMark (harm_by c.args.verdict)) (subst (λ v. OnOk c.rescan_on-rescanning.result (OperatesIn IsPlanMark (harm_by c.args.verdict) v c.rescan_on-rescanning.new.world)) c.shared.view_is c.rescan_on-rescanning.ensures.goes_on)

pub returns-clause-wanted : goal.returns-clause-wanted
returns-clause-wanted g c =
    wanted_then c.rescan_on-rescanning.result _ _ _ _ (ap (wanted_by 0) (was_held 0 c.hold-shared.result c.rescan_on-rescanning.new.world c.args.pass.now c.hold-shared.new.seat c.give_back.new.pass c.hold-shared.ensures.seen c.hold-shared.ensures.own c.hold-shared.ensures.seat (sym (ap (λ s. s.number) c.hold-shared.ensures.seat ∙ c.requires.operator)) c.give_back.ensures.pass).seen) (ap (λ v. wanted_by 0 v.marks) c.shared.view_is ∙ (wanted_held c.args.pass.now.number c.args.pass.now.seen c.hold-shared.result.marks c.requires.operator c.hold-shared.ensures.seen)) c.rescan_on-rescanning.ensures.wanted

pub returns-clause-rescans : goal.returns-clause-rescans
returns-clause-rescans g c =
    subst (λ (o : List ℕ). IfOk c.rescan_on-rescanning.result (IsRescannedTo (asked_of c.args.target.now) c.args.call c.args.key.now o)) (sym (operator_own c.hold-shared.result c.rescan_on-rescanning.new.world c.args.pass.now c.give_back.new.pass (was_held 0 c.hold-shared.result c.rescan_on-rescanning.new.world c.args.pass.now c.hold-shared.new.seat c.give_back.new.pass c.hold-shared.ensures.seen c.hold-shared.ensures.own c.hold-shared.ensures.seat (sym (ap (λ s. s.number) c.hold-shared.ensures.seat ∙ c.requires.operator)) c.give_back.ensures.pass))) c.rescan_on-rescanning.ensures.rescans

pub returns-clause-rounds : goal.returns-clause-rounds
returns-clause-rounds g c =
    subst (λ (o : List ℕ). IfOk c.rescan_on-rescanning.result (RoundsAreKept c.args.may_repeat o c.give_back.new.pass.own)) (operator_part c.args.pass.now.number c.shared.inside.world c.hold-shared.result c.args.pass.now.own c.requires.operator c.shared.view_is c.hold-shared.ensures.own)
    (subst (λ (o : List ℕ). IfOk c.rescan_on-rescanning.result (RoundsAreKept c.args.may_repeat (own_part c.shared.inside.world 0) o)) (sym (operator_own c.hold-shared.result c.rescan_on-rescanning.new.world c.args.pass.now c.give_back.new.pass (was_held 0 c.hold-shared.result c.rescan_on-rescanning.new.world c.args.pass.now c.hold-shared.new.seat c.give_back.new.pass c.hold-shared.ensures.seen c.hold-shared.ensures.own c.hold-shared.ensures.seat (sym (ap (λ s. s.number) c.hold-shared.ensures.seat ∙ c.requires.operator)) c.give_back.ensures.pass))) c.rescan_on-rescanning.ensures.rounds)

pub returns-clause-told : goal.returns-clause-told
returns-clause-told g c tries spent =
    if_err c.rescan_on-rescanning.result (operator_told c.hold-shared.result c.rescan_on-rescanning.new.world c.args.pass.now c.give_back.new.pass (was_held 0 c.hold-shared.result c.rescan_on-rescanning.new.world c.args.pass.now c.hold-shared.new.seat c.give_back.new.pass c.hold-shared.ensures.seen c.hold-shared.ensures.own c.hold-shared.ensures.seat (sym (ap (λ s. s.number) c.hold-shared.ensures.seat ∙ c.requires.operator)) c.give_back.ensures.pass) (asked_of c.args.target.now) (IsRescanMark tries) (harm_by c.args.verdict)) (subst (λ v. IfErr c.rescan_on-rescanning.result (IsToldIn (asked_of c.args.target.now) (IsRescanMark tries) (harm_by c.args.verdict) v c.rescan_on-rescanning.new.world)) c.shared.view_is (c.rescan_on-rescanning.ensures.told tries (λ no_more. ap rounds_after (operator_part c.args.pass.now.number c.shared.inside.world c.hold-shared.result c.args.pass.now.own c.requires.operator c.shared.view_is c.hold-shared.ensures.own) ∙ spent no_more)))
