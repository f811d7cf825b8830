use Rattle.std.proofs.Common.{ℕ, ap, subst, ◌∙◌}
use Rattle.std.specs.Prelude.{IfErr, OnOk}
use Rattle.cas_board_steps.specs.Calls.Changes.{GoesOnIn, EndsMarked, harm_by}
use Rattle.cas_board_steps.specs.Mine.{wanted_by}
use Rattle.cas_board_steps.specs.OwnParts.{own_part}
use Rattle.cas_board_steps.proofs.Fronts.{wanted_seen}
use Rattle.cas_board.proofs.Sittings.{was_held, gives_back, held_known, gone_makes, gone_told, ended_told, rounds_told, met_told, repeats_told}
use Rattle.cas_board.proofs.board.Board.go_on_once.Goals as goal

pub go_on-stage-requires-clause-known : goal.go_on-stage-requires-clause-known
go_on-stage-requires-clause-known g c =
    held_known c.caller_of-caller.result c.args.pass.now.number c.args.call c.shared.inside.world c.args.pass.now.own (c.caller_of-caller.ensures ∙ ap (λ s. s.number) c.hold-shared.ensures.seat)
    (ap (λ v. own_part v c.args.pass.now.number) c.shared.view_is ∙ c.hold-shared.ensures.own) c.requires.called c.shared.invariant

pub go_on-stage-requires-clause-wanted : goal.go_on-stage-requires-clause-wanted
go_on-stage-requires-clause-wanted g c =
    ap (λ (k : ℕ). wanted_by k c.shared.inside.world.marks) (c.caller_of-caller.ensures ∙ ap (λ s. s.number) c.hold-shared.ensures.seat)
    ∙ ap (λ v. wanted_by c.args.pass.now.number v.marks) c.shared.view_is
    ∙ wanted_seen c.args.pass.now.number c.args.pass.now.seen c.hold-shared.result.marks c.hold-shared.ensures.seen ∙ c.requires.wanted

pub give_back-requires-clause-makes : goal.give_back-requires-clause-makes
give_back-requires-clause-makes g c =
    gives_back c.caller_of-caller.result c.hold-shared.result c.go_on-stage.new.world c.args.pass.now c.hold-shared.new.seat c.hold-shared.ensures.seat c.caller_of-caller.ensures
    (gone_makes c.caller_of-caller.result c.args.call (harm_by c.args.verdict) c.hold-shared.result c.go_on-stage.new.world c.go_on-stage.result
    (subst (λ v. OnOk c.go_on-stage.result (GoesOnIn c.caller_of-caller.result c.args.call (harm_by c.args.verdict) v c.go_on-stage.new.world)) c.shared.view_is c.go_on-stage.ensures.goes_on)
    (subst (λ v. IfErr c.go_on-stage.result (EndsMarked c.caller_of-caller.result c.args.call (harm_by c.args.verdict) v c.go_on-stage.new.world)) c.shared.view_is c.go_on-stage.ensures.ends))

pub returns-clause-goes_on : goal.returns-clause-goes_on
returns-clause-goes_on g c =
    gone_told c.caller_of-caller.result c.args.call (harm_by c.args.verdict) c.hold-shared.result c.go_on-stage.new.world c.args.pass.now c.give_back.new.pass c.go_on-stage.result
    (was_held c.caller_of-caller.result c.hold-shared.result c.go_on-stage.new.world c.args.pass.now c.hold-shared.new.seat c.give_back.new.pass c.hold-shared.ensures.seen c.hold-shared.ensures.own c.hold-shared.ensures.seat c.caller_of-caller.ensures c.give_back.ensures.pass)
    c.hold-shared.ensures.own (subst (λ v. OnOk c.go_on-stage.result (GoesOnIn c.caller_of-caller.result c.args.call (harm_by c.args.verdict) v c.go_on-stage.new.world)) c.shared.view_is c.go_on-stage.ensures.goes_on)

pub returns-clause-ends : goal.returns-clause-ends
returns-clause-ends g c =
    ended_told c.caller_of-caller.result c.args.call (harm_by c.args.verdict) c.hold-shared.result c.go_on-stage.new.world c.args.pass.now c.give_back.new.pass c.go_on-stage.result
    (was_held c.caller_of-caller.result c.hold-shared.result c.go_on-stage.new.world c.args.pass.now c.hold-shared.new.seat c.give_back.new.pass c.hold-shared.ensures.seen c.hold-shared.ensures.own c.hold-shared.ensures.seat c.caller_of-caller.ensures c.give_back.ensures.pass)
    c.hold-shared.ensures.own c.requires.alone (subst (λ v. IfErr c.go_on-stage.result (EndsMarked c.caller_of-caller.result c.args.call (harm_by c.args.verdict) v c.go_on-stage.new.world)) c.shared.view_is c.go_on-stage.ensures.ends)

pub returns-clause-rounds : goal.returns-clause-rounds
returns-clause-rounds g c =
    rounds_told c.caller_of-caller.result c.args.call (harm_by c.args.verdict) c.hold-shared.result c.go_on-stage.new.world c.args.pass.now c.give_back.new.pass c.go_on-stage.result
    (was_held c.caller_of-caller.result c.hold-shared.result c.go_on-stage.new.world c.args.pass.now c.hold-shared.new.seat c.give_back.new.pass c.hold-shared.ensures.seen c.hold-shared.ensures.own c.hold-shared.ensures.seat c.caller_of-caller.ensures c.give_back.ensures.pass)
    c.hold-shared.ensures.own (subst (λ v. OnOk c.go_on-stage.result (GoesOnIn c.caller_of-caller.result c.args.call (harm_by c.args.verdict) v c.go_on-stage.new.world)) c.shared.view_is c.go_on-stage.ensures.goes_on)

pub returns-clause-met : goal.returns-clause-met
returns-clause-met g c =
    met_told c.caller_of-caller.result c.hold-shared.result c.go_on-stage.new.world c.args.pass.now c.give_back.new.pass
    (was_held c.caller_of-caller.result c.hold-shared.result c.go_on-stage.new.world c.args.pass.now c.hold-shared.new.seat c.give_back.new.pass c.hold-shared.ensures.seen c.hold-shared.ensures.own c.hold-shared.ensures.seat c.caller_of-caller.ensures c.give_back.ensures.pass) c.go_on-stage.result c.go_on-stage.ensures.met

pub returns-clause-repeats : goal.returns-clause-repeats
returns-clause-repeats g c =
    repeats_told c.caller_of-caller.result c.hold-shared.result c.go_on-stage.new.world c.args.pass.now c.give_back.new.pass
    (was_held c.caller_of-caller.result c.hold-shared.result c.go_on-stage.new.world c.args.pass.now c.hold-shared.new.seat c.give_back.new.pass c.hold-shared.ensures.seen c.hold-shared.ensures.own c.hold-shared.ensures.seat c.caller_of-caller.ensures c.give_back.ensures.pass) c.args.may_repeat c.go_on-stage.result c.go_on-stage.ensures.repeats
