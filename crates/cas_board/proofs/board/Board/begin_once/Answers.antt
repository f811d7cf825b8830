use Rattle.std.proofs.Common.{ℕ, arith, sym, ap, subst, ◌∙◌}
use Rattle.std.specs.Prelude.{IfErr, IfOk}
use Rattle.cas_board_steps.specs.Calls.Changes.{BeginsIn, BeginsNot}
use Rattle.cas_board_steps.specs.Calls.Open.{NothingIsOpen}
use Rattle.cas_board_steps.specs.OwnParts.{own_part}
use Rattle.cas_board_steps.proofs.Parts.{free_is_idle}
use Rattle.cas_board.proofs.Sittings.{was_held, gives_back, begun_makes, begun_told, refused_told}
use Rattle.cas_board.proofs.board.Board.begin_once.Goals as goal

pub begin-begun-requires-clause-known : goal.begin-begun-requires-clause-known
begin-begun-requires-clause-known g c =
    let caller = c.caller_of.ensures ∙ ap (λ s. s.number) c.hold-shared.ensures.seat in
    let last_proposer = ap (λ v. v.last_proposer) c.shared.view_is in
    omega (arith, caller, last_proposer, c.hold-shared.ensures.seats, c.requires.pass.seats, c.requires.pass.seated)

pub begin-begun-requires-clause-idle : goal.begin-begun-requires-clause-idle
begin-begun-requires-clause-idle g c =
    free_is_idle (own_part c.shared.inside.world c.caller_of.result)
    (subst (λ v. NothingIsOpen (own_part v c.caller_of.result)) (sym c.shared.view_is)
    (subst (λ (k : ℕ). NothingIsOpen (own_part c.hold-shared.result k)) (sym (c.caller_of.ensures ∙ ap (λ s. s.number) c.hold-shared.ensures.seat)) (subst NothingIsOpen (sym c.hold-shared.ensures.own) c.requires.free)))

pub give_back-requires-clause-makes : goal.give_back-requires-clause-makes
give_back-requires-clause-makes g c =
    gives_back c.caller_of.result c.hold-shared.result c.begin-begun.new.world c.args.pass.now c.hold-shared.new.seat c.hold-shared.ensures.seat c.caller_of.ensures
    (begun_makes c.caller_of.result c.hold-shared.result c.begin-begun.new.world c.args.key.now c.args.program.now c.begin-begun.result
    (subst (λ v. IfOk c.begin-begun.result (λ begun. BeginsIn c.caller_of.result begun.call c.args.key.now c.args.program.now v c.begin-begun.new.world)) c.shared.view_is c.begin-begun.ensures.begun)
    (subst (λ v. IfErr c.begin-begun.result (BeginsNot c.caller_of.result c.args.key.now c.args.program.now v c.begin-begun.new.world)) c.shared.view_is c.begin-begun.ensures.not_begun))

pub returns-clause-begun : goal.returns-clause-begun
returns-clause-begun g c =
    begun_told c.caller_of.result c.hold-shared.result c.begin-begun.new.world c.args.key.now c.args.program.now c.args.pass.now c.give_back.new.pass c.begin-begun.result
    (was_held c.caller_of.result c.hold-shared.result c.begin-begun.new.world c.args.pass.now c.hold-shared.new.seat c.give_back.new.pass c.hold-shared.ensures.seen c.hold-shared.ensures.own c.hold-shared.ensures.seat c.caller_of.ensures c.give_back.ensures.pass) c.hold-shared.ensures.own
    (subst (λ v. IfOk c.begin-begun.result (λ begun. BeginsIn c.caller_of.result begun.call c.args.key.now c.args.program.now v c.begin-begun.new.world)) c.shared.view_is c.begin-begun.ensures.begun)

pub returns-clause-not_begun : goal.returns-clause-not_begun
returns-clause-not_begun g c =
    refused_told c.caller_of.result c.hold-shared.result c.begin-begun.new.world c.args.key.now c.args.program.now c.args.pass.now c.give_back.new.pass c.begin-begun.result
    (was_held c.caller_of.result c.hold-shared.result c.begin-begun.new.world c.args.pass.now c.hold-shared.new.seat c.give_back.new.pass c.hold-shared.ensures.seen c.hold-shared.ensures.own c.hold-shared.ensures.seat c.caller_of.ensures c.give_back.ensures.pass) (subst NothingIsOpen (sym c.hold-shared.ensures.own) c.requires.free)
    (subst (λ v. IfErr c.begin-begun.result (BeginsNot c.caller_of.result c.args.key.now c.args.program.now v c.begin-begun.new.world)) c.shared.view_is c.begin-begun.ensures.not_begun)
