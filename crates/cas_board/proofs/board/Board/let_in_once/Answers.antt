use Rattle.std.proofs.Common.{refl, subst}
use Rattle.cas_board_steps.specs.Calls.Changes.{StraysIn}
use Rattle.cas_board.proofs.Sittings.{was_held, gives_back, pass_strays, pass_strays_wanted}
use Rattle.cas_board.proofs.board.Board.let_in_once.Goals as goal

pub give_back-requires-clause-makes : goal.give_back-requires-clause-makes
give_back-requires-clause-makes g c =
    let strays = subst (λ v. StraysIn v c.let_in.new.world) c.shared.view_is c.let_in.ensures.strays in
    gives_back c.hold-shared.new.seat.number c.hold-shared.result c.let_in.new.world c.args.pass.now c.hold-shared.new.seat c.hold-shared.ensures.seat refl (strays.marks, strays.makes c.hold-shared.new.seat.number)

pub returns-then-index-late-clause-front : goal.returns-then-index-late-clause-front
returns-then-index-late-clause-front g c =
    let strays = subst (λ v. StraysIn v c.let_in.new.world) c.shared.view_is c.let_in.ensures.strays in
    let was = was_held c.hold-shared.new.seat.number c.hold-shared.result c.let_in.new.world c.args.pass.now c.hold-shared.new.seat c.give_back.new.pass c.hold-shared.ensures.seen c.hold-shared.ensures.own c.hold-shared.ensures.seat refl c.give_back.ensures.pass in
    pass_strays c.hold-shared.result c.let_in.new.world c.args.pass.now c.give_back.new.pass was.has was.seen was.own strays

pub returns-then-index-late-clause-wanted : goal.returns-then-index-late-clause-wanted
returns-then-index-late-clause-wanted g c =
    let strays = subst (λ v. StraysIn v c.let_in.new.world) c.shared.view_is c.let_in.ensures.strays in
    let was = was_held c.hold-shared.new.seat.number c.hold-shared.result c.let_in.new.world c.args.pass.now c.hold-shared.new.seat c.give_back.new.pass c.hold-shared.ensures.seen c.hold-shared.ensures.own c.hold-shared.ensures.seat refl c.give_back.ensures.pass in
    pass_strays_wanted c.hold-shared.result c.let_in.new.world c.args.pass.now c.give_back.new.pass was.has was.seen was.own strays
