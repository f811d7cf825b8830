use Rattle.cas_board.specs.Passes.{IsPassOf}
use Rattle.cas_board_steps.specs.Calls.Open.{NothingIsOpen}
use Rattle.test_board.proofs.many.change_in_turn.Given as goal

abbrev pub invariant-loop-change : goal.invariant-loop-change
invariant-loop-change g l = IsPassOf l.board l.pass × NothingIsOpen l.pass.own
