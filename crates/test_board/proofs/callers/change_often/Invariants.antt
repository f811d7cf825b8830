use Rattle.cas_board.specs.Passes.{IsPassOf}
use Rattle.cas_board_steps.specs.Calls.Open.{NothingIsOpen}
use Rattle.test_board.proofs.callers.change_often.Given as goal

abbrev pub invariant-loop : goal.invariant-loop
invariant-loop g l = IsPassOf l.board l.pass × NothingIsOpen l.pass.own
