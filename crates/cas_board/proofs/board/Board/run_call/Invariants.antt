use Rattle.cas_board_steps.specs.Calls.Stages.{tells_met}
use Rattle.cas_board.proofs.Sittings.{SittingHasRun, HasTried}
use Rattle.cas_board.proofs.board.Board.run_call.Given as goal

abbrev pub invariant-loop : goal.invariant-loop
invariant-loop g l = SittingHasRun l.call (g.F.Fate.harm_count l.initial.fate) (g.F.Fate.harm_count l.fate) l.initial.pass l.pass × HasTried l.initial.tries l.rounds (tells_met l.stage) l.pass.own
