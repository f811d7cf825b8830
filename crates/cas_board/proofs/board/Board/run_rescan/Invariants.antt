use Rattle.std.specs.Prelude.{◌≡◌, Some}
use Rattle.cas_world.specs.Eras.Plans.{asked_of}
use Rattle.cas_board_steps.specs.Eras.Membership.{HasRescan, IsPlanMark}
use Rattle.cas_board_steps.specs.Mine.{wanted_by, wants}
use Rattle.cas_board_steps.specs.Calls.Stages.{tells_met}
use Rattle.cas_board.proofs.Operating.{HasRunOrder}
use Rattle.cas_board.proofs.Sittings.{HasTried}
use Rattle.cas_board.proofs.board.Board.run_rescan.Given as goal

abbrev pub invariant-loop : goal.invariant-loop
invariant-loop g l = record {
  run : HasRunOrder IsPlanMark (g.F.Fate.harm_count l.initial.fate) (g.F.Fate.harm_count l.fate) l.initial.pass l.pass;
  rescans : HasRescan (asked_of l.target) l.fn.rescan.begun.call l.fn.rescan.key l.pass.own;
  wanted : wanted_by 0 l.pass.seen ≡ Some (wants l.fn.rescan.begun.call l.fn.rescan.key l.program);
  tried : HasTried l.initial.tries l.rounds (tells_met l.stage) l.pass.own;
}
