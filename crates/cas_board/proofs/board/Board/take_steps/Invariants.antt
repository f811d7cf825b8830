use Rattle.cas_world.specs.Eras.Plans.{asked_of}
use Rattle.cas_board_steps.specs.Eras.Membership.{HasPlan, IsPlanMark}
use Rattle.cas_board.proofs.Operating.{HasRunOrder}
use Rattle.cas_board.proofs.board.Board.take_steps.Given as goal

abbrev pub invariant-loop : goal.invariant-loop
invariant-loop g l = record {
  run : HasRunOrder IsPlanMark (g.F.Fate.harm_count l.initial.fate) (g.F.Fate.harm_count l.fate) l.initial.pass l.pass;
  planned : HasPlan (asked_of l.target) l.pass.own;
}
