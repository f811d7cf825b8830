use Rattle.std.specs.Prelude.{◌≡◌}
use Rattle.cas_model.specs.Collection.Step.{keep_always}
use Rattle.cas_board_steps.specs.Collection.Collecting.{HasCourse, IsTombstoneMark, most_rounds}
use Rattle.cas_board.proofs.Operating.{HasRunOrder}
use Rattle.cas_board.proofs.board.Board.run_collection.Given as goal

abbrev pub invariant-loop : goal.invariant-loop
invariant-loop g l = record {
  run : HasRunOrder (IsTombstoneMark l.initial.collecting.key) (g.F.Fate.harm_count l.initial.fate) (g.F.Fate.harm_count l.fate) l.initial.pass l.pass;
  key : l.collecting.key ≡ l.initial.collecting.key;
  tries : l.collecting.tries ≡ l.initial.collecting.tries;
  keeps : l.collecting.program ≡ keep_always;
  course : HasCourse l.initial.collecting.key (most_rounds l.initial.collecting.tries) l.collecting.course l.pass.own l.pass.seen;
}
