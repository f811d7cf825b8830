use Rattle.cas_board_steps.proofs.Fronts.{mine_seen}
use Rattle.cas_board.proofs.board.Board.meet.Goals as goal

pub returns-clause-a_mine : goal.returns-clause-a_mine
returns-clause-a_mine g c = mine_seen c.args.a.now.number c.args.a.now.seen c.meet.new.a.seen c.meet.ensures.a_seen

pub returns-clause-b_mine : goal.returns-clause-b_mine
returns-clause-b_mine g c = mine_seen c.args.b.now.number c.args.b.now.seen c.meet.new.b.seen c.meet.ensures.b_seen
