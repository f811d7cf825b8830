use Rattle.cas_board_steps.proofs.Calls.Holds.{stray_ends}
use Rattle.cas_board_steps.proofs.changes.let_in.Goals as goal

pub returns-then-index-late-clause-kept : goal.returns-then-index-late-clause-kept
returns-then-index-late-clause-kept g c = (stray_ends _ c.args.index c.args.world.now c.stray.new.self c.stray.result c.stray.ensures.ok c.stray.ensures.err c.requires.kept).kept

pub returns-then-index-late-clause-strays : goal.returns-then-index-late-clause-strays
returns-then-index-late-clause-strays g c = (stray_ends _ c.args.index c.args.world.now c.stray.new.self c.stray.result c.stray.ensures.ok c.stray.ensures.err c.requires.kept).does
