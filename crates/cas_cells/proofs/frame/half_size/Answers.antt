use Rattle.std.proofs.Common.{sym}
use Rattle.cas_cells.proofs.Places.{narrow_size, wide_size}
use Rattle.cas_cells.proofs.frame.half_size.Goals as goal

pub returns-then-cell-narrow-clause-size : goal.returns-then-cell-narrow-clause-size
returns-then-cell-narrow-clause-size c = sym (wide_size c.args.narrow c.args.cell c.if-cell-narrow.true)

pub returns-else-cell-narrow-clause-size : goal.returns-else-cell-narrow-clause-size
returns-else-cell-narrow-clause-size c = sym (narrow_size c.args.narrow c.args.cell c.if-cell-narrow.false)
