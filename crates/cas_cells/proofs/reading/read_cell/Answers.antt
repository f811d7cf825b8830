use Rattle.std.proofs.Common.{arith}
use Rattle.cas_cells.proofs.Places.{narrow_size, wide_size}
use Rattle.cas_cells.proofs.reading.read_cell.Goals as goal

pub read_frames-requires-clause-size : goal.read_frames-requires-clause-size
read_frames-requires-clause-size g c = omega (arith, wide_size c.args.narrow c.args.index c.if-index-narrow.true)

pub read_frames-requires-else-index-narrow-clause-size : goal.read_frames-requires-else-index-narrow-clause-size
read_frames-requires-else-index-narrow-clause-size g c = omega (arith, narrow_size c.args.narrow c.args.index c.if-index-narrow.false)
