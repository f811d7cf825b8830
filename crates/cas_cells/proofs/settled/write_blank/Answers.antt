use Rattle.std.proofs.Common.{arith}
use Rattle.std.proofs.lemmas.List.{get_or-replicate}
use Rattle.cas_cells.proofs.Places.{narrow_size, wide_size}
use Rattle.cas_cells.proofs.settled.write_blank.Goals as goal

pub write_zeros-requires-clause-size : goal.write_zeros-requires-clause-size
write_zeros-requires-clause-size g c = omega (arith, wide_size c.args.narrow c.args.index c.if-index-narrow.true)

pub write_zeros-requires-clause-zeros : goal.write_zeros-requires-clause-zeros
write_zeros-requires-clause-zeros g c k less = get_or-replicate 9216 k 0 0 less

pub write_zeros-requires-else-index-narrow-clause-size : goal.write_zeros-requires-else-index-narrow-clause-size
write_zeros-requires-else-index-narrow-clause-size g c = omega (arith, narrow_size c.args.narrow c.args.index c.if-index-narrow.false)

pub write_zeros-requires-else-index-narrow-clause-zeros : goal.write_zeros-requires-else-index-narrow-clause-zeros
write_zeros-requires-else-index-narrow-clause-zeros g c k less = get_or-replicate 1024 k 0 0 less
