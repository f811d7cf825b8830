use Rattle.std.proofs.Common.{refl}
use Rattle.cas_cells.proofs.Using.{stands_kept}
use Rattle.cas_cells.proofs.cells.Cells.forget_past.Goals as goal

pub returns-clause-stands : goal.returns-clause-stands
returns-clause-stands g c stands = stands_kept g.D.Disk.tells g.D.Disk.seen g.D.Disk.may_leave c.args.self.now _ stands refl refl refl (λ tells. c.forget_past.ensures.kept tells)
