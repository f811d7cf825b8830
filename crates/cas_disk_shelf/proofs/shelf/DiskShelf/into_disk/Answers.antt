use Rattle.std.proofs.Common.{subst}
use Rattle.cas_disk_shelf.specs.ShelfLaws.{up_spells}
use Rattle.cas_disk_shelf.proofs.shelf.DiskShelf.into_disk.Goals as goal

pub returns-clause-spelled : goal.returns-clause-spelled
returns-clause-spelled g c tells up image left =
    up_spells g.D.Disk.tells g.D.Disk.seen g.D.Disk.may_leave c.args.self up tells image (subst (λ d. g.D.Disk.may_leave d image) c.into_disk.ensures left)
