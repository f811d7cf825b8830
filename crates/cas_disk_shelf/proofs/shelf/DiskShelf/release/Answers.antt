use Rattle.std.proofs.Common.{refl, sym, ◌∙◌}
use Rattle.cas_disk_shelf.specs.Shelf.{contents_of}
use Rattle.cas_disk_shelf.proofs.Using.{none_dropped}
use Rattle.cas_disk_shelf.proofs.Keeping.{still_old}
use Rattle.cas_disk_shelf.proofs.shelf.DiskShelf.release.Goals as goal

pub returns-in-None-clause-ok : goal.returns-in-None-clause-ok
returns-in-None-clause-ok g c =
    sym (none_dropped (contents_of c.args.self.now) c.args.key.now (c.requires.memory.shown.in_step.none c.args.key.now (sym c.cell_of.ensures ∙ c.in-None.is)))

pub returns-in-None-clause-any_moment : goal.returns-in-None-clause-any_moment
returns-in-None-clause-any_moment g c tells =
    still_old g.D.Disk.tells g.D.Disk.seen g.D.Disk.may_leave g.D.Disk.moment g.D.Disk.left_since _ _ c.requires _ refl (λ image left. g.met.D.Disk.only_now _ image tells left) tells
