use Rattle.std.specs.BTreeSet.{btree_set_len}
use Rattle.std.proofs.Common.{◌≡◌, refl, arith}
use Rattle.cas_cells.proofs.Lengths.{within_more}
use Rattle.cas_disk_shelf.specs.Shelf.{disk_of}
use Rattle.cas_disk_shelf.proofs.Counting.{none_of}
use Rattle.cas_disk_shelf.proofs.Keeping.{still}
use Rattle.cas_disk_shelf.proofs.shelf.DiskShelf.unused_cell.Goals as goal

pub returns-in-Some-clause-any_moment : goal.returns-in-Some-clause-any_moment
returns-in-Some-clause-any_moment g c tells =
    still g.D.Disk.tells g.D.Disk.seen g.D.Disk.may_leave g.D.Disk.moment g.D.Disk.left_since _ _ c.requires.up refl (λ image left. g.met.D.Disk.only_now _ image tells left) tells

pub returns-in-None-clause-length : goal.returns-in-None-clause-length
returns-in-None-clause-length g c tells =
    let counted = c.requires.up.memory.counted in
    let none : btree_set_len c.args.self.now.memory.free ≡ 0 = none_of _ (λ some. c.in-None.ensures.variant.1 some) in
    within_more g.D.Disk.moment g.D.Disk.left_since g.D.Disk.may_leave (disk_of c.args.self.now) (disk_of c.grow.new.self) _ _ (omega (arith, none, counted.cells, counted.keys)) (c.grow.ensures.length tells)
