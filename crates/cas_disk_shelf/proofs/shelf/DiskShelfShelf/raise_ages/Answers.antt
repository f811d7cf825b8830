use Rattle.std.proofs.Common.{ap, subst, ◌∙◌, refl, arith}
use Rattle.cas_slot.specs.Ages.{raised}
use Rattle.cas_slot.specs.Shelf.{IsOldOrNew, ShelfLeavesOnly}
use Rattle.cas_slot.specs.declared.ages.Ages.{Ages}
use Rattle.cas_cells.specs.Cells as cells
use Rattle.cas_disk_shelf.specs.Shelf.{disk_of, contents_of, moment_of, ShelfLeftSince}
use Rattle.cas_disk_shelf.proofs.Keeping.{still_up}
use Rattle.cas_disk_shelf.proofs.Leaving.{from_there}
use Rattle.cas_disk_shelf.proofs.Lengths.{stays_short}
use Rattle.cas_disk_shelf.proofs.shelf.DiskShelfShelf.raise_ages.Goals as goal

pub set_ages-requires : goal.set_ages-requires
set_ages-requires g c =
    let up = c.requires in
    still_up g.D.Disk.tells g.D.Disk.seen g.D.Disk.may_leave c.args.self.now _ up (c.forget_past.ensures.stands up.row) c.forget_past.ensures.cells refl

pub returns-clause-any_moment : goal.returns-clause-any_moment
returns-clause-any_moment g c tells =
    let old = c.args.self.now in
    subst (λ (ages : Ages). ShelfLeavesOnly (moment_of g.D.Disk.moment) (ShelfLeftSince g.D.Disk.left_since) old c.set_ages.new.self (IsOldOrNew (contents_of old) (record (contents_of old) { ages = ages })))
    (c.raise.ensures ∙ ap (λ (ages : Ages). raised ages c.args.least.now) c.ages-ages.ensures)
    (from_there g.D.Disk.moment g.D.Disk.left_since old _ _ (IsOldOrNew (contents_of old) (record (contents_of old) { ages = c.raise.new.self })) (c.forget_past.ensures.now tells) (c.set_ages.ensures.any_moment tells))

pub returns-clause-length : goal.returns-clause-length
returns-clause-length g c tells =
    let old = c.args.self.now in
    let new = c.set_ages.new.self in
    stays_short g.D.Disk.moment g.D.Disk.left_since g.D.Disk.may_leave old new (cells.disk_of c.forget_past.new.self) 0
    (c.forget_past.ensures.now tells) (c.forget_past.ensures.kept tells).outcomes (λ t image later left. g.met.D.Disk.counts_now (disk_of new) t image tells later left) (omega arith) (c.set_ages.ensures.length tells)
