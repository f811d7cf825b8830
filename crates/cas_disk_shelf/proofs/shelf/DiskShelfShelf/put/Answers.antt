use Rattle.std.proofs.Common.{◌≡◌, ℕ, ◌+◌, ◌*◌, Ok, refl, ap, arith}
use Rattle.cas_slot.specs.Contents.{with_kept}
use Rattle.cas_slot.specs.Shelf.{IsOldOrNew}
use Rattle.cas_slot.specs.Slots.{slot_count}
use Rattle.cas_cells.specs.Cells as cells
use Rattle.cas_cells.specs.Format.{narrow_in}
use Rattle.cas_disk_shelf.specs.Shelf.{disk_of, contents_of, narrow_of}
use Rattle.cas_disk_shelf.proofs.Keeping.{still_up}
use Rattle.cas_disk_shelf.proofs.Leaving.{from_there}
use Rattle.cas_disk_shelf.proofs.Lengths.{stays_short}
use Rattle.cas_disk_shelf.proofs.shelf.DiskShelfShelf.put.Goals as goal

pub keep-requires-clause-up : goal.keep-requires-clause-up
keep-requires-clause-up g c =
    let up = c.requires.up in
    still_up g.D.Disk.tells g.D.Disk.seen g.D.Disk.may_leave c.args.self.now _ up (c.forget_past.ensures.stands up.row) c.forget_past.ensures.cells refl

pub returns-clause-untouched_when_full : goal.returns-clause-untouched_when_full
returns-clause-untouched_when_full g c tells full =
    from_there g.D.Disk.moment g.D.Disk.left_since c.args.self.now _ _ (λ left. left ≡ Ok (contents_of c.args.self.now)) (c.forget_past.ensures.now tells) (c.keep.ensures.untouched_when_full tells full)

pub returns-clause-any_moment : goal.returns-clause-any_moment
returns-clause-any_moment g c tells =
    let old = contents_of c.args.self.now in
    from_there g.D.Disk.moment g.D.Disk.left_since c.args.self.now _ _ (IsOldOrNew old (with_kept old c.args.key.now c.args.slot)) (c.forget_past.ensures.now tells) (c.keep.ensures.any_moment tells)

pub returns-clause-length : goal.returns-clause-length
returns-clause-length g c tells =
    let old = c.args.self.now in
    let new = c.keep.new.self in
    let narrow : ℕ = narrow_in (cells.cells_of c.forget_past.new.self) in
    let same : narrow ≡ narrow_of old = ap narrow_in c.forget_past.ensures.cells in
    stays_short g.D.Disk.moment g.D.Disk.left_since g.D.Disk.may_leave old new (cells.disk_of c.forget_past.new.self) (1024 * (1 + narrow) + 9216 * (slot_count (contents_of old).slots + 1))
    (c.forget_past.ensures.now tells) (c.forget_past.ensures.kept tells).outcomes (λ t image later left. g.met.D.Disk.counts_now (disk_of new) t image tells later left) (omega (arith, same)) (c.keep.ensures.length tells)
