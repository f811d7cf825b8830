use Rattle.std.proofs.Common.{ℕ, ◌+◌, ◌*◌, subst, arith}
use Rattle.cas_slot.specs.Contents.{Contents, with_kept}
use Rattle.cas_slot.specs.Shelf.{IsOldOrNew}
use Rattle.cas_slot.specs.Slots.{slot_count}
use Rattle.cas_disk_shelf.specs.Shelf.{disk_of, contents_of, narrow_of, ShelfContinuesOnly}
use Rattle.cas_disk_shelf.proofs.Leaving.{unchanged, then_changed}
use Rattle.cas_cells.proofs.Lengths.{within_more, then_no_longer}
use Rattle.cas_disk_shelf.proofs.shelf.DiskShelf.add.Goals as goal

pub returns-in_err-cell-clause-any_moment : goal.returns-in_err-cell-clause-any_moment
returns-in_err-cell-clause-any_moment g c tells =
    unchanged g.D.Disk.moment g.D.Disk.left_since _ _ (contents_of c.args.self.now) _ (c.unused_cell.ensures.any_moment tells)

pub returns-clause-any_moment : goal.returns-clause-any_moment
returns-clause-any_moment g c tells =
    let old = c.args.self.now in
    let mid = disk_of c.unused_cell.new.self in
    let new = disk_of c.add_at.new.self in
    let put : ShelfContinuesOnly g.D.Disk.moment g.D.Disk.left_since mid new (IsOldOrNew (contents_of old) (with_kept (contents_of old) c.args.key.now c.args.slot)) =
    subst (λ (x : Contents). ShelfContinuesOnly g.D.Disk.moment g.D.Disk.left_since mid new (IsOldOrNew x (with_kept x c.args.key.now c.args.slot))) c.unused_cell.ensures.contents (c.add_at.ensures.any_moment tells) in
    then_changed g.D.Disk.moment g.D.Disk.left_since (disk_of old) mid new (contents_of old) (with_kept (contents_of old) c.args.key.now c.args.slot) (c.unused_cell.ensures.any_moment tells) put

pub returns-clause-length : goal.returns-clause-length
returns-clause-length g c tells =
    let mid = disk_of c.unused_cell.new.self in
    let new = disk_of c.add_at.new.self in
    let bytes : ℕ = 1024 * (1 + narrow_of c.args.self.now) + 9216 * (slot_count (contents_of c.args.self.now).slots + 1) in
    then_no_longer g.D.Disk.moment g.D.Disk.left_since g.D.Disk.may_leave (disk_of c.args.self.now) mid new bytes
    (λ image later left. g.met.D.Disk.counts_now mid _ image tells later left) (c.unused_cell.ensures.length tells)
    (within_more g.D.Disk.moment g.D.Disk.left_since g.D.Disk.may_leave mid new 0 bytes (omega arith) (c.add_at.ensures.length tells))
