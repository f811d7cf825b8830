use Rattle.std.proofs.Common.{◌+◌, ◌*◌, refl, arith}
use Rattle.cas_slot.specs.Slots.{slot_count}
use Rattle.cas_cells.proofs.Lengths.{within_more}
use Rattle.cas_disk_shelf.proofs.Keeping.{still, still_old}
use Rattle.cas_disk_shelf.specs.Shelf.{disk_of, contents_of, narrow_of}
use Rattle.cas_disk_shelf.proofs.shelf.DiskShelf.keep.Goals as goal

pub returns-then-len-ge-MOST_SLOTS-clause-untouched_when_full : goal.returns-then-len-ge-MOST_SLOTS-clause-untouched_when_full
returns-then-len-ge-MOST_SLOTS-clause-untouched_when_full g c tells full =
    still g.D.Disk.tells g.D.Disk.seen g.D.Disk.may_leave g.D.Disk.moment g.D.Disk.left_since _ _ c.requires.up refl (λ image left. g.met.D.Disk.only_now _ image tells left) tells

pub returns-then-len-ge-MOST_SLOTS-clause-any_moment : goal.returns-then-len-ge-MOST_SLOTS-clause-any_moment
returns-then-len-ge-MOST_SLOTS-clause-any_moment g c tells =
    still_old g.D.Disk.tells g.D.Disk.seen g.D.Disk.may_leave g.D.Disk.moment g.D.Disk.left_since _ _ c.requires.up _ refl (λ image left. g.met.D.Disk.only_now _ image tells left) tells

pub returns-in-Some-clause-length : goal.returns-in-Some-clause-length
returns-in-Some-clause-length g c tells =
    within_more g.D.Disk.moment g.D.Disk.left_since g.D.Disk.may_leave (disk_of c.args.self.now) (disk_of c.rewrite.new.self) 0 (1024 * (1 + narrow_of c.args.self.now) + 9216 * (slot_count (contents_of c.args.self.now).slots + 1)) (omega arith) (c.rewrite.ensures.length tells)
