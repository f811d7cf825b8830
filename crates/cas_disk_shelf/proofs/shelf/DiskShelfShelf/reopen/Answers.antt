use Rattle.std.proofs.Common.{◌≡◌, ℕ, ◌+◌, ◌*◌, Ok, ap, refl, sym, length, arith, ◌∙◌, subst}
use Rattle.cas_slot.specs.Limits.{AllBallotsFit}
use Rattle.cas_slot.specs.Slots.{slot_count}
use Rattle.cas_disk.proofs.Moments.{reread, then_on}
use Rattle.cas_cells.specs.Cells as cells
use Rattle.cas_cells.specs.Format.{narrow_in}
use Rattle.cas_cells.specs.Length.{NotLonger}
use Rattle.cas_cells.proofs.Lengths.{then_no_longer, no_longer_than_seen, within_more}
use Rattle.cas_disk_shelf.specs.Image.{left_on}
use Rattle.cas_disk_shelf.specs.Shelf.{disk_of, ShelfMayLeave}
use Rattle.cas_disk_shelf.proofs.Leaving.{as_shelf, taken_up}
use Rattle.cas_disk_shelf.proofs.Lengths.{stays_short, stays_within}
use Rattle.cas_disk_shelf.proofs.Narrow.{up_memory}
use Rattle.cas_disk_shelf.proofs.shelf.DiskShelfShelf.reopen.Goals as goal

pub returns-in_err-loaded-clause-any_moment : goal.returns-in_err-loaded-clause-any_moment
returns-in_err-loaded-clause-any_moment g c tells =
    let old = c.args.self.now in
    as_shelf g.D.Disk.moment g.D.Disk.left_since old c.recover.new.self (g.D.Disk.may_leave (disk_of old)) (ShelfMayLeave g.D.Disk.may_leave old) (λ image left. (image, left, refl))
    (reread g.D.Disk.moment g.D.Disk.left_since g.D.Disk.may_leave (disk_of old) _ _ _ _ (c.forget_past.ensures.now tells) (c.forget_past.ensures.kept tells).outcomes (λ image left. g.met.D.Disk.only_now _ image tells left)
    (c.crash.ensures.time tells) (c.crash.ensures.image tells) (c.crash.ensures.settled tells) (c.recover.ensures.any_moment tells))

pub returns-in_err-loaded-clause-length : goal.returns-in_err-loaded-clause-length
returns-in_err-loaded-clause-length g c tells =
    let old = c.args.self.now in
    let began = cells.disk_of c.forget_past.new.self in
    let mid = cells.disk_of c.crash.new.self in
    let new = disk_of c.recover.new.self in
    let seen = g.D.Disk.seen mid in
    stays_short g.D.Disk.moment g.D.Disk.left_since g.D.Disk.may_leave old c.recover.new.self began 0
    (c.forget_past.ensures.now tells) (c.forget_past.ensures.kept tells).outcomes (λ t image later left. g.met.D.Disk.counts_now new t image tells later left) (omega arith)
    (then_no_longer g.D.Disk.moment g.D.Disk.left_since g.D.Disk.may_leave began mid new 0
    (λ image later left. g.met.D.Disk.counts_now mid _ image tells later left) (c.crash.ensures.length tells)
    (no_longer_than_seen g.D.Disk.moment g.D.Disk.left_since g.D.Disk.may_leave mid new seen (λ image. image ≡ seen) (g.met.D.Disk.seen_may_stay mid tells)
    (λ image same. omega (arith, ap length same)) (c.recover.ensures.any_moment tells)))

pub returns-in_err-renew-clause-any_moment : goal.returns-in_err-renew-clause-any_moment
returns-in_err-renew-clause-any_moment g c tells =
    let old = c.args.self.now in
    taken_up g.D.Disk.moment g.D.Disk.left_since g.D.Disk.may_leave old _ (cells.disk_of c.forget_past.new.self) (cells.disk_of c.crash.new.self) (disk_of c.recover.new.self) (g.D.Disk.seen (cells.disk_of c.crash.new.self)) c.in_ok-loaded.loaded.memory.held
    (c.forget_past.ensures.now tells) (c.forget_past.ensures.kept tells).outcomes (λ image left. g.met.D.Disk.only_now _ image tells left)
    (c.crash.ensures.time tells) (c.crash.ensures.image tells) (c.crash.ensures.settled tells) (c.recover.ensures.any_moment tells) (c.in_ok-loaded.ensures.recovered tells)
    (c.renew.ensures.any_moment tells)

pub returns-in_err-move_slots-clause-any_moment : goal.returns-in_err-move_slots-clause-any_moment
returns-in_err-move_slots-clause-any_moment g c tells =
    let old = c.args.self.now in
    taken_up g.D.Disk.moment g.D.Disk.left_since g.D.Disk.may_leave old _ (cells.disk_of c.forget_past.new.self) (cells.disk_of c.crash.new.self) (disk_of c.recover.new.self) (g.D.Disk.seen (cells.disk_of c.crash.new.self)) c.in_ok-loaded.loaded.memory.held
    (c.forget_past.ensures.now tells) (c.forget_past.ensures.kept tells).outcomes (λ image left. g.met.D.Disk.only_now _ image tells left)
    (c.crash.ensures.time tells) (c.crash.ensures.image tells) (c.crash.ensures.settled tells) (c.recover.ensures.any_moment tells) (c.in_ok-loaded.ensures.recovered tells)
    (then_on g.D.Disk.moment g.D.Disk.left_since (disk_of c.recover.new.self) (cells.disk_of c.renew.new.cells) (cells.disk_of c.move_slots.new.cells) (λ image. left_on image ≡ Ok c.in_ok-loaded.loaded.memory.held) (c.renew.ensures.any_moment tells) (c.move_slots.ensures.any_moment tells))

pub returns-clause-any_moment : goal.returns-clause-any_moment
returns-clause-any_moment g c tells =
    let old = c.args.self.now in
    taken_up g.D.Disk.moment g.D.Disk.left_since g.D.Disk.may_leave old _ (cells.disk_of c.forget_past.new.self) (cells.disk_of c.crash.new.self) (disk_of c.recover.new.self) (g.D.Disk.seen (cells.disk_of c.crash.new.self)) c.in_ok-loaded.loaded.memory.held
    (c.forget_past.ensures.now tells) (c.forget_past.ensures.kept tells).outcomes (λ image left. g.met.D.Disk.only_now _ image tells left)
    (c.crash.ensures.time tells) (c.crash.ensures.image tells) (c.crash.ensures.settled tells) (c.recover.ensures.any_moment tells) (c.in_ok-loaded.ensures.recovered tells)
    (then_on g.D.Disk.moment g.D.Disk.left_since (disk_of c.recover.new.self) (cells.disk_of c.renew.new.cells) (cells.disk_of c.move_slots.new.cells) (λ image. left_on image ≡ Ok c.in_ok-loaded.loaded.memory.held) (c.renew.ensures.any_moment tells) (c.move_slots.ensures.any_moment tells))

pub returns-in_err-renew-clause-length : goal.returns-in_err-renew-clause-length
returns-in_err-renew-clause-length g c tells =
    let old = c.args.self.now in
    let began = cells.disk_of c.forget_past.new.self in
    let mid = cells.disk_of c.crash.new.self in
    let read = disk_of c.recover.new.self in
    let new = cells.disk_of c.renew.new.cells in
    let seen = g.D.Disk.seen mid in
    stays_short g.D.Disk.moment g.D.Disk.left_since g.D.Disk.may_leave old _ began 0
    (c.forget_past.ensures.now tells) (c.forget_past.ensures.kept tells).outcomes (λ t image later left. g.met.D.Disk.counts_now new t image tells later left) (omega arith)
    (then_no_longer g.D.Disk.moment g.D.Disk.left_since g.D.Disk.may_leave began read new 0
    (λ image later left. g.met.D.Disk.counts_now read _ image tells later left)
    (then_no_longer g.D.Disk.moment g.D.Disk.left_since g.D.Disk.may_leave began mid read 0
    (λ image later left. g.met.D.Disk.counts_now mid _ image tells later left) (c.crash.ensures.length tells)
    (no_longer_than_seen g.D.Disk.moment g.D.Disk.left_since g.D.Disk.may_leave mid read seen (λ image. image ≡ seen) (g.met.D.Disk.seen_may_stay mid tells)
    (λ image same. omega (arith, ap length same)) (c.recover.ensures.any_moment tells)))
    (c.renew.ensures.length tells))

pub returns-in_err-move_slots-clause-length : goal.returns-in_err-move_slots-clause-length
returns-in_err-move_slots-clause-length g c tells =
    let old = c.args.self.now in
    let began = cells.disk_of c.forget_past.new.self in
    let mid = cells.disk_of c.crash.new.self in
    let read = disk_of c.recover.new.self in
    let renewed = cells.disk_of c.renew.new.cells in
    let new = cells.disk_of c.move_slots.new.cells in
    let seen = g.D.Disk.seen mid in
    let held = c.in_ok-loaded.loaded.memory.held in
    let bytes : ℕ = 1024 * (1 + narrow_in (cells.cells_of c.renew.new.cells)) + 9216 * (slot_count held.slots + 1) in
    let more = λ (a b : g.row.D.Denot) (run : NotLonger g.D.Disk.moment g.D.Disk.left_since g.D.Disk.may_leave a b 0). within_more g.D.Disk.moment g.D.Disk.left_since g.D.Disk.may_leave a b 0 bytes (omega arith) run in
    let left : ShelfMayLeave g.D.Disk.may_leave old (Ok held) = (seen, (c.forget_past.ensures.kept tells).outcomes _ (c.crash.ensures.image tells), sym (c.in_ok-loaded.ensures.recovered tells)) in
    stays_within g.D.Disk.moment g.D.Disk.left_since g.D.Disk.may_leave old _ began bytes
    (c.forget_past.ensures.now tells) (c.forget_past.ensures.kept tells).outcomes (λ t image later left'. g.met.D.Disk.counts_now new t image tells later left')
    (λ narrow before low holds. let few = holds.left held left in omega (arith, few, c.move_slots.ensures.narrow))
    (then_no_longer g.D.Disk.moment g.D.Disk.left_since g.D.Disk.may_leave began renewed new bytes
    (λ image later left'. g.met.D.Disk.counts_now renewed _ image tells later left')
    (then_no_longer g.D.Disk.moment g.D.Disk.left_since g.D.Disk.may_leave began read renewed bytes
    (λ image later left'. g.met.D.Disk.counts_now read _ image tells later left')
    (then_no_longer g.D.Disk.moment g.D.Disk.left_since g.D.Disk.may_leave began mid read bytes
    (λ image later left'. g.met.D.Disk.counts_now mid _ image tells later left') (more began mid (c.crash.ensures.length tells))
    (more mid read (no_longer_than_seen g.D.Disk.moment g.D.Disk.left_since g.D.Disk.may_leave mid read seen (λ image. image ≡ seen) (g.met.D.Disk.seen_may_stay mid tells)
    (λ image same. omega (arith, ap length same)) (c.recover.ensures.any_moment tells))))
    (more read renewed (c.renew.ensures.length tells)))
    (c.move_slots.ensures.length tells))

pub returns-clause-length : goal.returns-clause-length
returns-clause-length g c tells =
    let old = c.args.self.now in
    let began = cells.disk_of c.forget_past.new.self in
    let mid = cells.disk_of c.crash.new.self in
    let read = disk_of c.recover.new.self in
    let renewed = cells.disk_of c.renew.new.cells in
    let new = cells.disk_of c.move_slots.new.cells in
    let seen = g.D.Disk.seen mid in
    let held = c.in_ok-loaded.loaded.memory.held in
    let bytes : ℕ = 1024 * (1 + narrow_in (cells.cells_of c.renew.new.cells)) + 9216 * (slot_count held.slots + 1) in
    let more = λ (a b : g.row.D.Denot) (run : NotLonger g.D.Disk.moment g.D.Disk.left_since g.D.Disk.may_leave a b 0). within_more g.D.Disk.moment g.D.Disk.left_since g.D.Disk.may_leave a b 0 bytes (omega arith) run in
    let left : ShelfMayLeave g.D.Disk.may_leave old (Ok held) = (seen, (c.forget_past.ensures.kept tells).outcomes _ (c.crash.ensures.image tells), sym (c.in_ok-loaded.ensures.recovered tells)) in
    stays_within g.D.Disk.moment g.D.Disk.left_since g.D.Disk.may_leave old _ began bytes
    (c.forget_past.ensures.now tells) (c.forget_past.ensures.kept tells).outcomes (λ t image later left'. g.met.D.Disk.counts_now new t image tells later left')
    (λ narrow before low holds. let few = holds.left held left in omega (arith, few, c.move_slots.ensures.narrow))
    (then_no_longer g.D.Disk.moment g.D.Disk.left_since g.D.Disk.may_leave began renewed new bytes
    (λ image later left'. g.met.D.Disk.counts_now renewed _ image tells later left')
    (then_no_longer g.D.Disk.moment g.D.Disk.left_since g.D.Disk.may_leave began read renewed bytes
    (λ image later left'. g.met.D.Disk.counts_now read _ image tells later left')
    (then_no_longer g.D.Disk.moment g.D.Disk.left_since g.D.Disk.may_leave began mid read bytes
    (λ image later left'. g.met.D.Disk.counts_now mid _ image tells later left') (more began mid (c.crash.ensures.length tells))
    (more mid read (no_longer_than_seen g.D.Disk.moment g.D.Disk.left_since g.D.Disk.may_leave mid read seen (λ image. image ≡ seen) (g.met.D.Disk.seen_may_stay mid tells)
    (λ image same. omega (arith, ap length same)) (c.recover.ensures.any_moment tells))))
    (more read renewed (c.renew.ensures.length tells)))
    (c.move_slots.ensures.length tells))

pub returns-clause-reopened : goal.returns-clause-reopened
returns-clause-reopened g c tells =
    (g.D.Disk.seen (cells.disk_of c.crash.new.self), (c.forget_past.ensures.kept tells).outcomes _ (c.crash.ensures.image tells), ap (λ x. Ok x) c.move_slots.ensures.held ∙ sym (c.in_ok-loaded.ensures.recovered tells))

pub returns-clause-up : goal.returns-clause-up
returns-clause-up g c = record {
  row = c.in_ok-move_slots.ensures.stands;
  memory = up_memory (cells.cells_of c.move_slots.new.cells) c.move_slots.new.loaded c.in_ok-move_slots.ensures.stands.row c.in_ok-move_slots.ensures.moving c.in_ok-move_slots.ensures.cleared;
  fits = subst AllBallotsFit (sym c.move_slots.ensures.held) c.in_ok-loaded.ensures.fits;
}
