use Rattle.std.proofs.Common.{◌≡◌, ℕ, ◌+◌, ◌*◌, refl, subst, ◌∙◌, arith}
use Rattle.cas_slot.specs.Slots.{slot_count}
use Rattle.cas_cells.specs.Cells.{cells_of, disk_of}
use Rattle.cas_cells.specs.Format.{narrow_in}
use Rattle.cas_cells.specs.Length.{NotLonger}
use Rattle.cas_cells.proofs.Lengths.{then_no_longer}
use Rattle.cas_disk_shelf.specs.Memory.{AreCleared}
use Rattle.cas_disk_shelf.proofs.Narrow.{no_longer, shown_of, shown_still, then_shown}
use Rattle.cas_disk_shelf.proofs.moving.move_slots.Goals as goal

pub loop-i-init : goal.loop-i-init
loop-i-init g c =
    let r = c.requires in
    record {
      stands = r.stands;
      moving = r.moving;
      cleared = λ i pos low. absurd (omega (arith, pos, low));
      narrow = refl;
      held = refl;
      any_moment = λ tells. shown_still g.D.Disk.tells g.D.Disk.seen g.D.Disk.may_leave g.D.Disk.moment g.D.Disk.left_since c.args.cells.now c.args.loaded.now.memory.held r.stands (shown_of (cells_of c.args.cells.now) c.args.loaded.now r.stands.row r.moving)
          (λ image left. g.met.D.Disk.only_now _ image tells left) tells;
      length = λ tells. no_longer g.D.Disk.moment g.D.Disk.left_since g.D.Disk.may_leave (disk_of c.args.cells.now) _ (λ image left. g.met.D.Disk.only_now _ image tells left);
      faults = omega arith;
    }

pub move_slot-requires-clause-stands : goal.move_slot-requires-clause-stands
move_slot-requires-clause-stands g c = c.loop-i.invariant.stands

pub move_slot-requires-clause-moving : goal.move_slot-requires-clause-moving
move_slot-requires-clause-moving g c = c.loop-i.invariant.moving

pub move_slot-requires-clause-within : goal.move_slot-requires-clause-within
move_slot-requires-clause-within g c = omega (arith, c.loop-i-test.true, c.narrow_count-i-end.ensures.count, c.loop-i.invariant.narrow)

pub move_slot-requires-clause-cleared : goal.move_slot-requires-clause-cleared
move_slot-requires-clause-cleared g c = λ i pos low. c.loop-i.invariant.cleared i pos (omega (arith, low))

pub returns-in_err-move_slot-clause-narrow : goal.returns-in_err-move_slot-clause-narrow
returns-in_err-move_slot-clause-narrow g c = c.move_slot.ensures.narrow ∙ c.loop-i.invariant.narrow

pub returns-in_err-move_slot-clause-held : goal.returns-in_err-move_slot-clause-held
returns-in_err-move_slot-clause-held g c = c.move_slot.ensures.held ∙ c.loop-i.invariant.held

pub returns-in_err-move_slot-clause-any_moment : goal.returns-in_err-move_slot-clause-any_moment
returns-in_err-move_slot-clause-any_moment g c tells =
    let inv = c.loop-i.invariant in
    then_shown g.D.Disk.moment g.D.Disk.left_since (disk_of c.args.cells.now) (disk_of c.loop-i.cells) (disk_of c.move_slot.new.cells) c.args.loaded.now.memory.held c.loop-i.loaded.memory.held inv.held (inv.any_moment tells) (c.move_slot.ensures.any_moment tells)

pub returns-in_err-move_slot-clause-length : goal.returns-in_err-move_slot-clause-length
returns-in_err-move_slot-clause-length g c tells =
    let inv = c.loop-i.invariant in
    let held = inv.held in
    let bytes : ℕ = 1024 * (1 + narrow_in (cells_of c.args.cells.now)) + 9216 * (slot_count c.args.loaded.now.memory.held.slots + 1) in
    let same : 1024 * (1 + narrow_in (cells_of c.loop-i.cells)) + 9216 * (slot_count c.loop-i.loaded.memory.held.slots + 1) ≡ bytes = (λ t. 1024 * (1 + inv.narrow t) + 9216 * (slot_count (held t).slots + 1)) in
    let mid = disk_of c.loop-i.cells in
    then_no_longer g.D.Disk.moment g.D.Disk.left_since g.D.Disk.may_leave (disk_of c.args.cells.now) mid (disk_of c.move_slot.new.cells) bytes
    (λ image later left. g.met.D.Disk.counts_now mid _ image tells later left) (inv.length tells)
    (subst (NotLonger g.D.Disk.moment g.D.Disk.left_since g.D.Disk.may_leave mid (disk_of c.move_slot.new.cells)) same (c.move_slot.ensures.length tells))

pub loop-i-preserved : goal.loop-i-preserved
loop-i-preserved g c =
    record {
      stands = c.in_ok-move_slot.ensures.stands;
      moving = c.in_ok-move_slot.ensures.moving;
      cleared = c.in_ok-move_slot.ensures.cleared;
      narrow = c.move_slot.ensures.narrow ∙ c.loop-i.invariant.narrow;
      held = c.move_slot.ensures.held ∙ c.loop-i.invariant.held;
      any_moment = λ tells.
          let inv = c.loop-i.invariant in
          then_shown g.D.Disk.moment g.D.Disk.left_since (disk_of c.args.cells.now) (disk_of c.loop-i.cells) (disk_of c.move_slot.new.cells) c.args.loaded.now.memory.held c.loop-i.loaded.memory.held inv.held (inv.any_moment tells) (c.move_slot.ensures.any_moment tells);
      length = λ tells.
          let inv = c.loop-i.invariant in
          let held = inv.held in
          let bytes : ℕ = 1024 * (1 + narrow_in (cells_of c.args.cells.now)) + 9216 * (slot_count c.args.loaded.now.memory.held.slots + 1) in
          let same : 1024 * (1 + narrow_in (cells_of c.loop-i.cells)) + 9216 * (slot_count c.loop-i.loaded.memory.held.slots + 1) ≡ bytes = (λ t. 1024 * (1 + inv.narrow t) + 9216 * (slot_count (held t).slots + 1)) in
          let mid = disk_of c.loop-i.cells in
          then_no_longer g.D.Disk.moment g.D.Disk.left_since g.D.Disk.may_leave (disk_of c.args.cells.now) mid (disk_of c.move_slot.new.cells) bytes
          (λ image later left. g.met.D.Disk.counts_now mid _ image tells later left) (inv.length tells)
          (subst (NotLonger g.D.Disk.moment g.D.Disk.left_since g.D.Disk.may_leave mid (disk_of c.move_slot.new.cells)) same (c.move_slot.ensures.length tells));
      faults = omega (arith, c.loop-i.invariant.faults, c.move_slot.ensures.cause.never_falls);
    }

pub returns-clause-stands : goal.returns-clause-stands
returns-clause-stands g c = c.loop-i.invariant.stands

pub returns-clause-moving : goal.returns-clause-moving
returns-clause-moving g c = c.loop-i.invariant.moving

pub returns-clause-cleared : goal.returns-clause-cleared
returns-clause-cleared g c =
    let last : c.loop-i.i ≡ narrow_in (cells_of c.loop-i.cells) = omega (arith, c.loop-i-test.false, c.loop-i.auto.i-end, c.narrow_count-i-end.ensures.count, c.loop-i.invariant.narrow) in
    subst (AreCleared (cells_of c.loop-i.cells)) last c.loop-i.invariant.cleared

pub returns-clause-narrow : goal.returns-clause-narrow
returns-clause-narrow g c = c.loop-i.invariant.narrow

pub returns-clause-held : goal.returns-clause-held
returns-clause-held g c = c.loop-i.invariant.held

pub returns-clause-any_moment : goal.returns-clause-any_moment
returns-clause-any_moment g c tells = c.loop-i.invariant.any_moment tells

pub returns-clause-length : goal.returns-clause-length
returns-clause-length g c tells = c.loop-i.invariant.length tells
