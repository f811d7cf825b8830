use Rattle.std.specs.Ordering.{nat_cmp, is_eq}
use Rattle.std.proofs.Common.{◌≡◌, ℕ, ◌+◌, ◌<◌, Bool, false, cond, refl, ap, ◌∙◌, arith}
use Rattle.cas_cells.specs.Format.{count_in}
use Rattle.cas_cells.specs.Cells.{cells_of}
use Rattle.cas_disk_shelf.specs.Memory.{cell_of, is_free, freed}
use Rattle.cas_disk_shelf.proofs.Counting.{one_more, one_less}
use Rattle.cas_disk_shelf.proofs.Faults.{told_no_memory}
use Rattle.cas_disk_shelf.proofs.Keeping.{still, grow_moment, grown_up, same_up, past_not_free, taken_back}
use Rattle.cas_cells.proofs.Lengths.{within_more}
use Rattle.cas_disk_shelf.specs.Shelf.{disk_of}
use Rattle.cas_disk_shelf.proofs.Using.{head_here}
use Rattle.cas_disk_shelf.proofs.shelf.DiskShelf.grow.Goals as goal

pub returns-in_err-insert-clause-any_moment : goal.returns-in_err-insert-clause-any_moment
returns-in_err-insert-clause-any_moment g c tells =
    still g.D.Disk.tells g.D.Disk.seen g.D.Disk.may_leave g.D.Disk.moment g.D.Disk.left_since _ _ c.requires.up refl (λ image left. g.met.D.Disk.only_now _ image tells left) tells

pub returns-in-Err-clause-any_moment : goal.returns-in-Err-clause-any_moment
returns-in-Err-clause-any_moment g c tells =
    grow_moment g.D.Disk.tells g.D.Disk.seen g.D.Disk.may_leave g.D.Disk.moment g.D.Disk.left_since _ _ c.requires.up c.requires.room (c.grow.ensures.any_moment tells)

pub returns-clause-any_moment : goal.returns-clause-any_moment
returns-clause-any_moment g c tells =
    grow_moment g.D.Disk.tells g.D.Disk.seen g.D.Disk.may_leave g.D.Disk.moment g.D.Disk.left_since _ _ c.requires.up c.requires.room (c.grow.ensures.any_moment tells)

pub returns-in-Err-clause-up_still : goal.returns-in-Err-clause-up_still
returns-in-Err-clause-up_still g c no_memory =
    let up = c.requires.up in
    let old = c.args.self.now.memory in
    let row = cells_of c.args.self.now.cells in
    let past : count_in row < c.count.result + 1 = omega (arith, c.count.ensures) in
    let unused = past_not_free old.held (cell_of old) (is_free old) row up.memory.shown up.row.row (c.count.result + 1) past in
    let told = told_no_memory {T = ℕ} c.in-Err.fault c.fault_of.result c.fault_of.ensures c.grow.result c.in-Err.is no_memory in
    let more = one_more _ _ (is_free c.args.self.now.memory (c.count.result + 1)) c.in_ok-insert.field-0 unused c.in_ok-insert.ensures.added c.in_ok-insert.ensures.len in
    let less = one_less _ _ c.remove.result (c.remove.ensures.test ∙ c.in_ok-insert.ensures.updates.1) c.remove.ensures.len in
    same_up g.D.Disk.tells g.D.Disk.seen g.D.Disk.may_leave _ _ up (c.grow.ensures.after_no_memory told) c.in-Err.ensures.cells refl (λ q. refl)
    (λ j. c.remove.ensures.updates.0 j ∙ ap (λ (b : Bool). cond (is_eq (nat_cmp (c.count.result + 1) j)) false b) (c.in_ok-insert.ensures.updates.0 j) ∙ taken_back (is_free old) (c.count.result + 1) unused j)
    refl (omega (arith, more, less))

pub returns-clause-up : goal.returns-clause-up
returns-clause-up g c =
    let up = c.requires.up in
    let old = c.args.self.now.memory in
    let row = cells_of c.args.self.now.cells in
    let past : count_in row < c.count.result + 1 = omega (arith, c.count.ensures) in
    let last : c.count.result + 1 ≡ 1 + count_in row = omega (arith, c.count.ensures) in
    let unused = past_not_free old.held (cell_of old) (is_free old) row up.memory.shown up.row.row (c.count.result + 1) past in
    let more = one_more _ _ (is_free c.args.self.now.memory (c.count.result + 1)) c.in_ok-insert.field-0 unused c.in_ok-insert.ensures.added c.in_ok-insert.ensures.len in
    grown_up g.D.Disk.tells g.D.Disk.seen g.D.Disk.may_leave _ _ up c.requires.room c.in_default.ensures.stands c.in_default.ensures.grown refl refl
    (λ j. c.in_ok-insert.ensures.updates.0 j ∙ ap (λ (n : ℕ). freed (is_free old) n j) last) more

pub grow-requires-clause-head : goal.grow-requires-clause-head
grow-requires-clause-head g c =
    let up = c.requires.up in
    head_here (cells_of c.args.self.now.cells) _ _ _ up.memory.shown

pub grow-requires-clause-room : goal.grow-requires-clause-room
grow-requires-clause-room g c =
    let room = c.requires.room in
    room

pub returns-in-Err-clause-length : goal.returns-in-Err-clause-length
returns-in-Err-clause-length g c tells =
    within_more g.D.Disk.moment g.D.Disk.left_since g.D.Disk.may_leave (disk_of c.args.self.now) _ _ _ (omega arith) (c.grow.ensures.length tells)

pub returns-clause-length : goal.returns-clause-length
returns-clause-length g c tells =
    within_more g.D.Disk.moment g.D.Disk.left_since g.D.Disk.may_leave (disk_of c.args.self.now) _ _ _ (omega arith) (c.grow.ensures.length tells)
