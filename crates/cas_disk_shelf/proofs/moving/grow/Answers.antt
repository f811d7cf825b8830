use Rattle.std.proofs.Common.{ℕ, List, Option, ◌+◌, ◌<◌, refl, sym, ap, subst, ◌∙◌, arith}
use Rattle.cas_cells.specs.Cells.{cells_of, disk_of}
use Rattle.cas_cells.specs.Format.{count_in, wide_in}
use Rattle.cas_cells.proofs.Lengths.{within_more}
use Rattle.cas_disk_shelf.specs.Image.{cell_in}
use Rattle.cas_disk_shelf.specs.Memory.{is_free, freed, IsMoving}
use Rattle.cas_disk_shelf.proofs.Counting.{one_more}
use Rattle.cas_disk_shelf.proofs.Narrow.{grown_moving, grown_others, grown_shown, past_unused, shown_moment, shown_of, shown_still}
use Rattle.cas_disk_shelf.proofs.moving.grow.Goals as goal

pub returns-in_err-insert-clause-any_moment : goal.returns-in_err-insert-clause-any_moment
returns-in_err-insert-clause-any_moment g c tells =
    let r = c.requires in
    shown_still g.D.Disk.tells g.D.Disk.seen g.D.Disk.may_leave g.D.Disk.moment g.D.Disk.left_since c.args.cells.now c.args.loaded.now.memory.held r.stands (shown_of (cells_of c.args.cells.now) c.args.loaded.now r.stands.row r.moving)
    (λ image left. g.met.D.Disk.only_now _ image tells left) tells

pub returns-in-Err-clause-any_moment : goal.returns-in-Err-clause-any_moment
returns-in-Err-clause-any_moment g c tells =
    let r = c.requires in
    let row = cells_of c.args.cells.now in
    let few = r.moving.behind.few in
    let room : wide_in row < 4096 = omega (arith, r.room, few) in
    shown_moment g.D.Disk.moment g.D.Disk.left_since (disk_of c.args.cells.now) (disk_of c.grow.new.self) row _ c.args.loaded.now.memory.held (shown_of row c.args.loaded.now r.stands.row r.moving)
    (grown_shown row c.args.loaded.now r.moving r.stands.row room) (c.grow.ensures.any_moment tells)

pub returns-in-Err-clause-length : goal.returns-in-Err-clause-length
returns-in-Err-clause-length g c tells =
    let room = c.requires.room in
    within_more g.D.Disk.moment g.D.Disk.left_since g.D.Disk.may_leave (disk_of c.args.cells.now) (disk_of c.grow.new.self) _ _ (omega (arith, room)) (c.grow.ensures.length tells)

pub returns-clause-moving : goal.returns-clause-moving
returns-clause-moving g c =
    let r = c.requires in
    let row = cells_of c.args.cells.now in
    let few = r.moving.behind.few in
    let old = c.args.loaded.now in
    let room : wide_in row < 4096 = omega (arith, r.room, few) in
    let past : count_in row < c.count-cell.result + 1 = omega (arith, c.count-cell.ensures) in
    let unused = past_unused row old r.moving r.stands.row (c.count-cell.result + 1) past in
    let more = one_more _ _ (is_free old.memory (c.count-cell.result + 1)) c.in_ok-insert.field-0 unused c.in_ok-insert.ensures.added c.in_ok-insert.ensures.len in
    subst (λ (l : List (Option (List ℕ))). IsMoving l (record { memory = record { held = old.memory.held; index = old.memory.index; free = c.insert.new.self }; alone = old.alone })) (sym c.in_default.ensures.grown)
    (grown_moving row old r.moving r.stands.row room (record { memory = record { held = old.memory.held; index = old.memory.index; free = c.insert.new.self }; alone = old.alone }) refl refl refl
    (λ j. c.in_ok-insert.ensures.updates.0 j ∙ ap (λ (n : ℕ). freed (is_free old.memory) (n + 1) j) c.count-cell.ensures) more)

pub returns-clause-others : goal.returns-clause-others
returns-clause-others g c i pos low =
    let r = c.requires in
    let row = cells_of c.args.cells.now in
    let few = r.moving.behind.few in
    let room : wide_in row < 4096 = omega (arith, r.room, few) in
    ap (λ (l : List (Option (List ℕ))). cell_in l i) c.in_default.ensures.grown ∙ grown_others row c.args.loaded.now r.moving r.stands.row room i pos low

pub returns-clause-any_moment : goal.returns-clause-any_moment
returns-clause-any_moment g c tells =
    let r = c.requires in
    let row = cells_of c.args.cells.now in
    let few = r.moving.behind.few in
    let room : wide_in row < 4096 = omega (arith, r.room, few) in
    shown_moment g.D.Disk.moment g.D.Disk.left_since (disk_of c.args.cells.now) (disk_of c.grow.new.self) row _ c.args.loaded.now.memory.held (shown_of row c.args.loaded.now r.stands.row r.moving)
    (grown_shown row c.args.loaded.now r.moving r.stands.row room) (c.grow.ensures.any_moment tells)

pub returns-clause-length : goal.returns-clause-length
returns-clause-length g c tells =
    let room = c.requires.room in
    within_more g.D.Disk.moment g.D.Disk.left_since g.D.Disk.may_leave (disk_of c.args.cells.now) (disk_of c.grow.new.self) _ _ (omega (arith, room)) (c.grow.ensures.length tells)
