use Rattle.std.specs.Ordering.{nat_cmp}
use Rattle.std.specs.BTreeSet.{contains, btree_set_len}
use Rattle.indexmap.specs.IndexMap.{index_map_len}
use Rattle.std.proofs.Common.{◌≡◌, ℕ, List, Option, Some, ◌+◌, ◌-◌, ◌*◌, ◌<◌, refl, sym, ap, subst, ◌∙◌, arith}
use Rattle.cas_slot.specs.Slots.{slot_count}
use Rattle.cas_cells.specs.Cells.{cells_of, disk_of}
use Rattle.cas_cells.specs.Format.{count_in, narrow_in}
use Rattle.cas_cells.proofs.Lengths.{then_no_longer, within_more}
use Rattle.cas_disk_shelf.specs.Image.{cell_in, entry_held}
use Rattle.cas_disk_shelf.specs.Memory.{alone_in, cell_of, is_free, AreCounted, CellHolds, IsMoving}
use Rattle.cas_disk_shelf.specs.ShowLaws.{only_there}
use Rattle.cas_disk_shelf.proofs.Counting.{one_less}
use Rattle.cas_disk_shelf.proofs.Entries.{slot_payload_read}
use Rattle.cas_disk_shelf.proofs.Narrow.{changed_narrow, copied_moving, copied_others, copied_shown, shown_moment, shown_of, shown_still, some_keyed, then_shown}
use Rattle.cas_disk_shelf.proofs.Using.{fits_behind}
use Rattle.cas_disk_shelf.proofs.moving.copy_slot.Goals as goal

pub returns-in_default-clause-any_moment : goal.returns-in_default-clause-any_moment
returns-in_default-clause-any_moment g c tells =
    let r = c.requires in
    shown_still g.D.Disk.tells g.D.Disk.seen g.D.Disk.may_leave g.D.Disk.moment g.D.Disk.left_since c.args.cells.now c.args.loaded.now.memory.held r.stands (shown_of (cells_of c.args.cells.now) c.args.loaded.now r.stands.row r.moving)
    (λ image left. g.met.D.Disk.only_now _ image tells left) tells

pub unused_cell-requires-clause-some : goal.unused_cell-requires-clause-some
unused_cell-requires-clause-some g c = some_keyed c.args.loaded.now.alone.entries c.args.key c.in-Some._from (sym c.alone_in.ensures ∙ c.in-Some.is)

pub change-requires-clause-fits : goal.change-requires-clause-fits
change-requires-clause-fits g c =
    let r = c.requires in
    let u = c.in_ok-cell.ensures in
    let spare = u.moving.behind.known.free c.in_ok-cell.cell u.free in
    fits_behind (cells_of c.unused_cell.new.cells) c.in_ok-cell.cell c.args.payload.now spare.0 (slot_payload_read c.args.payload.now c.args.key r.holds.0 (λ i. omega (arith, c.type_inv.payload i)) r.holds.1)

pub settle-requires-clause-alone : goal.settle-requires-clause-alone
settle-requires-clause-alone g c =
    (c.in-Some._from, ap (λ x. alone_in (record c.args.loaded.now { alone = x }) c.args.key) c.unused_cell.ensures.alone ∙ sym c.alone_in.ensures ∙ c.in-Some.is)

pub returns-clause-moving : goal.returns-clause-moving
returns-clause-moving g c =
    let r = c.requires in
    let row = cells_of c.args.cells.now in
    let old = c.args.loaded.now in
    let u = c.in_ok-cell.ensures in
    let row1 = cells_of c.unused_cell.new.cells in
    let new = c.unused_cell.new.loaded in
    let alone : alone_in old c.args.key ≡ Some c.in-Some._from = sym c.alone_in.ensures ∙ c.in-Some.is in
    let held : CellHolds (cell_in row) (count_in row) c.args.narrow c.args.key r.holds.0 = record { behind = r.behind; within = omega (arith, r.within); holds = ap entry_held r.own ∙ r.holds.1 } in
    let its : c.in-Some._from ≡ c.args.narrow = sym (only_there (narrow_in row) (cell_in row) (count_in row) (cell_of old.memory) (alone_in old) (is_free old.memory) r.moving.behind.known c.args.key c.in-Some._from alone c.args.narrow r.holds.0 held) in
    let alone1 : alone_in new c.args.key ≡ Some c.args.narrow = ap (λ x. alone_in (record old { alone = x }) c.args.key) c.unused_cell.ensures.alone ∙ alone ∙ ap (λ (n : ℕ). Some n) its in
    let own1 : cell_in row1 c.args.narrow ≡ Some c.args.payload.now = u.others c.args.narrow r.behind r.within ∙ r.own in
    let spare = u.moving.behind.known.free c.in_ok-cell.cell u.free in
    let far = spare.0 in
    let pos : 0 < c.in_ok-cell.cell = omega (arith, far) in
    let removed_one = one_less _ _ c.remove.result (c.remove.ensures.test ∙ u.free) c.remove.ensures.len in
    let counted : AreCounted c.settle.new.self (index_map_len new.memory.index + btree_set_len c.remove.new.self + 1) =
    c.in_ok-settle.ensures.counted (index_map_len new.memory.index + btree_set_len c.remove.new.self) (record { cells = refl; keys = u.moving.behind.counted.keys }) in
    let wide : index_map_len new.memory.index + btree_set_len c.remove.new.self + 1 ≡ count_in row1 - narrow_in row1 = omega (arith, removed_one, u.moving.behind.counted.cells) in
    subst (λ (l : List (Option (List ℕ))). IsMoving l c.settle.new.self) (sym c.in_ok-change.ensures.changed)
    (copied_moving row1 new u.moving u.stands.row c.in_ok-cell.cell c.args.payload.now pos c.args.narrow c.args.key alone1 own1 u.free c.settle.new.self c.settle.ensures.held c.in_ok-settle.ensures.index c.in_ok-settle.ensures.alone
    (λ j. ap (λ x. contains nat_cmp x j) c.settle.ensures.free ∙ c.remove.ensures.updates.0 j) (subst (AreCounted c.settle.new.self) wide counted))

pub returns-clause-others : goal.returns-clause-others
returns-clause-others g c i pos' low =
    let r = c.requires in
    let row = cells_of c.args.cells.now in
    let old = c.args.loaded.now in
    let u = c.in_ok-cell.ensures in
    let row1 = cells_of c.unused_cell.new.cells in
    let new = c.unused_cell.new.loaded in
    let alone : alone_in old c.args.key ≡ Some c.in-Some._from = sym c.alone_in.ensures ∙ c.in-Some.is in
    let held : CellHolds (cell_in row) (count_in row) c.args.narrow c.args.key r.holds.0 = record { behind = r.behind; within = omega (arith, r.within); holds = ap entry_held r.own ∙ r.holds.1 } in
    let its : c.in-Some._from ≡ c.args.narrow = sym (only_there (narrow_in row) (cell_in row) (count_in row) (cell_of old.memory) (alone_in old) (is_free old.memory) r.moving.behind.known c.args.key c.in-Some._from alone c.args.narrow r.holds.0 held) in
    let alone1 : alone_in new c.args.key ≡ Some c.args.narrow = ap (λ x. alone_in (record old { alone = x }) c.args.key) c.unused_cell.ensures.alone ∙ alone ∙ ap (λ (n : ℕ). Some n) its in
    let own1 : cell_in row1 c.args.narrow ≡ Some c.args.payload.now = u.others c.args.narrow r.behind r.within ∙ r.own in
    let spare = u.moving.behind.known.free c.in_ok-cell.cell u.free in
    let far = spare.0 in
    let pos : 0 < c.in_ok-cell.cell = omega (arith, far) in
    ap (λ (l : List (Option (List ℕ))). cell_in l i) c.in_ok-change.ensures.changed
    ∙ copied_others row1 new u.moving u.stands.row c.in_ok-cell.cell c.args.payload.now pos c.args.narrow c.args.key alone1 own1 u.free i pos' (omega (arith, low, c.unused_cell.ensures.narrow)) ∙ u.others i pos' low

pub returns-in_err-change-clause-any_moment : goal.returns-in_err-change-clause-any_moment
returns-in_err-change-clause-any_moment g c tells =
    let r = c.requires in
    let row = cells_of c.args.cells.now in
    let old = c.args.loaded.now in
    let u = c.in_ok-cell.ensures in
    let row1 = cells_of c.unused_cell.new.cells in
    let new = c.unused_cell.new.loaded in
    let alone : alone_in old c.args.key ≡ Some c.in-Some._from = sym c.alone_in.ensures ∙ c.in-Some.is in
    let held : CellHolds (cell_in row) (count_in row) c.args.narrow c.args.key r.holds.0 = record { behind = r.behind; within = omega (arith, r.within); holds = ap entry_held r.own ∙ r.holds.1 } in
    let its : c.in-Some._from ≡ c.args.narrow = sym (only_there (narrow_in row) (cell_in row) (count_in row) (cell_of old.memory) (alone_in old) (is_free old.memory) r.moving.behind.known c.args.key c.in-Some._from alone c.args.narrow r.holds.0 held) in
    let alone1 : alone_in new c.args.key ≡ Some c.args.narrow = ap (λ x. alone_in (record old { alone = x }) c.args.key) c.unused_cell.ensures.alone ∙ alone ∙ ap (λ (n : ℕ). Some n) its in
    let own1 : cell_in row1 c.args.narrow ≡ Some c.args.payload.now = u.others c.args.narrow r.behind r.within ∙ r.own in
    let spare = u.moving.behind.known.free c.in_ok-cell.cell u.free in
    let far = spare.0 in
    let pos : 0 < c.in_ok-cell.cell = omega (arith, far) in
    let before = shown_of row1 new u.stands.row u.moving in
    let after = copied_shown row1 new u.moving u.stands.row c.in_ok-cell.cell c.args.payload.now pos c.args.narrow c.args.key alone1 own1 u.free in
    then_shown g.D.Disk.moment g.D.Disk.left_since (disk_of c.args.cells.now) (disk_of c.unused_cell.new.cells) (disk_of c.change.new.cells) old.memory.held new.memory.held c.unused_cell.ensures.held (c.unused_cell.ensures.any_moment tells)
    (shown_moment g.D.Disk.moment g.D.Disk.left_since (disk_of c.unused_cell.new.cells) (disk_of c.change.new.cells) row1 _ new.memory.held before after (c.change.ensures.any_moment tells))

pub returns-in_err-change-clause-length : goal.returns-in_err-change-clause-length
returns-in_err-change-clause-length g c tells =
    let bytes : ℕ = 1024 * (1 + narrow_in (cells_of c.args.cells.now)) + 9216 * (slot_count c.args.loaded.now.memory.held.slots + 1) in
    let mid = disk_of c.unused_cell.new.cells in
    then_no_longer g.D.Disk.moment g.D.Disk.left_since g.D.Disk.may_leave (disk_of c.args.cells.now) mid (disk_of c.change.new.cells) bytes
    (λ image later left. g.met.D.Disk.counts_now mid _ image tells later left) (c.unused_cell.ensures.length tells)
    (within_more g.D.Disk.moment g.D.Disk.left_since g.D.Disk.may_leave mid (disk_of c.change.new.cells) 0 bytes (omega arith) (c.change.ensures.length tells))

pub returns-in_err-settle-clause-any_moment : goal.returns-in_err-settle-clause-any_moment
returns-in_err-settle-clause-any_moment g c tells =
    let r = c.requires in
    let row = cells_of c.args.cells.now in
    let old = c.args.loaded.now in
    let u = c.in_ok-cell.ensures in
    let row1 = cells_of c.unused_cell.new.cells in
    let new = c.unused_cell.new.loaded in
    let alone : alone_in old c.args.key ≡ Some c.in-Some._from = sym c.alone_in.ensures ∙ c.in-Some.is in
    let held : CellHolds (cell_in row) (count_in row) c.args.narrow c.args.key r.holds.0 = record { behind = r.behind; within = omega (arith, r.within); holds = ap entry_held r.own ∙ r.holds.1 } in
    let its : c.in-Some._from ≡ c.args.narrow = sym (only_there (narrow_in row) (cell_in row) (count_in row) (cell_of old.memory) (alone_in old) (is_free old.memory) r.moving.behind.known c.args.key c.in-Some._from alone c.args.narrow r.holds.0 held) in
    let alone1 : alone_in new c.args.key ≡ Some c.args.narrow = ap (λ x. alone_in (record old { alone = x }) c.args.key) c.unused_cell.ensures.alone ∙ alone ∙ ap (λ (n : ℕ). Some n) its in
    let own1 : cell_in row1 c.args.narrow ≡ Some c.args.payload.now = u.others c.args.narrow r.behind r.within ∙ r.own in
    let spare = u.moving.behind.known.free c.in_ok-cell.cell u.free in
    let far = spare.0 in
    let pos : 0 < c.in_ok-cell.cell = omega (arith, far) in
    let before = shown_of row1 new u.stands.row u.moving in
    let after = copied_shown row1 new u.moving u.stands.row c.in_ok-cell.cell c.args.payload.now pos c.args.narrow c.args.key alone1 own1 u.free in
    then_shown g.D.Disk.moment g.D.Disk.left_since (disk_of c.args.cells.now) (disk_of c.unused_cell.new.cells) (disk_of c.change.new.cells) old.memory.held new.memory.held c.unused_cell.ensures.held (c.unused_cell.ensures.any_moment tells)
    (shown_moment g.D.Disk.moment g.D.Disk.left_since (disk_of c.unused_cell.new.cells) (disk_of c.change.new.cells) row1 _ new.memory.held before after (c.change.ensures.any_moment tells))

pub returns-in_err-settle-clause-length : goal.returns-in_err-settle-clause-length
returns-in_err-settle-clause-length g c tells =
    let bytes : ℕ = 1024 * (1 + narrow_in (cells_of c.args.cells.now)) + 9216 * (slot_count c.args.loaded.now.memory.held.slots + 1) in
    let mid = disk_of c.unused_cell.new.cells in
    then_no_longer g.D.Disk.moment g.D.Disk.left_since g.D.Disk.may_leave (disk_of c.args.cells.now) mid (disk_of c.change.new.cells) bytes
    (λ image later left. g.met.D.Disk.counts_now mid _ image tells later left) (c.unused_cell.ensures.length tells)
    (within_more g.D.Disk.moment g.D.Disk.left_since g.D.Disk.may_leave mid (disk_of c.change.new.cells) 0 bytes (omega arith) (c.change.ensures.length tells))

pub returns-clause-any_moment : goal.returns-clause-any_moment
returns-clause-any_moment g c tells =
    let r = c.requires in
    let row = cells_of c.args.cells.now in
    let old = c.args.loaded.now in
    let u = c.in_ok-cell.ensures in
    let row1 = cells_of c.unused_cell.new.cells in
    let new = c.unused_cell.new.loaded in
    let alone : alone_in old c.args.key ≡ Some c.in-Some._from = sym c.alone_in.ensures ∙ c.in-Some.is in
    let held : CellHolds (cell_in row) (count_in row) c.args.narrow c.args.key r.holds.0 = record { behind = r.behind; within = omega (arith, r.within); holds = ap entry_held r.own ∙ r.holds.1 } in
    let its : c.in-Some._from ≡ c.args.narrow = sym (only_there (narrow_in row) (cell_in row) (count_in row) (cell_of old.memory) (alone_in old) (is_free old.memory) r.moving.behind.known c.args.key c.in-Some._from alone c.args.narrow r.holds.0 held) in
    let alone1 : alone_in new c.args.key ≡ Some c.args.narrow = ap (λ x. alone_in (record old { alone = x }) c.args.key) c.unused_cell.ensures.alone ∙ alone ∙ ap (λ (n : ℕ). Some n) its in
    let own1 : cell_in row1 c.args.narrow ≡ Some c.args.payload.now = u.others c.args.narrow r.behind r.within ∙ r.own in
    let spare = u.moving.behind.known.free c.in_ok-cell.cell u.free in
    let far = spare.0 in
    let pos : 0 < c.in_ok-cell.cell = omega (arith, far) in
    let before = shown_of row1 new u.stands.row u.moving in
    let after = copied_shown row1 new u.moving u.stands.row c.in_ok-cell.cell c.args.payload.now pos c.args.narrow c.args.key alone1 own1 u.free in
    then_shown g.D.Disk.moment g.D.Disk.left_since (disk_of c.args.cells.now) (disk_of c.unused_cell.new.cells) (disk_of c.change.new.cells) old.memory.held new.memory.held c.unused_cell.ensures.held (c.unused_cell.ensures.any_moment tells)
    (shown_moment g.D.Disk.moment g.D.Disk.left_since (disk_of c.unused_cell.new.cells) (disk_of c.change.new.cells) row1 _ new.memory.held before after (c.change.ensures.any_moment tells))

pub returns-clause-length : goal.returns-clause-length
returns-clause-length g c tells =
    let bytes : ℕ = 1024 * (1 + narrow_in (cells_of c.args.cells.now)) + 9216 * (slot_count c.args.loaded.now.memory.held.slots + 1) in
    let mid = disk_of c.unused_cell.new.cells in
    then_no_longer g.D.Disk.moment g.D.Disk.left_since g.D.Disk.may_leave (disk_of c.args.cells.now) mid (disk_of c.change.new.cells) bytes
    (λ image later left. g.met.D.Disk.counts_now mid _ image tells later left) (c.unused_cell.ensures.length tells)
    (within_more g.D.Disk.moment g.D.Disk.left_since g.D.Disk.may_leave mid (disk_of c.change.new.cells) 0 bytes (omega arith) (c.change.ensures.length tells))

pub returns-in_err-change-clause-narrow : goal.returns-in_err-change-clause-narrow
returns-in_err-change-clause-narrow g c =
    ap (λ (l : List (Option (List ℕ))). narrow_in l) c.in_err-change.ensures.same ∙ c.unused_cell.ensures.narrow

pub returns-in_err-settle-clause-narrow : goal.returns-in_err-settle-clause-narrow
returns-in_err-settle-clause-narrow g c =
    let r = c.requires in
    let row = cells_of c.args.cells.now in
    let old = c.args.loaded.now in
    let u = c.in_ok-cell.ensures in
    let row1 = cells_of c.unused_cell.new.cells in
    let new = c.unused_cell.new.loaded in
    let alone : alone_in old c.args.key ≡ Some c.in-Some._from = sym c.alone_in.ensures ∙ c.in-Some.is in
    let held : CellHolds (cell_in row) (count_in row) c.args.narrow c.args.key r.holds.0 = record { behind = r.behind; within = omega (arith, r.within); holds = ap entry_held r.own ∙ r.holds.1 } in
    let its : c.in-Some._from ≡ c.args.narrow = sym (only_there (narrow_in row) (cell_in row) (count_in row) (cell_of old.memory) (alone_in old) (is_free old.memory) r.moving.behind.known c.args.key c.in-Some._from alone c.args.narrow r.holds.0 held) in
    let alone1 : alone_in new c.args.key ≡ Some c.args.narrow = ap (λ x. alone_in (record old { alone = x }) c.args.key) c.unused_cell.ensures.alone ∙ alone ∙ ap (λ (n : ℕ). Some n) its in
    let own1 : cell_in row1 c.args.narrow ≡ Some c.args.payload.now = u.others c.args.narrow r.behind r.within ∙ r.own in
    let spare = u.moving.behind.known.free c.in_ok-cell.cell u.free in
    let far = spare.0 in
    let pos : 0 < c.in_ok-cell.cell = omega (arith, far) in
    ap (λ (l : List (Option (List ℕ))). narrow_in l) c.in_ok-change.ensures.changed ∙ changed_narrow row1 new u.moving u.stands.row c.in_ok-cell.cell c.args.payload.now pos ∙ c.unused_cell.ensures.narrow

pub returns-clause-narrow : goal.returns-clause-narrow
returns-clause-narrow g c =
    let r = c.requires in
    let row = cells_of c.args.cells.now in
    let old = c.args.loaded.now in
    let u = c.in_ok-cell.ensures in
    let row1 = cells_of c.unused_cell.new.cells in
    let new = c.unused_cell.new.loaded in
    let alone : alone_in old c.args.key ≡ Some c.in-Some._from = sym c.alone_in.ensures ∙ c.in-Some.is in
    let held : CellHolds (cell_in row) (count_in row) c.args.narrow c.args.key r.holds.0 = record { behind = r.behind; within = omega (arith, r.within); holds = ap entry_held r.own ∙ r.holds.1 } in
    let its : c.in-Some._from ≡ c.args.narrow = sym (only_there (narrow_in row) (cell_in row) (count_in row) (cell_of old.memory) (alone_in old) (is_free old.memory) r.moving.behind.known c.args.key c.in-Some._from alone c.args.narrow r.holds.0 held) in
    let alone1 : alone_in new c.args.key ≡ Some c.args.narrow = ap (λ x. alone_in (record old { alone = x }) c.args.key) c.unused_cell.ensures.alone ∙ alone ∙ ap (λ (n : ℕ). Some n) its in
    let own1 : cell_in row1 c.args.narrow ≡ Some c.args.payload.now = u.others c.args.narrow r.behind r.within ∙ r.own in
    let spare = u.moving.behind.known.free c.in_ok-cell.cell u.free in
    let far = spare.0 in
    let pos : 0 < c.in_ok-cell.cell = omega (arith, far) in
    ap (λ (l : List (Option (List ℕ))). narrow_in l) c.in_ok-change.ensures.changed ∙ changed_narrow row1 new u.moving u.stands.row c.in_ok-cell.cell c.args.payload.now pos ∙ c.unused_cell.ensures.narrow
