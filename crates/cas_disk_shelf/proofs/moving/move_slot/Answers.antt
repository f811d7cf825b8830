use Rattle.std.proofs.Common.{◌≡◌, ℕ, List, Option, Some, None, Ok, Err, ◌+◌, ◌*◌, ◌≤◌, [], ◌∷◌, sym, ap, subst, ◌∙◌, arith, rules}
use Rattle.std.proofs.lemmas.Grind.{common_steps}
use Rattle.cas_slot.specs.Slots.{slot_count}
use Rattle.cas_cells.specs.Cells.{cells_of, disk_of}
use Rattle.cas_cells.specs.Format.{narrow_in}
use Rattle.cas_cells.proofs.Lengths.{then_no_longer, within_more}
use Rattle.cas_cells.proofs.Places.{fits_narrow}
use Rattle.cas_disk_shelf.specs.Cell.{entry_in}
use Rattle.cas_disk_shelf.specs.Image.{cell_in, entry_held}
use Rattle.cas_disk_shelf.specs.Memory.{AreCleared, IsMoving}
use Rattle.cas_disk_shelf.proofs.Entries.{read_again}
use Rattle.cas_disk_shelf.proofs.Loading.{payload_is}
use Rattle.cas_disk_shelf.proofs.Narrow.{changed_narrow, cleared_moving, cleared_shown, cleared_up_to, shown_moment, shown_of, shown_still, then_shown}
use Rattle.cas_disk_shelf.proofs.moving.move_slot.Goals as goal

pub returns-in_default-clause-any_moment : goal.returns-in_default-clause-any_moment
returns-in_default-clause-any_moment g c tells =
    let r = c.requires in
    shown_still g.D.Disk.tells g.D.Disk.seen g.D.Disk.may_leave g.D.Disk.moment g.D.Disk.left_since c.args.cells.now c.args.loaded.now.memory.held r.stands (shown_of (cells_of c.args.cells.now) c.args.loaded.now r.stands.row r.moving)
    (λ image left. g.met.D.Disk.only_now _ image tells left) tells

pub returns-in_err-read_cell-clause-any_moment : goal.returns-in_err-read_cell-clause-any_moment
returns-in_err-read_cell-clause-any_moment g c tells =
    let r = c.requires in
    shown_still g.D.Disk.tells g.D.Disk.seen g.D.Disk.may_leave g.D.Disk.moment g.D.Disk.left_since c.args.cells.now c.args.loaded.now.memory.held r.stands (shown_of (cells_of c.args.cells.now) c.args.loaded.now r.stands.row r.moving)
    (λ image left. g.met.D.Disk.only_now _ image tells left) tells

pub returns-in_err-copy-in-Kept-clause-any_moment : goal.returns-in_err-copy-in-Kept-clause-any_moment
returns-in_err-copy-in-Kept-clause-any_moment g c tells =
    let r = c.requires in
    shown_still g.D.Disk.tells g.D.Disk.seen g.D.Disk.may_leave g.D.Disk.moment g.D.Disk.left_since c.args.cells.now c.args.loaded.now.memory.held r.stands (shown_of (cells_of c.args.cells.now) c.args.loaded.now r.stands.row r.moving)
    (λ image left. g.met.D.Disk.only_now _ image tells left) tells

pub returns-in-Free-clause-any_moment : goal.returns-in-Free-clause-any_moment
returns-in-Free-clause-any_moment g c tells =
    let r = c.requires in
    shown_still g.D.Disk.tells g.D.Disk.seen g.D.Disk.may_leave g.D.Disk.moment g.D.Disk.left_since c.args.cells.now c.args.loaded.now.memory.held r.stands (shown_of (cells_of c.args.cells.now) c.args.loaded.now r.stands.row r.moving)
    (λ image left. g.met.D.Disk.only_now _ image tells left) tells

pub copy_slot-requires-clause-holds : goal.copy_slot-requires-clause-holds
copy_slot-requires-clause-holds g c =
    let same : c.in_ok-copy-in-Kept.copy.items ≡ c.in-Some.payload.now = first_of (search rules, grind (arith, common_steps)) in
    (c.in-Kept._slot, ap entry_in (c.deref.ensures.value ∙ same) ∙ (rw c.in-Kept.is at c.in_ok-read_cell.ensures.found))

pub copy_slot-requires-clause-own : goal.copy_slot-requires-clause-own
copy_slot-requires-clause-own g c =
    let r = c.requires in
    let row = cells_of c.args.cells.now in
    let own : cell_in row c.args.narrow ≡ Some c.in-Some.payload.now = sym (payload_is row c.args.narrow (Some c.in-Some.payload.now) c.in-Some.ensures.blank c.in-Some.ensures.held c.in-Some.ensures.absent) in
    let same : c.in_ok-copy-in-Kept.copy.items ≡ c.in-Some.payload.now = first_of (search rules, grind (arith, common_steps)) in
    own ∙ ap (λ (l : List ℕ). Some l) (sym (c.deref.ensures.value ∙ same))

pub change-requires-clause-fits : goal.change-requires-clause-fits
change-requires-clause-fits g c = fits_narrow (narrow_in (cells_of c.copy_slot.new.cells)) c.args.narrow (0 ∷ []) (record { not_empty = omega arith; fits = omega arith })

pub unreachable-requires : goal.unreachable-requires
unreachable-requires g c =
    let r = c.requires in
    let row = cells_of c.args.cells.now in
    let own : cell_in row c.args.narrow ≡ Some c.in-Some.payload.now = sym (payload_is row c.args.narrow (Some c.in-Some.payload.now) c.in-Some.ensures.blank c.in-Some.ensures.held c.in-Some.ensures.absent) in
    let wrong : entry_held (cell_in row c.args.narrow) ≡ Err c.in-Wrong._at = ap entry_held own ∙ (rw c.in-Wrong.is at c.in_ok-read_cell.ensures.found) in
    let each = r.moving.behind.show.each c.args.narrow r.behind (omega (arith, r.within)) in
    let right = each.1 in
    absurd cc

pub returns-in_err-change-in-Kept-clause-any_moment : goal.returns-in_err-change-in-Kept-clause-any_moment
returns-in_err-change-in-Kept-clause-any_moment g c tells =
    let r = c.requires in
    let row = cells_of c.args.cells.now in
    let own : cell_in row c.args.narrow ≡ Some c.in-Some.payload.now = sym (payload_is row c.args.narrow (Some c.in-Some.payload.now) c.in-Some.ensures.blank c.in-Some.ensures.held c.in-Some.ensures.absent) in
    let read : entry_in c.in-Some.payload.now ≡ Ok (Some (c.in-Kept.key, c.in-Kept._slot)) = rw c.in-Kept.is at c.in_ok-read_cell.ensures.found in
    let u = c.in_ok-copy_slot-in-Kept.ensures in
    let row1 = cells_of c.copy_slot.new.cells in
    let new = c.copy_slot.new.loaded in
    let near : c.args.narrow ≤ narrow_in row1 = omega (arith, r.within, c.copy_slot.ensures.narrow) in
    let held : entry_held (cell_in row1 c.args.narrow) ≡ Ok (Some (c.in-Kept.key, c.in-Kept._slot)) = ap entry_held (u.others c.args.narrow r.behind r.within ∙ own) ∙ read in
    let before = shown_of row1 new u.stands.row u.moving in
    let after = cleared_shown row1 new u.moving u.stands.row c.args.narrow (0 ∷ []) r.behind c.in-Kept.key c.in-Kept._slot near held u.wide (read_again None tt) in
    then_shown g.D.Disk.moment g.D.Disk.left_since (disk_of c.args.cells.now) (disk_of c.copy_slot.new.cells) (disk_of c.change.new.cells) c.args.loaded.now.memory.held new.memory.held c.copy_slot.ensures.held (c.copy_slot.ensures.any_moment tells)
    (shown_moment g.D.Disk.moment g.D.Disk.left_since (disk_of c.copy_slot.new.cells) (disk_of c.change.new.cells) row1 _ new.memory.held before after (c.change.ensures.any_moment tells))

pub returns-in_err-change-in-Kept-clause-length : goal.returns-in_err-change-in-Kept-clause-length
returns-in_err-change-in-Kept-clause-length g c tells =
    let bytes : ℕ = 1024 * (1 + narrow_in (cells_of c.args.cells.now)) + 9216 * (slot_count c.args.loaded.now.memory.held.slots + 1) in
    let mid = disk_of c.copy_slot.new.cells in
    then_no_longer g.D.Disk.moment g.D.Disk.left_since g.D.Disk.may_leave (disk_of c.args.cells.now) mid (disk_of c.change.new.cells) bytes
    (λ image later left. g.met.D.Disk.counts_now mid _ image tells later left) (c.copy_slot.ensures.length tells)
    (within_more g.D.Disk.moment g.D.Disk.left_since g.D.Disk.may_leave mid (disk_of c.change.new.cells) 0 bytes (omega arith) (c.change.ensures.length tells))

pub returns-in_ok-change-in-Kept-clause-any_moment : goal.returns-in_ok-change-in-Kept-clause-any_moment
returns-in_ok-change-in-Kept-clause-any_moment g c tells =
    let r = c.requires in
    let row = cells_of c.args.cells.now in
    let own : cell_in row c.args.narrow ≡ Some c.in-Some.payload.now = sym (payload_is row c.args.narrow (Some c.in-Some.payload.now) c.in-Some.ensures.blank c.in-Some.ensures.held c.in-Some.ensures.absent) in
    let read : entry_in c.in-Some.payload.now ≡ Ok (Some (c.in-Kept.key, c.in-Kept._slot)) = rw c.in-Kept.is at c.in_ok-read_cell.ensures.found in
    let u = c.in_ok-copy_slot-in-Kept.ensures in
    let row1 = cells_of c.copy_slot.new.cells in
    let new = c.copy_slot.new.loaded in
    let near : c.args.narrow ≤ narrow_in row1 = omega (arith, r.within, c.copy_slot.ensures.narrow) in
    let held : entry_held (cell_in row1 c.args.narrow) ≡ Ok (Some (c.in-Kept.key, c.in-Kept._slot)) = ap entry_held (u.others c.args.narrow r.behind r.within ∙ own) ∙ read in
    let before = shown_of row1 new u.stands.row u.moving in
    let after = cleared_shown row1 new u.moving u.stands.row c.args.narrow (0 ∷ []) r.behind c.in-Kept.key c.in-Kept._slot near held u.wide (read_again None tt) in
    then_shown g.D.Disk.moment g.D.Disk.left_since (disk_of c.args.cells.now) (disk_of c.copy_slot.new.cells) (disk_of c.change.new.cells) c.args.loaded.now.memory.held new.memory.held c.copy_slot.ensures.held (c.copy_slot.ensures.any_moment tells)
    (shown_moment g.D.Disk.moment g.D.Disk.left_since (disk_of c.copy_slot.new.cells) (disk_of c.change.new.cells) row1 _ new.memory.held before after (c.change.ensures.any_moment tells))

pub returns-in_ok-change-in-Kept-clause-length : goal.returns-in_ok-change-in-Kept-clause-length
returns-in_ok-change-in-Kept-clause-length g c tells =
    let bytes : ℕ = 1024 * (1 + narrow_in (cells_of c.args.cells.now)) + 9216 * (slot_count c.args.loaded.now.memory.held.slots + 1) in
    let mid = disk_of c.copy_slot.new.cells in
    then_no_longer g.D.Disk.moment g.D.Disk.left_since g.D.Disk.may_leave (disk_of c.args.cells.now) mid (disk_of c.change.new.cells) bytes
    (λ image later left. g.met.D.Disk.counts_now mid _ image tells later left) (c.copy_slot.ensures.length tells)
    (within_more g.D.Disk.moment g.D.Disk.left_since g.D.Disk.may_leave mid (disk_of c.change.new.cells) 0 bytes (omega arith) (c.change.ensures.length tells))

pub returns-in_err-change-in-Kept-clause-narrow : goal.returns-in_err-change-in-Kept-clause-narrow
returns-in_err-change-in-Kept-clause-narrow g c = ap (λ (l : List (Option (List ℕ))). narrow_in l) c.in_err-change-in-Kept.ensures.same ∙ c.copy_slot.ensures.narrow

pub returns-in_ok-change-in-Kept-clause-narrow : goal.returns-in_ok-change-in-Kept-clause-narrow
returns-in_ok-change-in-Kept-clause-narrow g c =
    let r = c.requires in
    let row = cells_of c.args.cells.now in
    let own : cell_in row c.args.narrow ≡ Some c.in-Some.payload.now = sym (payload_is row c.args.narrow (Some c.in-Some.payload.now) c.in-Some.ensures.blank c.in-Some.ensures.held c.in-Some.ensures.absent) in
    let read : entry_in c.in-Some.payload.now ≡ Ok (Some (c.in-Kept.key, c.in-Kept._slot)) = rw c.in-Kept.is at c.in_ok-read_cell.ensures.found in
    let u = c.in_ok-copy_slot-in-Kept.ensures in
    let row1 = cells_of c.copy_slot.new.cells in
    let new = c.copy_slot.new.loaded in
    let near : c.args.narrow ≤ narrow_in row1 = omega (arith, r.within, c.copy_slot.ensures.narrow) in
    let held : entry_held (cell_in row1 c.args.narrow) ≡ Ok (Some (c.in-Kept.key, c.in-Kept._slot)) = ap entry_held (u.others c.args.narrow r.behind r.within ∙ own) ∙ read in
    ap (λ (l : List (Option (List ℕ))). narrow_in l) c.in_ok-change-in-Kept.ensures.changed ∙ changed_narrow row1 new u.moving u.stands.row c.args.narrow (0 ∷ []) r.behind ∙ c.copy_slot.ensures.narrow

pub returns-in_ok-change-in-Kept-clause-moving : goal.returns-in_ok-change-in-Kept-clause-moving
returns-in_ok-change-in-Kept-clause-moving g c =
    let r = c.requires in
    let row = cells_of c.args.cells.now in
    let own : cell_in row c.args.narrow ≡ Some c.in-Some.payload.now = sym (payload_is row c.args.narrow (Some c.in-Some.payload.now) c.in-Some.ensures.blank c.in-Some.ensures.held c.in-Some.ensures.absent) in
    let read : entry_in c.in-Some.payload.now ≡ Ok (Some (c.in-Kept.key, c.in-Kept._slot)) = rw c.in-Kept.is at c.in_ok-read_cell.ensures.found in
    let u = c.in_ok-copy_slot-in-Kept.ensures in
    let row1 = cells_of c.copy_slot.new.cells in
    let new = c.copy_slot.new.loaded in
    let near : c.args.narrow ≤ narrow_in row1 = omega (arith, r.within, c.copy_slot.ensures.narrow) in
    let held : entry_held (cell_in row1 c.args.narrow) ≡ Ok (Some (c.in-Kept.key, c.in-Kept._slot)) = ap entry_held (u.others c.args.narrow r.behind r.within ∙ own) ∙ read in
    subst (λ (l : List (Option (List ℕ))). IsMoving l new) (sym c.in_ok-change-in-Kept.ensures.changed)
    (cleared_moving row1 new u.moving u.stands.row c.args.narrow (0 ∷ []) r.behind c.in-Kept.key c.in-Kept._slot near held u.wide (read_again None tt))

pub returns-in_ok-change-in-Kept-clause-cleared : goal.returns-in_ok-change-in-Kept-clause-cleared
returns-in_ok-change-in-Kept-clause-cleared g c =
    let r = c.requires in
    let row = cells_of c.args.cells.now in
    let own : cell_in row c.args.narrow ≡ Some c.in-Some.payload.now = sym (payload_is row c.args.narrow (Some c.in-Some.payload.now) c.in-Some.ensures.blank c.in-Some.ensures.held c.in-Some.ensures.absent) in
    let read : entry_in c.in-Some.payload.now ≡ Ok (Some (c.in-Kept.key, c.in-Kept._slot)) = rw c.in-Kept.is at c.in_ok-read_cell.ensures.found in
    let u = c.in_ok-copy_slot-in-Kept.ensures in
    let row1 = cells_of c.copy_slot.new.cells in
    let new = c.copy_slot.new.loaded in
    let near : c.args.narrow ≤ narrow_in row1 = omega (arith, r.within, c.copy_slot.ensures.narrow) in
    let held : entry_held (cell_in row1 c.args.narrow) ≡ Ok (Some (c.in-Kept.key, c.in-Kept._slot)) = ap entry_held (u.others c.args.narrow r.behind r.within ∙ own) ∙ read in
    subst (λ (l : List (Option (List ℕ))). AreCleared l c.args.narrow) (sym c.in_ok-change-in-Kept.ensures.changed)
    (cleared_up_to row1 new u.moving u.stands.row c.args.narrow (0 ∷ []) r.behind c.in-Kept.key c.in-Kept._slot near held u.wide (read_again None tt)
    (λ i pos low. ap entry_held (u.others i pos (let within = r.within in omega (arith, low, within))) ∙ r.cleared i pos low))
