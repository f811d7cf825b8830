use Rattle.std.specs.Ordering.{nat_cmp, is_eq}
use Rattle.std.proofs.Common.{◌+◌, Bool, false, cond, refl, ap, ◌∙◌, arith}
use Rattle.cas_slot.specs.Contents.{Contents}
use Rattle.cas_slot.specs.Slots.{slot_count}
use Rattle.cas_cells.specs.Cells.{cells_of}
use Rattle.cas_disk_shelf.specs.Memory.{cell_of, is_free}
use Rattle.cas_disk_shelf.proofs.Counting.{one_more, one_less, one_key_less}
use Rattle.cas_disk_shelf.proofs.Using.{fits_behind, own_within, count_less}
use Rattle.cas_disk_shelf.proofs.Keeping.{still_old, drop_moment, dropped_up, same_up, own_not_free, taken_back}
use Rattle.cas_disk_shelf.proofs.shelf.DiskShelf.free.Goals as goal

pub returns-in_err-insert-clause-any_moment : goal.returns-in_err-insert-clause-any_moment
returns-in_err-insert-clause-any_moment g c tells =
    still_old g.D.Disk.tells g.D.Disk.seen g.D.Disk.may_leave g.D.Disk.moment g.D.Disk.left_since _ _ c.requires.up _ refl (λ image left. g.met.D.Disk.only_now _ image tells left) tells

pub change-requires-clause-within : goal.change-requires-clause-within
change-requires-clause-within g c =
    let up = c.requires.up in
    (own_within (cells_of c.args.self.now.cells) _ _ _ up.memory.shown.in_step up.row.row c.args.key.now c.args.cell c.requires.own).1

pub returns-in-Err-clause-any_moment : goal.returns-in-Err-clause-any_moment
returns-in-Err-clause-any_moment g c tells =
    drop_moment g.D.Disk.tells g.D.Disk.seen g.D.Disk.may_leave g.D.Disk.moment g.D.Disk.left_since _ _ c.requires.up c.args.key.now _ c.args.cell refl c.requires.own (c.change.ensures.any_moment tells)

pub returns-clause-any_moment : goal.returns-clause-any_moment
returns-clause-any_moment g c tells =
    drop_moment g.D.Disk.tells g.D.Disk.seen g.D.Disk.may_leave g.D.Disk.moment g.D.Disk.left_since _ _ c.requires.up c.args.key.now _ c.args.cell refl c.requires.own (c.change.ensures.any_moment tells)

pub returns-in-Err-clause-up_still : goal.returns-in-Err-clause-up_still
returns-in-Err-clause-up_still g c no_memory =
    let up = c.requires.up in
    let old = c.args.self.now.memory in
    let unused = own_not_free old.held (cell_of old) (is_free old) (cells_of c.args.self.now.cells) up.memory.shown c.args.key.now c.args.cell c.requires.own in
    let more = one_more _ _ (is_free c.args.self.now.memory c.args.cell) c.in_ok-insert.field-0 unused c.in_ok-insert.ensures.added c.in_ok-insert.ensures.len in
    let less = one_less _ _ c.remove.result (c.remove.ensures.test ∙ c.in_ok-insert.ensures.updates.1) c.remove.ensures.len in
    same_up g.D.Disk.tells g.D.Disk.seen g.D.Disk.may_leave _ _ up (c.change.ensures.after_no_memory (c.in-Err.is ∙ no_memory)) c.in-Err.ensures.same refl (λ q. refl)
    (λ j. c.remove.ensures.updates.0 j ∙ ap (λ (b : Bool). cond (is_eq (nat_cmp c.args.cell j)) false b) (c.in_ok-insert.ensures.updates.0 j) ∙ taken_back (is_free old) c.args.cell unused j)
    refl (omega (arith, more, less))

pub returns-clause-up : goal.returns-clause-up
returns-clause-up g c =
    let up = c.requires.up in
    let old = c.args.self.now.memory in
    let own = c.requires.own in
    let unused = own_not_free old.held (cell_of old) (is_free old) (cells_of c.args.self.now.cells) up.memory.shown c.args.key.now c.args.cell own in
    let there = up.memory.shown.in_step.held c.args.key.now c.args.cell own in
    let more = one_more _ _ (is_free c.args.self.now.memory c.args.cell) c.in_ok-insert.field-0 unused c.in_ok-insert.ensures.added c.in_ok-insert.ensures.len in
    dropped_up g.D.Disk.tells g.D.Disk.seen g.D.Disk.may_leave _ _ up c.args.key.now _ c.args.cell refl own c.in_default.ensures.stands c.in_default.ensures.changed c.remove-2.ensures
    (λ q. c.swap_remove.ensures.updates.0 q) (λ j. c.in_ok-insert.ensures.updates.0 j)
    (one_key_less _ _ c.swap_remove.result c.args.cell (c.swap_remove.ensures.value ∙ own) c.swap_remove.ensures.len) more
    (ap (λ (x : Contents). slot_count x.slots + 1) c.remove-2.ensures ∙ count_less old.held.slots c.args.key.now there.0 there.2)

pub change-requires-clause-fits : goal.change-requires-clause-fits
change-requires-clause-fits g c =
    let up = c.requires.up in
    let within = own_within (cells_of c.args.self.now.cells) _ _ _ up.memory.shown.in_step up.row.row c.args.key.now c.args.cell c.requires.own in
    fits_behind (cells_of c.args.self.now.cells) c.args.cell _ within.2 (record { not_empty = omega arith; fits = omega arith })

pub change-requires-clause-same_count : goal.change-requires-clause-same_count
change-requires-clause-same_count g c first =
    let up = c.requires.up in
    let within = own_within (cells_of c.args.self.now.cells) _ _ _ up.memory.shown.in_step up.row.row c.args.key.now c.args.cell c.requires.own in
    absurd (omega (arith, within.0, first))
