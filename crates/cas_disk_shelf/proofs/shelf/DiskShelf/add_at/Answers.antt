use Rattle.std.specs.Prelude.{nat_eq}
use Rattle.std.specs.Cmp.Lexicographic.{pointwise}
use Rattle.std.specs.Map.{lookup}
use Rattle.std.proofs.Common.{◌≡◌, ℕ, ◌+◌, List, length, Option, Some, cond, refl, ap, ◌∙◌, arith}
use Rattle.cas_slot.specs.Contents.{Contents, kept_at, with_kept, without_kept}
use Rattle.cas_cells.specs.Cells.{cells_of}
use Rattle.cas_disk_shelf.specs.Image.{moved}
use Rattle.cas_disk_shelf.specs.Memory.{cell_of}
use Rattle.cas_disk_shelf.specs.Shelf.{contents_of}
use Rattle.cas_disk_shelf.proofs.Counting.{one_less, one_key_more, index_more, on_ok}
use Rattle.cas_disk_shelf.proofs.Using.{fits_behind, slot_payload, free_within, put_back}
use Rattle.cas_disk_shelf.proofs.Keeping.{still_old, add_moment, added_up, same_up}
use Rattle.cas_disk_shelf.proofs.shelf.DiskShelf.add_at.Goals as goal

pub returns-in_err-payload-clause-any_moment : goal.returns-in_err-payload-clause-any_moment
returns-in_err-payload-clause-any_moment g c tells =
    still_old g.D.Disk.tells g.D.Disk.seen g.D.Disk.may_leave g.D.Disk.moment g.D.Disk.left_since _ _ c.requires.up _ refl (λ image left. g.met.D.Disk.only_now _ image tells left) tells

pub returns-in_err-own-clause-any_moment : goal.returns-in_err-own-clause-any_moment
returns-in_err-own-clause-any_moment g c tells =
    still_old g.D.Disk.tells g.D.Disk.seen g.D.Disk.may_leave g.D.Disk.moment g.D.Disk.left_since _ _ c.requires.up _ refl (λ image left. g.met.D.Disk.only_now _ image tells left) tells

pub returns-in_err-reserve-clause-any_moment : goal.returns-in_err-reserve-clause-any_moment
returns-in_err-reserve-clause-any_moment g c tells =
    still_old g.D.Disk.tells g.D.Disk.seen g.D.Disk.may_leave g.D.Disk.moment g.D.Disk.left_since _ _ c.requires.up _ refl (λ image left. g.met.D.Disk.only_now _ image tells left) tells

pub returns-in_err-copy-clause-any_moment : goal.returns-in_err-copy-clause-any_moment
returns-in_err-copy-clause-any_moment g c tells =
    still_old g.D.Disk.tells g.D.Disk.seen g.D.Disk.may_leave g.D.Disk.moment g.D.Disk.left_since _ _ c.requires.up _ refl (λ image left. g.met.D.Disk.only_now _ image tells left) tells

pub returns-in_err-insert-clause-any_moment : goal.returns-in_err-insert-clause-any_moment
returns-in_err-insert-clause-any_moment g c tells =
    still_old g.D.Disk.tells g.D.Disk.seen g.D.Disk.may_leave g.D.Disk.moment g.D.Disk.left_since _ _ c.requires.up _ refl (λ image left. g.met.D.Disk.only_now _ image tells left) tells

pub change-requires-clause-within : goal.change-requires-clause-within
change-requires-clause-within g c =
    let up = c.requires.up in
    (free_within (cells_of c.args.self.now.cells) _ _ _ up.memory.shown.in_step up.row.row c.args.cell c.requires.free).1

pub change-requires-clause-fits : goal.change-requires-clause-fits
change-requires-clause-fits g c =
    let up = c.requires.up in
    let within = free_within (cells_of c.args.self.now.cells) _ _ _ up.memory.shown.in_step up.row.row c.args.cell c.requires.free in
    fits_behind (cells_of c.args.self.now.cells) c.args.cell _ within.2 (slot_payload c.args.key.now c.args.slot _ c.spell_slot.ensures.key c.in_ok-payload.ensures.fits (c.deref.ensures.value ∙ c.in_ok-payload.ensures.spelled))

pub change-requires-clause-same_count : goal.change-requires-clause-same_count
change-requires-clause-same_count g c first =
    let up = c.requires.up in
    let within = free_within (cells_of c.args.self.now.cells) _ _ _ up.memory.shown.in_step up.row.row c.args.cell c.requires.free in
    absurd (omega (arith, within.0, first))

pub returns-in-Err-clause-err : goal.returns-in-Err-clause-err
returns-in-Err-clause-err g c =
    let old = contents_of c.args.self.now in
    let none = c.requires.up.memory.shown.in_step.none c.args.key.now c.requires.new in
    c.remove.ensures ∙ ap (λ (x : Contents). without_kept x c.args.key.now) (c.in_ok-insert.ensures.ok ∙ ap (λ (k : List ℕ). with_kept old k c.args.slot) c.in_ok-copy.ensures) ∙ put_back old c.args.key.now c.args.slot none

pub returns-in-Err-clause-up_still : goal.returns-in-Err-clause-up_still
returns-in-Err-clause-up_still g c no_memory =
    let up = c.requires.up in
    let old = contents_of c.args.self.now in
    let none = up.memory.shown.in_step.none c.args.key.now c.requires.new in
    let held = c.remove.ensures ∙ ap (λ (x : Contents). without_kept x c.args.key.now) (c.in_ok-insert.ensures.ok ∙ ap (λ (k : List ℕ). with_kept old k c.args.slot) c.in_ok-copy.ensures) ∙ put_back old c.args.key.now c.args.slot none in
    same_up g.D.Disk.tells g.D.Disk.seen g.D.Disk.may_leave _ _ up (c.change.ensures.after_no_memory (c.in-Err.is ∙ no_memory)) c.in-Err.ensures.same held
    (λ q. ap (λ es. lookup (pointwise nat_eq q) es) c.reserve.ensures.entries) (λ j. refl) (ap (λ es. length es) c.reserve.ensures.entries) refl

pub returns-in-Err-clause-any_moment : goal.returns-in-Err-clause-any_moment
returns-in-Err-clause-any_moment g c tells =
    add_moment g.D.Disk.tells g.D.Disk.seen g.D.Disk.may_leave g.D.Disk.moment g.D.Disk.left_since _ _ c.requires.up
    c.args.key.now c.args.slot _ c.args.cell c.spell_slot.ensures.key c.in_ok-payload.ensures.fits (c.deref.ensures.value ∙ c.in_ok-payload.ensures.spelled) c.requires.new c.requires.free c.requires.room (c.change.ensures.any_moment tells)

pub returns-clause-any_moment : goal.returns-clause-any_moment
returns-clause-any_moment g c tells =
    add_moment g.D.Disk.tells g.D.Disk.seen g.D.Disk.may_leave g.D.Disk.moment g.D.Disk.left_since _ _ c.requires.up
    c.args.key.now c.args.slot _ c.args.cell c.spell_slot.ensures.key c.in_ok-payload.ensures.fits (c.deref.ensures.value ∙ c.in_ok-payload.ensures.spelled) c.requires.new c.requires.free c.requires.room (c.change.ensures.any_moment tells)

pub returns-clause-up : goal.returns-clause-up
returns-clause-up g c =
    let up = c.requires.up in
    let old = c.args.self.now.memory in
    let key = c.args.key.now in
    let copy : c.in_ok-copy.field-0 ≡ key = c.in_ok-copy.ensures in
    let own : c.in_ok-own.own ≡ key = c.in_ok-own.ensures in
    let none = up.memory.shown.in_step.none key c.requires.new in
    let reserved = λ (q : List ℕ). ap (λ es. lookup (pointwise nat_eq q) es) c.reserve.ensures.entries in
    let updates = on_ok c.insert-2.result _ c.if-prove.ensures.value c.insert-2.ensures.updates in
    let index_len = index_more c.insert-2.result _ _ _ c.if-prove.ensures.value c.insert-2.ensures.old (reserved c.in_ok-own.own ∙ ap (cell_of old) own ∙ c.requires.new) c.insert-2.ensures.len in
    added_up g.D.Disk.tells g.D.Disk.seen g.D.Disk.may_leave _ _ up
    c.args.key.now c.args.slot _ c.args.cell c.spell_slot.ensures.key c.in_ok-payload.ensures.fits (c.deref.ensures.value ∙ c.in_ok-payload.ensures.spelled) c.requires.new c.requires.free c.requires.room c.in_default.ensures.stands c.in_default.ensures.changed
    (c.in_ok-insert.ensures.ok ∙ ap (λ (k : List ℕ). with_kept old.held k c.args.slot) copy)
    (λ q. updates.0 q ∙ ap (λ (o : Option ℕ). cond (pointwise nat_eq c.in_ok-own.own q) (Some c.args.cell) o) (reserved q) ∙ ap (λ (k : List ℕ). moved (cell_of old) k c.args.cell q) own)
    (λ j. c.remove-2.ensures.updates.0 j)
    (index_len ∙ ap (λ es. length es + 1) c.reserve.ensures.entries)
    (one_less _ _ c.remove-2.result (c.remove-2.ensures.test ∙ c.requires.free) c.remove-2.ensures.len)
    (one_key_more _ _ (kept_at old.held c.in_ok-copy.field-0) (ap (kept_at old.held) copy ∙ none) c.in_ok-insert.ensures.len)
