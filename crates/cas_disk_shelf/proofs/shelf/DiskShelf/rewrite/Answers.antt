use Rattle.std.specs.Prelude.{is_some, if◌then◌else◌}
use Rattle.std.proofs.Common.{◌≡◌, ℕ, ◌+◌, List, refl, ap, ◌∙◌, arith}
use Rattle.cas_slot.specs.Contents.{kept_at, with_kept}
use Rattle.cas_slot.specs.Slots.{slot_count}
use Rattle.cas_disk_shelf.specs.Shelf.{contents_of}
use Rattle.cas_disk_shelf.proofs.Counting.{as_many, on_ok}
use Rattle.cas_cells.specs.Cells.{cells_of}
use Rattle.cas_disk_shelf.proofs.Using.{fits_behind, slot_payload, own_within}
use Rattle.cas_disk_shelf.proofs.Keeping.{still_old, put_moment, rewritten_up}
use Rattle.cas_disk_shelf.proofs.shelf.DiskShelf.rewrite.Goals as goal

pub returns-in_err-payload-clause-any_moment : goal.returns-in_err-payload-clause-any_moment
returns-in_err-payload-clause-any_moment g c tells =
    still_old g.D.Disk.tells g.D.Disk.seen g.D.Disk.may_leave g.D.Disk.moment g.D.Disk.left_since _ _ c.requires.up _ refl (λ image left. g.met.D.Disk.only_now _ image tells left) tells

pub returns-in_err-own-clause-any_moment : goal.returns-in_err-own-clause-any_moment
returns-in_err-own-clause-any_moment g c tells =
    still_old g.D.Disk.tells g.D.Disk.seen g.D.Disk.may_leave g.D.Disk.moment g.D.Disk.left_since _ _ c.requires.up _ refl (λ image left. g.met.D.Disk.only_now _ image tells left) tells

pub change-requires-clause-within : goal.change-requires-clause-within
change-requires-clause-within g c =
    let up = c.requires.up in
    (own_within (cells_of c.args.self.now.cells) _ _ _ up.memory.shown.in_step up.row.row c.args.key.now c.args.cell c.requires.own).1

pub change-requires-clause-fits : goal.change-requires-clause-fits
change-requires-clause-fits g c =
    let up = c.requires.up in
    let within = own_within (cells_of c.args.self.now.cells) _ _ _ up.memory.shown.in_step up.row.row c.args.key.now c.args.cell c.requires.own in
    fits_behind (cells_of c.args.self.now.cells) c.args.cell _ within.2 (slot_payload c.args.key.now c.args.slot _ c.spell_slot.ensures.key c.in_ok-payload.ensures.fits (c.deref.ensures.value ∙ c.in_ok-payload.ensures.spelled))

pub change-requires-clause-same_count : goal.change-requires-clause-same_count
change-requires-clause-same_count g c first =
    let up = c.requires.up in
    let within = own_within (cells_of c.args.self.now.cells) _ _ _ up.memory.shown.in_step up.row.row c.args.key.now c.args.cell c.requires.own in
    absurd (omega (arith, within.0, first))

pub returns-in_err-change-clause-any_moment : goal.returns-in_err-change-clause-any_moment
returns-in_err-change-clause-any_moment g c tells =
    put_moment g.D.Disk.tells g.D.Disk.seen g.D.Disk.may_leave g.D.Disk.moment g.D.Disk.left_since _ _ c.requires.up
    c.args.key.now c.args.slot _ c.args.cell c.spell_slot.ensures.key c.in_ok-payload.ensures.fits (c.deref.ensures.value ∙ c.in_ok-payload.ensures.spelled) c.requires.own (c.change.ensures.any_moment tells)

pub returns-clause-up : goal.returns-clause-up
returns-clause-up g c =
    let up = c.requires.up in
    let old = contents_of c.args.self.now in
    let own : c.in_ok-own.own ≡ c.args.key.now = c.in_ok-own.ensures in
    let there = up.memory.shown.in_step.held c.args.key.now c.args.cell c.requires.own in
    let put : c.insert.new.self ≡ with_kept old c.in_ok-own.own c.args.slot = on_ok c.insert.result _ c.if-prove.ensures.value c.insert.ensures.ok in
    let len : slot_count c.insert.new.self.slots ≡ slot_count old.slots + (if is_some (kept_at old c.in_ok-own.own) then 0 else 1) = on_ok c.insert.result _ c.if-prove.ensures.value c.insert.ensures.len in
    rewritten_up g.D.Disk.tells g.D.Disk.seen g.D.Disk.may_leave _ _ up
    c.args.key.now c.args.slot _ c.args.cell c.spell_slot.ensures.key c.in_ok-payload.ensures.fits (c.deref.ensures.value ∙ c.in_ok-payload.ensures.spelled) c.requires.own c.in_ok-change.ensures.stands c.in_ok-change.ensures.changed
    (put ∙ ap (λ (key : List ℕ). with_kept old key c.args.slot) own) refl refl (as_many _ _ (kept_at old c.in_ok-own.own) there.0 (ap (kept_at old) own ∙ there.2) len)

pub returns-clause-any_moment : goal.returns-clause-any_moment
returns-clause-any_moment g c tells =
    put_moment g.D.Disk.tells g.D.Disk.seen g.D.Disk.may_leave g.D.Disk.moment g.D.Disk.left_since _ _ c.requires.up
    c.args.key.now c.args.slot _ c.args.cell c.spell_slot.ensures.key c.in_ok-payload.ensures.fits (c.deref.ensures.value ∙ c.in_ok-payload.ensures.spelled) c.requires.own (c.change.ensures.any_moment tells)
