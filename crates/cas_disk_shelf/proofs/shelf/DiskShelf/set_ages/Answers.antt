use Rattle.std.proofs.Common.{refl, ◌∙◌}
use Rattle.cas_cells.specs.Cells.{cells_of}
use Rattle.cas_cells.specs.Format.{narrow_in}
use Rattle.cas_disk_shelf.specs.Head.{head_spelling, FitsHead}
use Rattle.cas_disk_shelf.specs.Memory.{head_for}
use Rattle.cas_cells.proofs.Places.{fits_narrow}
use Rattle.cas_disk_shelf.proofs.Using.{tells_same, head_payload}
use Rattle.cas_disk_shelf.proofs.Keeping.{still_old, raise_moment, raised_up}
use Rattle.cas_disk_shelf.proofs.shelf.DiskShelf.set_ages.Goals as goal

pub returns-in_err-payload-clause-any_moment : goal.returns-in_err-payload-clause-any_moment
returns-in_err-payload-clause-any_moment g c tells =
    still_old g.D.Disk.tells g.D.Disk.seen g.D.Disk.may_leave g.D.Disk.moment g.D.Disk.left_since _ _ c.requires _ refl (λ image left. g.met.D.Disk.only_now _ image tells left) tells

pub change-requires-clause-fits : goal.change-requires-clause-fits
change-requires-clause-fits g c =
    let row = cells_of c.args.self.now.cells in
    let fits : FitsHead (head_for row c.args.ages) = record { narrow = c.requires.memory.shown.fits.narrow; count = c.requires.memory.shown.fits.count; long = c.in_ok-payload.ensures.long; small = c.in_ok-payload.ensures.small } in
    fits_narrow (narrow_in row) 0 _ (head_payload _ _ fits (c.deref.ensures.value ∙ c.in_ok-payload.ensures.spelled ∙ (λ t. head_spelling (record { narrow = c.narrow_count.ensures.count t; count = c.wide_count.ensures.count t; ages = c.args.ages }))))

pub change-requires-clause-same_count : goal.change-requires-clause-same_count
change-requires-clause-same_count g c first =
    let row = cells_of c.args.self.now.cells in
    let fits : FitsHead (head_for row c.args.ages) = record { narrow = c.requires.memory.shown.fits.narrow; count = c.requires.memory.shown.fits.count; long = c.in_ok-payload.ensures.long; small = c.in_ok-payload.ensures.small } in
    tells_same row c.args.ages _ fits (c.deref.ensures.value ∙ c.in_ok-payload.ensures.spelled ∙ (λ t. head_spelling (record { narrow = c.narrow_count.ensures.count t; count = c.wide_count.ensures.count t; ages = c.args.ages })))

pub returns-in_err-change-clause-any_moment : goal.returns-in_err-change-clause-any_moment
returns-in_err-change-clause-any_moment g c tells =
    let row = cells_of c.args.self.now.cells in
    let fits : FitsHead (head_for row c.args.ages) = record { narrow = c.requires.memory.shown.fits.narrow; count = c.requires.memory.shown.fits.count; long = c.in_ok-payload.ensures.long; small = c.in_ok-payload.ensures.small } in
    raise_moment g.D.Disk.tells g.D.Disk.seen g.D.Disk.may_leave g.D.Disk.moment g.D.Disk.left_since _ _ c.requires c.args.ages _ fits
    (c.deref.ensures.value ∙ c.in_ok-payload.ensures.spelled ∙ (λ t. head_spelling (record { narrow = c.narrow_count.ensures.count t; count = c.wide_count.ensures.count t; ages = c.args.ages }))) (c.change.ensures.any_moment tells)

pub returns-clause-any_moment : goal.returns-clause-any_moment
returns-clause-any_moment g c tells =
    let row = cells_of c.args.self.now.cells in
    let fits : FitsHead (head_for row c.args.ages) = record { narrow = c.requires.memory.shown.fits.narrow; count = c.requires.memory.shown.fits.count; long = c.in_ok-payload.ensures.long; small = c.in_ok-payload.ensures.small } in
    raise_moment g.D.Disk.tells g.D.Disk.seen g.D.Disk.may_leave g.D.Disk.moment g.D.Disk.left_since _ _ c.requires c.args.ages _ fits
    (c.deref.ensures.value ∙ c.in_ok-payload.ensures.spelled ∙ (λ t. head_spelling (record { narrow = c.narrow_count.ensures.count t; count = c.wide_count.ensures.count t; ages = c.args.ages }))) (c.change.ensures.any_moment tells)

pub returns-clause-up : goal.returns-clause-up
returns-clause-up g c =
    let row = cells_of c.args.self.now.cells in
    let fits : FitsHead (head_for row c.args.ages) = record { narrow = c.requires.memory.shown.fits.narrow; count = c.requires.memory.shown.fits.count; long = c.in_ok-payload.ensures.long; small = c.in_ok-payload.ensures.small } in
    raised_up g.D.Disk.tells g.D.Disk.seen g.D.Disk.may_leave _ _ c.requires c.args.ages _ fits
    (c.deref.ensures.value ∙ c.in_ok-payload.ensures.spelled ∙ (λ t. head_spelling (record { narrow = c.narrow_count.ensures.count t; count = c.wide_count.ensures.count t; ages = c.args.ages }))) c.in_ok-change.ensures.stands c.in_ok-change.ensures.changed c.set_ages.ensures refl refl
