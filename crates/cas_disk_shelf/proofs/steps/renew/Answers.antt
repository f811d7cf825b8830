use Rattle.std.proofs.Common.{◌≡◌, ℕ, List, Option, Some, Ok, subst, sym, ap, ◌∙◌}
use Rattle.std.proofs.Math.ListN.{set}
use Rattle.cas_disk.proofs.Moments.{started, weaker}
use Rattle.cas_cells.specs.Cells.{cells_of, disk_of}
use Rattle.cas_cells.specs.Format.{narrow_in, IsBeforeOrAfter}
use Rattle.cas_cells.proofs.Places.{fits_narrow}
use Rattle.cas_cells.proofs.Survival.{crash_leaves}
use Rattle.cas_disk_shelf.specs.Head.{head_spelling}
use Rattle.cas_disk_shelf.specs.Image.{left_on}
use Rattle.cas_disk_shelf.specs.Memory.{IsMoving}
use Rattle.cas_disk_shelf.specs.ShelfLaws.{read_spelled}
use Rattle.cas_disk_shelf.proofs.Changing.{first_told}
use Rattle.cas_disk_shelf.proofs.Opening.{renewed, renewing}
use Rattle.cas_disk_shelf.proofs.Using.{head_payload, tells_same}
use Rattle.cas_disk_shelf.proofs.steps.renew.Goals as goal

pub returns-then-not-old-clause-any_moment : goal.returns-then-not-old-clause-any_moment
returns-then-not-old-clause-any_moment g c tells =
    let row = cells_of c.args.cells.now in
    let read = c.requires.read in
    started g.D.Disk.moment g.D.Disk.left_since (disk_of c.args.cells.now) (λ image. left_on image ≡ Ok c.args.loaded.now.memory.held)
    (λ image left. read_spelled row c.args.loaded.now.memory.held image c.requires.stands.row read.read read.behind.show read.behind.few
    (crash_leaves g.D.Disk.tells g.D.Disk.seen g.D.Disk.may_leave c.args.cells.now c.requires.stands tells image (g.met.D.Disk.only_now _ image tells left)))

pub returns-in_err-payload-clause-any_moment : goal.returns-in_err-payload-clause-any_moment
returns-in_err-payload-clause-any_moment g c tells =
    let row = cells_of c.args.cells.now in
    let read = c.requires.read in
    started g.D.Disk.moment g.D.Disk.left_since (disk_of c.args.cells.now) (λ image. left_on image ≡ Ok c.args.loaded.now.memory.held)
    (λ image left. read_spelled row c.args.loaded.now.memory.held image c.requires.stands.row read.read read.behind.show read.behind.few
    (crash_leaves g.D.Disk.tells g.D.Disk.seen g.D.Disk.may_leave c.args.cells.now c.requires.stands tells image (g.met.D.Disk.only_now _ image tells left)))

pub change-requires-clause-fits : goal.change-requires-clause-fits
change-requires-clause-fits g c =
    let spells = (c.deref.ensures.value ∙ c.in_ok-payload.ensures.spelled ∙ (λ t. head_spelling (record { narrow = c.narrow_count.ensures.count t; count = c.wide_count.ensures.count t; ages = c.ages.ensures t }))) in
    fits_narrow (narrow_in (cells_of c.args.cells.now)) 0 _ (head_payload _ _ c.requires.read.spelled.fits spells)

pub returns-in_err-change-clause-narrow : goal.returns-in_err-change-clause-narrow
returns-in_err-change-clause-narrow g c = ap (λ (l : List (Option (List ℕ))). narrow_in l) c.in_err-change.ensures.same

pub returns-clause-narrow : goal.returns-clause-narrow
returns-clause-narrow g c =
    let row = cells_of c.args.cells.now in
    let payload = c.deref.result.now in
    let spells = (c.deref.ensures.value ∙ c.in_ok-payload.ensures.spelled ∙ (λ t. head_spelling (record { narrow = c.narrow_count.ensures.count t; count = c.wide_count.ensures.count t; ages = c.ages.ensures t }))) in
    ap (λ (l : List (Option (List ℕ))). narrow_in l) c.in_ok-change.ensures.changed ∙ (first_told row payload c.requires.stands.row).0 ∙ (tells_same row c.args.loaded.now.memory.held.ages payload c.requires.read.spelled.fits spells).narrow

pub returns-clause-moving : goal.returns-clause-moving
returns-clause-moving g c =
    let row = cells_of c.args.cells.now in
    let spells = (c.deref.ensures.value ∙ c.in_ok-payload.ensures.spelled ∙ (λ t. head_spelling (record { narrow = c.narrow_count.ensures.count t; count = c.wide_count.ensures.count t; ages = c.ages.ensures t }))) in
    subst (λ (l : List (Option (List ℕ))). IsMoving l c.args.loaded.now) (sym c.in_ok-change.ensures.changed) (renewed row c.deref.result.now c.args.loaded.now c.requires.stands.row spells c.requires.read)

pub returns-in_err-change-clause-any_moment : goal.returns-in_err-change-clause-any_moment
returns-in_err-change-clause-any_moment g c tells =
    let row = cells_of c.args.cells.now in
    let payload = c.deref.result.now in
    let spells = (c.deref.ensures.value ∙ c.in_ok-payload.ensures.spelled ∙ (λ t. head_spelling (record { narrow = c.narrow_count.ensures.count t; count = c.wide_count.ensures.count t; ages = c.ages.ensures t }))) in
    weaker g.D.Disk.moment g.D.Disk.left_since (disk_of c.args.cells.now) (disk_of c.change.new.cells) (IsBeforeOrAfter row (set row 0 (Some payload))) (λ image. left_on image ≡ Ok c.args.loaded.now.memory.held)
    (λ image either. renewing row payload c.args.loaded.now image c.requires.stands.row spells c.requires.read either) (c.change.ensures.any_moment tells)

pub returns-clause-any_moment : goal.returns-clause-any_moment
returns-clause-any_moment g c tells =
    let row = cells_of c.args.cells.now in
    let payload = c.deref.result.now in
    let spells = (c.deref.ensures.value ∙ c.in_ok-payload.ensures.spelled ∙ (λ t. head_spelling (record { narrow = c.narrow_count.ensures.count t; count = c.wide_count.ensures.count t; ages = c.ages.ensures t }))) in
    weaker g.D.Disk.moment g.D.Disk.left_since (disk_of c.args.cells.now) (disk_of c.change.new.cells) (IsBeforeOrAfter row (set row 0 (Some payload))) (λ image. left_on image ≡ Ok c.args.loaded.now.memory.held)
    (λ image either. renewing row payload c.args.loaded.now image c.requires.stands.row spells c.requires.read either) (c.change.ensures.any_moment tells)
