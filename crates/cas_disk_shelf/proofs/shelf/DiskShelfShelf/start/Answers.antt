use Rattle.std.proofs.Common.{refl, ap, ◌∙◌, arith}
use Rattle.cas_slot.specs.Contents.{no_ages}
use Rattle.cas_cells.specs.Cells as cells
use Rattle.cas_cells.proofs.Lengths.{within_more, then_no_longer}
use Rattle.cas_disk_shelf.specs.Head.{FitsHead}
use Rattle.cas_cells.specs.Format.{narrow_told, wide_told}
use Rattle.cas_disk_shelf.specs.HeadLaws.{narrow-told, wide-told}
use Rattle.cas_disk_shelf.specs.Shelf.{disk_of}
use Rattle.cas_disk_shelf.proofs.Using.{head_payload}
use Rattle.cas_disk_shelf.proofs.Lengths.{stays_short}
use Rattle.cas_disk_shelf.proofs.Opening.{new_memory, new_fits}
use Rattle.cas_disk_shelf.proofs.shelf.DiskShelfShelf.start.Goals as goal

pub returns-clause-up : goal.returns-clause-up
returns-clause-up g c =
    let fits : FitsHead (record { narrow = 0; count = 0; ages = no_ages }) = record { narrow = omega arith; count = omega arith; long = c.in_ok-payload.ensures.long; small = c.in_ok-payload.ensures.small } in
    record {
      row = c.in_default.ensures.stands;
      memory = new_memory (record { narrow = 0; count = 0; ages = no_ages }) _ _ c.new.result fits refl refl (c.deref.ensures.value ∙ c.in_ok-payload.ensures.spelled) c.in_default.ensures.formatted
          c.new.ensures.held c.new.ensures.index c.new.ensures.free c.new.ensures.counted;
      fits = new_fits no_ages c.new.result.held c.new.ensures.held;
    }

pub returns-in-Err-clause-length : goal.returns-in-Err-clause-length
returns-in-Err-clause-length g c tells =
    let old = c.args.self.now in
    let mid = cells.disk_of c.crash.new.self in
    let new = cells.disk_of c.format.new.self in
    stays_short g.D.Disk.moment g.D.Disk.left_since g.D.Disk.may_leave old _ (disk_of old) 1024 refl (λ image left. left)
    (λ t image later left. g.met.D.Disk.counts_now new t image tells later left) (omega arith)
    (then_no_longer g.D.Disk.moment g.D.Disk.left_since g.D.Disk.may_leave (disk_of old) mid new 1024
    (λ image later left. g.met.D.Disk.counts_now mid _ image tells later left)
    (within_more g.D.Disk.moment g.D.Disk.left_since g.D.Disk.may_leave (disk_of old) mid 0 1024 (omega arith) (c.crash.ensures.length tells)) (c.format.ensures.length tells))

pub returns-clause-length : goal.returns-clause-length
returns-clause-length g c tells =
    let old = c.args.self.now in
    let mid = cells.disk_of c.crash.new.self in
    let new = cells.disk_of c.format.new.self in
    stays_short g.D.Disk.moment g.D.Disk.left_since g.D.Disk.may_leave old _ (disk_of old) 1024 refl (λ image left. left)
    (λ t image later left. g.met.D.Disk.counts_now new t image tells later left) (omega arith)
    (then_no_longer g.D.Disk.moment g.D.Disk.left_since g.D.Disk.may_leave (disk_of old) mid new 1024
    (λ image later left. g.met.D.Disk.counts_now mid _ image tells later left)
    (within_more g.D.Disk.moment g.D.Disk.left_since g.D.Disk.may_leave (disk_of old) mid 0 1024 (omega arith) (c.crash.ensures.length tells)) (c.format.ensures.length tells))

pub format-requires-clause-fits : goal.format-requires-clause-fits
format-requires-clause-fits g c =
    let fits : FitsHead (record { narrow = 0; count = 0; ages = no_ages }) = record { narrow = omega arith; count = omega arith; long = c.in_ok-payload.ensures.long; small = c.in_ok-payload.ensures.small } in
    head_payload (record { narrow = 0; count = 0; ages = no_ages }) _ fits (c.deref.ensures.value ∙ c.in_ok-payload.ensures.spelled)

pub format-requires-clause-no_cells : goal.format-requires-clause-no_cells
format-requires-clause-no_cells g c =
    let fits : FitsHead (record { narrow = 0; count = 0; ages = no_ages }) = record { narrow = omega arith; count = omega arith; long = c.in_ok-payload.ensures.long; small = c.in_ok-payload.ensures.small } in
    let spells = c.deref.ensures.value ∙ c.in_ok-payload.ensures.spelled in
    omega (arith, ap narrow_told spells ∙ narrow-told _ fits, ap wide_told spells ∙ wide-told _ fits)
