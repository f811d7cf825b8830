use Rattle.std.specs.FinMap as map
use Rattle.std.specs.Ordering.{nat_cmp}
use Rattle.std.specs.Cmp.Lexicographic.{slice_cmp}
use Rattle.std.proofs.Common.{◌≡◌, ◌+◌, ◌≤◌, Err, refl, ap, ◌∙◌, arith}
use Rattle.cas_slot.specs.Contents.{Contents}
use Rattle.cas_slot.specs.declared.fault.ShelfFault.{ShelfFault}
use Rattle.cas_slot.specs.declared.fault.ShelfFault.TheVariants.{Foreign}
use Rattle.cas_slot.specs.declared.slot.Slot.{Slot}
use Rattle.cas_cells.specs.Cells.{cells_of, disk_of}
use Rattle.cas_cells.specs.Format.{count_in}
use Rattle.cas_disk_shelf.specs.Image.{place_on, read_cells}
use Rattle.cas_disk_shelf.specs.ShelfLaws.{stays_wrong}
use Rattle.cas_disk_shelf.proofs.Faults.{told_err}
use Rattle.cas_disk_shelf.proofs.Loading.{none_loaded, none_read, all_loaded, cells_wrong}
use Rattle.cas_disk_shelf.proofs.Opening.{new_fits}
use Rattle.cas_disk_shelf.proofs.memory.load.Goals as goal

pub loop-i-init : goal.loop-i-init
loop-i-init g c =
    let row = cells_of c.args.cells.now in
    let new = c.new-loaded.ensures in
    record {
      loaded = none_loaded row c.in_ok-head.head.ages c.new-loaded.result new.held new.index new.free new.alone new.counted (map.len-empty (slice_cmp nat_cmp) Slot);
      read = none_read row c.in_ok-head.head.ages c.new-loaded.result new.held new.alone;
      fits = new_fits c.in_ok-head.head.ages c.new-loaded.result.memory.held new.held;
      ages = refl;
    }

pub load_cell-requires-clause-loaded : goal.load_cell-requires-clause-loaded
load_cell-requires-clause-loaded g c = c.loop-i.invariant.loaded

pub load_cell-requires-clause-read : goal.load_cell-requires-clause-read
load_cell-requires-clause-read g c = c.loop-i.invariant.read

pub load_cell-requires-clause-fits : goal.load_cell-requires-clause-fits
load_cell-requires-clause-fits g c = c.loop-i.invariant.fits

pub returns-in_err-load_cell-clause-foreign : goal.returns-in_err-load_cell-clause-foreign
returns-in_err-load_cell-clause-foreign g c tells at is =
    let row = cells_of c.args.cells.now in
    let place = place_on (g.D.Disk.seen (disk_of c.args.cells.now)) in
    let low : c.loop-i.i + 1 ≤ count_in row = omega (arith, c.loop-i-test.true, c.count-i-end.ensures) in
    let same = told_err c.from_residual-in_err-load_cell.result c.in_err-load_cell.field-0.0 (Foreign at) c.from_residual-in_err-load_cell.ensures.1 is in
    let wrong : read_cells row place (c.loop-i.i + 1) ≡ Err at = c.load_cell.ensures.foreign tells at (c.in_err-load_cell.was ∙ ap (λ (f : ShelfFault). Err f) same) in
    cells_wrong row place c.in_ok-head.head at c.requires.row c.in_ok-head.ensures.head (stays_wrong row place (c.loop-i.i + 1) (count_in row) at wrong low)

pub loop-i-preserved : goal.loop-i-preserved
loop-i-preserved g c = record {
  loaded = c.in_ok-load_cell.ensures.loaded;
  read = c.in_ok-load_cell.ensures.read;
  fits = c.in_ok-load_cell.ensures.fits;
  ages = c.in_ok-load_cell.ensures.ages ∙ c.loop-i.invariant.ages;
}

pub returns-clause-read : goal.returns-clause-read
returns-clause-read g c =
    let row = cells_of c.args.cells.now in
    let last : c.loop-i.i ≡ count_in row = omega (arith, c.loop-i-test.false, c.loop-i.auto.i-end, c.count-i-end.ensures) in
    all_loaded row c.in_ok-head.head c.loop-i.loaded c.loop-i.i c.in_ok-head.ensures.head last c.loop-i.invariant.loaded (c.loop-i.invariant.ages ∙ ap (λ (x : Contents). x.ages) c.new-loaded.ensures.held)

pub returns-clause-fits : goal.returns-clause-fits
returns-clause-fits g c = c.loop-i.invariant.fits
