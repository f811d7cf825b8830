use Rattle.std.proofs.Common.{◌≡◌, ◌+◌, ◌-◌, ◌<◌, ◌≤◌, refl, arith}
use Rattle.cas_cells.specs.Cells.{cells_of}
use Rattle.cas_cells.specs.Format.{narrow_in}
use Rattle.cas_disk_shelf.proofs.Loading.{loaded_free, loaded_nothing, read_to_nothing}
use Rattle.cas_disk_shelf.proofs.memory.pass.Goals as goal

pub returns-in_ok-add_free-clause-loaded : goal.returns-in_ok-add_free-clause-loaded
returns-in_ok-add_free-clause-loaded g c =
    let r = c.requires in
    let next : c.args.cell ≡ c.args.cell - 1 + 1 = omega (arith, r.positive) in
    let far : narrow_in (cells_of c.args.cells.now) < c.args.cell = omega (arith, c.if-narrow_count-cell.true, c.narrow_count.ensures.count) in
    loaded_free (cells_of c.args.cells.now) (c.args.cell - 1) c.args.cell next c.args.loaded.now (record { memory = c.add_free.new.self; alone = c.args.loaded.now.alone }) r.loaded
    far r.nothing c.add_free.ensures.held c.add_free.ensures.index refl c.in_ok-add_free.ensures.free c.in_ok-add_free.ensures.len

pub returns-in_ok-add_free-clause-read : goal.returns-in_ok-add_free-clause-read
returns-in_ok-add_free-clause-read g c =
    let r = c.requires in
    let next : c.args.cell ≡ c.args.cell - 1 + 1 = omega (arith, r.positive) in
    read_to_nothing (cells_of c.args.cells.now) (c.args.cell - 1) c.args.cell next c.args.loaded.now (record { memory = c.add_free.new.self; alone = c.args.loaded.now.alone }) r.loaded r.read r.nothing c.add_free.ensures.held refl

pub returns-else-narrow_count-cell-clause-loaded : goal.returns-else-narrow_count-cell-clause-loaded
returns-else-narrow_count-cell-clause-loaded g c =
    let r = c.requires in
    let next : c.args.cell ≡ c.args.cell - 1 + 1 = omega (arith, r.positive) in
    let near : c.args.cell ≤ narrow_in (cells_of c.args.cells.now) = omega (arith, c.if-narrow_count-cell.false, c.narrow_count.ensures.count) in
    loaded_nothing (cells_of c.args.cells.now) (c.args.cell - 1) c.args.cell next c.args.loaded.now c.args.loaded.now r.loaded near r.nothing

pub returns-else-narrow_count-cell-clause-read : goal.returns-else-narrow_count-cell-clause-read
returns-else-narrow_count-cell-clause-read g c =
    let r = c.requires in
    let next : c.args.cell ≡ c.args.cell - 1 + 1 = omega (arith, r.positive) in
    read_to_nothing (cells_of c.args.cells.now) (c.args.cell - 1) c.args.cell next c.args.loaded.now c.args.loaded.now r.loaded r.read r.nothing refl refl
