use Rattle.std.proofs.Common.{◌≡◌, ℕ, ◌+◌, Some, Err, refl, sym, ap, ◌∙◌}
use Rattle.cas_cells.specs.Cells.{cells_of, disk_of}
use Rattle.cas_disk_shelf.specs.Image.{entry_held, place_on}
use Rattle.cas_disk_shelf.specs.Memory.{alone_in}
use Rattle.cas_disk_shelf.proofs.Entries.{wrong_within}
use Rattle.cas_disk_shelf.proofs.Loading.{payload_is, wrong_next}
use Rattle.cas_disk_shelf.proofs.memory.load_cell.Goals as goal

pub take_in-requires-clause-holds : goal.take_in-requires-clause-holds
take_in-requires-clause-holds g c =
    ap entry_held (sym (payload_is (cells_of c.args.cells.now) (c.args.so_many + 1) (Some c.in-Some.payload.now) c.in-Some.ensures.blank c.in-Some.ensures.held c.in-Some.ensures.absent)) ∙ (rw c.in-Kept.is at c.in_ok-read_cell.ensures.found)

pub wrong_in-requires-clause-within : goal.wrong_in-requires-clause-within
wrong_in-requires-clause-within g c = wrong_within c.in-Some.payload.now c.in-Wrong.at (rw c.in-Wrong.is at c.in_ok-read_cell.ensures.found)

pub returns-in-Wrong-clause-foreign : goal.returns-in-Wrong-clause-foreign
returns-in-Wrong-clause-foreign g c tells at is =
    let r = c.requires in
    let row = cells_of c.args.cells.now in
    let place = place_on (g.D.Disk.seen (disk_of c.args.cells.now)) in
    let old = c.args.loaded.now in
    let told = c.wrong_in.ensures in
    let same : c.place_of.result + c.in-Wrong.at ≡ at = cc in
    wrong_next row c.args.so_many (c.args.so_many + 1) refl place (old.memory.held.slots, alone_in old) (r.read place) c.in-Wrong.at
    (ap entry_held (sym (payload_is row (c.args.so_many + 1) (Some c.in-Some.payload.now) c.in-Some.ensures.blank c.in-Some.ensures.held c.in-Some.ensures.absent)) ∙ (rw c.in-Wrong.is at c.in_ok-read_cell.ensures.found))
    ∙ ap (λ (n : ℕ). Err n) (ap (λ (n : ℕ). n + c.in-Wrong.at) (sym (c.place_of.ensures.place tells)) ∙ same)
