use Rattle.cas_cells.specs.Cells.{cells_of}
use Rattle.cas_disk_shelf.proofs.Narrow.{shown_of, shown_still}
use Rattle.cas_disk_shelf.proofs.moving.unused_cell.Goals as goal

pub returns-in-Some-clause-any_moment : goal.returns-in-Some-clause-any_moment
returns-in-Some-clause-any_moment g c tells =
    let r = c.requires in
    shown_still g.D.Disk.tells g.D.Disk.seen g.D.Disk.may_leave g.D.Disk.moment g.D.Disk.left_since c.args.cells.now c.args.loaded.now.memory.held r.stands (shown_of (cells_of c.args.cells.now) c.args.loaded.now r.stands.row r.moving)
    (λ image left. g.met.D.Disk.only_now _ image tells left) tells
