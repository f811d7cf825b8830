use Rattle.cas_cells.specs.Cells.{cells_of}
use Rattle.cas_disk_shelf.proofs.Loading.{head_is, head_read}
use Rattle.cas_disk_shelf.proofs.memory.load_head.Goals as goal

pub returns-in-Ok-clause-head : goal.returns-in-Ok-clause-head
returns-in-Ok-clause-head g c =
    let row = cells_of c.args.cells.now in
    let payload = c.in-Some.payload.now in
    head_read row payload c.in-Ok.head c.requires.row (head_is row payload c.requires.row c.in-Some.ensures.held) c.in-Ok.ensures.spelled c.in-Ok.ensures.read
