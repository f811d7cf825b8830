use Rattle.std.proofs.Common.{◌≡◌, Ok}
use Rattle.cas_cells.specs.Cells.{cells_of}
use Rattle.cas_disk_shelf.specs.declared.memory.Loaded.{Loaded}
use Rattle.cas_disk_shelf.specs.Image.{left_on}
use Rattle.cas_disk_shelf.specs.Memory.{IsReadFrom}
use Rattle.cas_disk_shelf.specs.Shelf.{disk_of}
use Rattle.cas_disk_shelf.specs.ShelfLaws.{read_spelled}
use Rattle.cas_disk_shelf.proofs.Faults.{told_foreign, also_ok}
use Rattle.cas_disk_shelf.proofs.Opening.{frames_wrong, payloads_wrong}
use Rattle.cas_disk_shelf.proofs.shelf.DiskShelf.recover.Goals as goal

pub returns-in-Err-clause-foreign : goal.returns-in-Err-clause-foreign
returns-in-Err-clause-foreign g c tells at is =
    frames_wrong (g.D.Disk.seen (disk_of c.args.self.now)) at (c.recover.ensures.foreign tells at (told_foreign {T = Loaded} c.in-Err.fault c.fault_of.result c.fault_of.ensures c.recover.result c.in-Err.is at is))

pub returns-clause-foreign : goal.returns-clause-foreign
returns-clause-foreign g c tells at is =
    payloads_wrong (cells_of c.recover.new.self) (g.D.Disk.seen (disk_of c.args.self.now)) _ at (c.recover.ensures.read tells).content (c.in_default.ensures.recovered tells) (c.load.ensures.foreign tells at is)

pub returns-clause-recovered : goal.returns-clause-recovered
returns-clause-recovered g c tells =
    let row = cells_of c.recover.new.self in
    let seen = g.D.Disk.seen (disk_of c.args.self.now) in
    also_ok c.load.result (IsReadFrom row) (λ loaded. left_on seen ≡ Ok loaded.memory.held)
    (λ loaded read. read_spelled row loaded.memory.held seen c.in_default.ensures.stands.row read.read read.behind.show read.behind.few (c.in_default.ensures.recovered tells)) c.load.ensures.read
