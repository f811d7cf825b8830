use Rattle.std.proofs.Common.{refl, ap, ◌∙◌}
use Rattle.cas_cells.specs.Cells.{disk_of}
use Rattle.cas_disk_shelf.specs.Image.{left_on}
use Rattle.cas_disk_shelf.proofs.shelf.DiskShelfShelf.crash.Goals as goal

pub returns-clause-settled : goal.returns-clause-settled
returns-clause-settled g c tells =
    let seen = g.D.Disk.seen (disk_of c.crash.new.self) in
    record {
      left = left_on seen;
      was_possible = (seen, c.crash.ensures.image tells, refl);
      nothing_else = λ other left. left.2 ∙ ap left_on (c.crash.ensures.settled tells left.0 left.1);
    }
