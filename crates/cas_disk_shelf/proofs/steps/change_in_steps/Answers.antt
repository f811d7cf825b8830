use Rattle.cas_cells.specs.Cells.{disk_of}
use Rattle.cas_cells.proofs.Lengths.{then_no_longer}
use Rattle.cas_disk_shelf.proofs.steps.change_in_steps.Goals as goal

pub returns-in_err-write_spare-clause-length : goal.returns-in_err-write_spare-clause-length
returns-in_err-write_spare-clause-length g c tells =
    let mid = disk_of c.close_spare.new.self in
    then_no_longer g.D.Disk.moment g.D.Disk.left_since g.D.Disk.may_leave (disk_of c.args.cells.now) mid (disk_of c.write_spare.new.self) 0
    (λ image later left. g.met.D.Disk.counts_now mid _ image tells later left) (c.close_spare.ensures.length tells) (c.write_spare.ensures.length tells)

pub returns-clause-length : goal.returns-clause-length
returns-clause-length g c tells =
    let old = disk_of c.args.cells.now in
    let closed = disk_of c.close_spare.new.self in
    let written = disk_of c.write_spare.new.self in
    then_no_longer g.D.Disk.moment g.D.Disk.left_since g.D.Disk.may_leave old written (disk_of c.open_spare.new.self) 0
    (λ image later left. g.met.D.Disk.counts_now written _ image tells later left)
    (then_no_longer g.D.Disk.moment g.D.Disk.left_since g.D.Disk.may_leave old closed written 0
    (λ image later left. g.met.D.Disk.counts_now closed _ image tells later left) (c.close_spare.ensures.length tells) (c.write_spare.ensures.length tells))
    (c.open_spare.ensures.length tells)
