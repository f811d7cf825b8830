use Rattle.cas_disk.proofs.Moments.{at_rest}
use Rattle.cas_cells.specs.Held.{LeavesPayload, payload_held, frame_of, other}
use Rattle.cas_cells.proofs.Leaving.{leaves_same}
use Rattle.cas_cells.proofs.steps.keep_staged.Goals as goal

pub returns-then-kept-clause-any_moment : goal.returns-then-kept-clause-any_moment
returns-then-kept-clause-any_moment g c tells =
    let disk = c.args.disk.now in
    let cell = c.args.cell.now in
    at_rest g.D.Disk.moment g.D.Disk.left_since disk (g.D.Disk.seen disk) (g.D.Disk.may_leave disk) (LeavesPayload c.args.narrow (frame_of c.args.index (other cell.side)) (g.D.Disk.seen disk) c.args.index (payload_held cell))
    (λ image left. g.met.D.Disk.only_now disk image tells left) (c.requires.durable tells) (leaves_same c.args.narrow cell (g.D.Disk.seen disk) c.args.index (c.requires.held tells))
