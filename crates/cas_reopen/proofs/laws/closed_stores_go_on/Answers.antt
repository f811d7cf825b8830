use Rattle.cas_reopen.proofs.Settled.{closed_go_on}
use Rattle.cas_reopen.proofs.laws.closed_stores_go_on.Goals as goal

pub returns : goal.returns
returns g c = closed_go_on g.D.Disk.may_leave
