use Rattle.cas_model.specs.View.{meaning}
use Rattle.casreg_progress.proofs.Runs.{runs_read_so}
use Rattle.casreg_progress.proofs.runs_read_so.Goals as goal

pub returns : goal.returns
returns g c = runs_read_so (meaning g.S.Shelf g.V.Disk)
