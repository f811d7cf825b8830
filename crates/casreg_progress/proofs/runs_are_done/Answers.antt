use Rattle.cas_model.specs.View.{meaning}
use Rattle.casreg_progress.proofs.Runs.{runs_are_done}
use Rattle.casreg_progress.proofs.runs_are_done.Goals as goal

pub returns : goal.returns
returns g c = runs_are_done (meaning g.S.Shelf g.V.Disk)
