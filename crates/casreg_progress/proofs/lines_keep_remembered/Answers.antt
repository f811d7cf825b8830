use Rattle.cas_model.specs.View.{meaning}
use Rattle.casreg_progress.proofs.Staying.{lines_keep_remembered}
use Rattle.casreg_progress.proofs.lines_keep_remembered.Goals as goal

pub returns : goal.returns
returns g c = lines_keep_remembered (meaning g.S.Shelf g.V.Disk)
