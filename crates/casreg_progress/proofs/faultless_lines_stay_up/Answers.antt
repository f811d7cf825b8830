use Rattle.cas_model.specs.View.{meaning}
use Rattle.casreg_progress.proofs.Faults.{lines_stay_up}
use Rattle.casreg_progress.proofs.faultless_lines_stay_up.Goals as goal

pub returns : goal.returns
returns g c = lines_stay_up (meaning g.S.Shelf g.V.Disk)
