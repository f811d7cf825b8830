use Rattle.cas_model.specs.View.{meaning}
use Rattle.casreg_progress.proofs.Openings.{first_lines_are_done}
use Rattle.casreg_progress.proofs.first_lines_are_done.Goals as goal

pub returns : goal.returns
returns g c = first_lines_are_done (meaning g.S.Shelf g.V.Disk)
