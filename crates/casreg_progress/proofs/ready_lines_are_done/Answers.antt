use Rattle.cas_model.specs.View.{meaning}
use Rattle.casreg_progress.proofs.Lines.{lines_are_done}
use Rattle.casreg_progress.proofs.ready_lines_are_done.Goals as goal

pub returns : goal.returns
returns g c = lines_are_done (meaning g.S.Shelf g.V.Disk)
