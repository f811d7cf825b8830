use Rattle.cas_model.specs.View.{meaning}
use Rattle.cas_model_causes.proofs.Calls.Undisturbed.{rounds_are_done}
use Rattle.cas_model_causes.proofs.undisturbed_rounds_are_done.Goals as goal

pub returns : goal.returns
returns g c = rounds_are_done (meaning g.S.Shelf g.V.Disk)
