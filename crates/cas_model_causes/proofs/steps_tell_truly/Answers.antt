use Rattle.cas_model.specs.View.{meaning}
use Rattle.cas_model_causes.proofs.Eras.Tellings as laws
use Rattle.cas_model_causes.proofs.steps_tell_truly.Goals as goal

pub returns : goal.returns
returns g c = laws.steps_tell_truly (meaning g.S.Shelf g.V.Disk)
