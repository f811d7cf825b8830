use Rattle.cas_model.specs.View.{meaning}
use Rattle.cas_model.proofs.Safety.Steps as laws
use Rattle.cas_model.proofs.laws.steps_are_safe.Goals as goal

pub returns : goal.returns
returns g c = laws.steps_are_safe (meaning g.S.Shelf g.V.Disk)
