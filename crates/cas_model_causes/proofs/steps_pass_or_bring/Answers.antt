use Rattle.cas_model.specs.View.{meaning}
use Rattle.cas_model_causes.proofs.Calls.Hearing.{steps}
use Rattle.cas_model_causes.proofs.steps_pass_or_bring.Goals as goal

pub returns : goal.returns
returns g c = steps (meaning g.S.Shelf g.V.Disk)
