use Rattle.cas_model.specs.View.{meaning}
use Rattle.cas_model_causes.proofs.Calls.Told.{causes}
use Rattle.cas_model_causes.proofs.answers_have_causes.Goals as goal

pub returns : goal.returns
returns g c = causes (meaning g.S.Shelf g.V.Disk)
