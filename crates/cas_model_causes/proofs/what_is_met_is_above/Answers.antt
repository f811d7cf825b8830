use Rattle.cas_model.specs.View.{meaning}
use Rattle.cas_model_causes.proofs.Calls.Told.{met_above}
use Rattle.cas_model_causes.proofs.what_is_met_is_above.Goals as goal

pub returns : goal.returns
returns g c = met_above (meaning g.S.Shelf g.V.Disk)
