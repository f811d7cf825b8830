use Rattle.cas_model.specs.View.{meaning}
use Rattle.cas_model_causes.proofs.Collection.Collects.{collections_have_causes}
use Rattle.cas_model_causes.proofs.collections_have_causes.Goals as goal

pub returns : goal.returns
returns g c = collections_have_causes (meaning g.S.Shelf g.V.Disk)
