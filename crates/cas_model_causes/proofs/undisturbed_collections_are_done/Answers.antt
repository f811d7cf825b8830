use Rattle.cas_model.specs.View.{meaning}
use Rattle.cas_model_causes.proofs.Collection.Collects.{collections_are_done}
use Rattle.cas_model_causes.proofs.undisturbed_collections_are_done.Goals as goal

pub returns : goal.returns
returns g c = collections_are_done (meaning g.S.Shelf g.V.Disk)
