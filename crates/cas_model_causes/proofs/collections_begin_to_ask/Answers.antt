use Rattle.cas_model.specs.View.{meaning}
use Rattle.cas_model_causes.proofs.Collection.Collects.{collections_begin_to_ask}
use Rattle.cas_model_causes.proofs.collections_begin_to_ask.Goals as goal

pub returns : goal.returns
returns g c = collections_begin_to_ask (meaning g.S.Shelf g.V.Disk)
