use Rattle.cas_model.specs.View.{meaning}
use Rattle.cas_model_causes.proofs.Exchanges.Confirmed.{eras_are_marked}
use Rattle.cas_model_causes.proofs.eras_are_marked.Goals as goal

pub returns : goal.returns
returns g c = eras_are_marked (meaning g.S.Shelf g.V.Disk)
