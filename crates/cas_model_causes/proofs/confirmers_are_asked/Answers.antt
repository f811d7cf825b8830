use Rattle.cas_model.specs.View.{meaning}
use Rattle.cas_model_causes.proofs.Exchanges.Confirmed.{confirmers_are_asked}
use Rattle.cas_model_causes.proofs.confirmers_are_asked.Goals as goal

pub returns : goal.returns
returns g c = confirmers_are_asked (meaning g.S.Shelf g.V.Disk)
