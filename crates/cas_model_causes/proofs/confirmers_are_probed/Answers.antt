use Rattle.cas_model.specs.View.{meaning}
use Rattle.cas_model_causes.proofs.Exchanges.Asking.{confirmers_are_probed}
use Rattle.cas_model_causes.proofs.confirmers_are_probed.Goals as goal

pub returns : goal.returns
returns g c = confirmers_are_probed (meaning g.S.Shelf g.V.Disk)
