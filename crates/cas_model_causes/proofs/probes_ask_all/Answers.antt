use Rattle.cas_model.specs.View.{meaning}
use Rattle.cas_model_causes.proofs.Exchanges.Asking.{probes_ask_all}
use Rattle.cas_model_causes.proofs.probes_ask_all.Goals as goal

pub returns : goal.returns
returns g c = probes_ask_all (meaning g.S.Shelf g.V.Disk)
