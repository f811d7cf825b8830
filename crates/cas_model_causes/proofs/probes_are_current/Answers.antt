use Rattle.cas_model.specs.View.{meaning}
use Rattle.cas_model_causes.proofs.Exchanges.Current.{probes_are_current}
use Rattle.cas_model_causes.proofs.probes_are_current.Goals as goal

pub returns : goal.returns
returns g c = probes_are_current (meaning g.S.Shelf g.V.Disk)
