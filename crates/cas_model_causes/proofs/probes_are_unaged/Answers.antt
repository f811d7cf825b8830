use Rattle.cas_model.specs.View.{meaning}
use Rattle.cas_model_causes.proofs.Exchanges.TooOld.{probes_are_unaged}
use Rattle.cas_model_causes.proofs.probes_are_unaged.Goals as goal

pub returns : goal.returns
returns g c = probes_are_unaged (meaning g.S.Shelf g.V.Disk)
