use Rattle.cas_model.specs.View.{meaning}
use Rattle.cas_model_causes.proofs.Exchanges.TooOld.{probes_are_told_so}
use Rattle.cas_model_causes.proofs.probes_are_told_so.Goals as goal

pub returns : goal.returns
returns g c = probes_are_told_so (meaning g.S.Shelf g.V.Disk)
