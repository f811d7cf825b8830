use Rattle.cas_model.specs.View.{meaning}
use Rattle.cas_model_causes.proofs.Exchanges.Probed.{probes_tell_so}
use Rattle.cas_model_causes.proofs.probes_tell_so.Goals as goal

pub returns : goal.returns
returns g c = probes_tell_so (meaning g.S.Shelf g.V.Disk)
