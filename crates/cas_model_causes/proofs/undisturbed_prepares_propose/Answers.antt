use Rattle.cas_model.specs.View.{meaning}
use Rattle.cas_model_causes.proofs.Calls.Undisturbed.{prepares_propose}
use Rattle.cas_model_causes.proofs.undisturbed_prepares_propose.Goals as goal

pub returns : goal.returns
returns g c = prepares_propose (meaning g.S.Shelf g.V.Disk)
