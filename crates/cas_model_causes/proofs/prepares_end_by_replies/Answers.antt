use Rattle.cas_model.specs.View.{meaning}
use Rattle.cas_model_causes.proofs.Calls.Ends.{prepares_end}
use Rattle.cas_model_causes.proofs.prepares_end_by_replies.Goals as goal

pub returns : goal.returns
returns g c = prepares_end (meaning g.S.Shelf g.V.Disk)
