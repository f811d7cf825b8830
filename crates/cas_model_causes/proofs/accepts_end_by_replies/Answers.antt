use Rattle.cas_model.specs.View.{meaning}
use Rattle.cas_model_causes.proofs.Calls.Ends.{accepts_end}
use Rattle.cas_model_causes.proofs.accepts_end_by_replies.Goals as goal

pub returns : goal.returns
returns g c = accepts_end (meaning g.S.Shelf g.V.Disk)
