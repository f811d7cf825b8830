use Rattle.cas_model.specs.View.{meaning}
use Rattle.cas_model_stops.proofs.Holding.{stopped_are_clear}
use Rattle.cas_model_stops.proofs.laws.stopped_members_are_clear.Goals as goal

pub returns : goal.returns
returns g c = stopped_are_clear (meaning g.S.Shelf g.V.Disk)
