use Rattle.cas_model.specs.View.{meaning}
use Rattle.cas_model_stops.proofs.Holding.{what_stopped_hold}
use Rattle.cas_model_stops.proofs.laws.what_stopped_acceptors_hold.Goals as goal

pub returns : goal.returns
returns g c = what_stopped_hold (meaning g.S.Shelf g.V.Disk)
