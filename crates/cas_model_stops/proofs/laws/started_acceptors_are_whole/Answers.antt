use Rattle.cas_model.specs.View.{meaning}
use Rattle.cas_model_stops.proofs.Holding.{started_are_whole}
use Rattle.cas_model_stops.proofs.laws.started_acceptors_are_whole.Goals as goal

pub returns : goal.returns
returns g c = started_are_whole (meaning g.S.Shelf g.V.Disk)
