use Rattle.cas_model.specs.View.{meaning}
use Rattle.cas_model.proofs.Collection.Laws as laws
use Rattle.cas_model.proofs.laws.removals_are_done.Goals as goal

pub returns : goal.returns
returns g c = laws.removals_done (meaning g.S.Shelf g.V.Disk)
