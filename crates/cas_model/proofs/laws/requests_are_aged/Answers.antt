use Rattle.cas_model.specs.View.{meaning}
use Rattle.cas_model.proofs.Collection.Laws as laws
use Rattle.cas_model.proofs.laws.requests_are_aged.Goals as goal

pub returns : goal.returns
returns g c = laws.requests_aged (meaning g.S.Shelf g.V.Disk)
