use Rattle.cas_model.specs.View.{meaning}
use Rattle.cas_model.proofs.Collection.Laws as laws
use Rattle.cas_model.proofs.laws.collected_keys_have_floors.Goals as goal

pub returns : goal.returns
returns g c = laws.collected_floors (meaning g.S.Shelf g.V.Disk)
