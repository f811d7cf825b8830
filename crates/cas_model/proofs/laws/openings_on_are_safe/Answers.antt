use Rattle.cas_model.specs.View.{meaning}
use Rattle.cas_model.proofs.Openings.Safe as laws
use Rattle.cas_model.proofs.laws.openings_on_are_safe.Goals as goal

pub returns : goal.returns
returns g c = laws.opens_on_are_safe (meaning g.S.Shelf g.V.Disk)
