use Rattle.cas_model.specs.View.{meaning}
use Rattle.cas_model.proofs.ViewLaws as laws
use Rattle.cas_model.proofs.laws.floors_are_passed.Goals as goal

pub returns : goal.returns
returns g c = laws.floors_passed (meaning g.S.Shelf g.V.Disk)
