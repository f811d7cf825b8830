use Rattle.cas_model.specs.View.{meaning}
use Rattle.cas_model.proofs.ViewLaws as laws
use Rattle.cas_model.proofs.laws.openings_are_remembered.Goals as goal

pub returns : goal.returns
returns g c = laws.openings (meaning g.S.Shelf g.V.Disk)
