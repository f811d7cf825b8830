use Rattle.cas_model.specs.View.{meaning}
use Rattle.cas_model.proofs.ViewLaws as laws
use Rattle.cas_model.proofs.laws.histories_are_legal.Goals as goal

pub returns : goal.returns
returns g c = laws.histories (meaning g.S.Shelf g.V.Disk)
