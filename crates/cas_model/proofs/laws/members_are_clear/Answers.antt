use Rattle.cas_model.specs.View.{meaning}
use Rattle.cas_model.proofs.ViewLaws as laws
use Rattle.cas_model.proofs.laws.members_are_clear.Goals as goal

pub returns : goal.returns
returns g c = laws.members_clear (meaning g.S.Shelf g.V.Disk)
