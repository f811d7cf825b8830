use Rattle.cas_model.specs.View.{meaning}
use Rattle.cas_model.proofs.Eras.Entering as laws
use Rattle.cas_model.proofs.laws.eras_are_lawful.Goals as goal

pub returns : goal.returns
returns g c = laws.eras_are_lawful (meaning g.S.Shelf g.V.Disk)
