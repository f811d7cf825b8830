use Rattle.cas_model.specs.View.{meaning}
use Rattle.cas_model.proofs.ViewLaws as laws
use Rattle.cas_model.proofs.laws.what_is_told_done_stands.Goals as goal

pub returns : goal.returns
returns g c = laws.dones_stand (meaning g.S.Shelf g.V.Disk)
