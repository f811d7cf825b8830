use Rattle.cas_model.specs.View.{meaning}
use Rattle.cas_model.proofs.ViewLaws as laws
use Rattle.cas_model.proofs.laws.what_is_done_is_kept.Goals as goal

pub returns : goal.returns
returns g c = laws.done_kept (meaning g.S.Shelf g.V.Disk)
