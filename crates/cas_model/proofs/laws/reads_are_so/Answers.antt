use Rattle.cas_model.specs.View.{meaning}
use Rattle.cas_model.proofs.Exchanges.ReadLaws as laws
use Rattle.cas_model.proofs.laws.reads_are_so.Goals as goal

pub returns : goal.returns
returns g c = laws.reads_are_so (meaning g.S.Shelf g.V.Disk)
