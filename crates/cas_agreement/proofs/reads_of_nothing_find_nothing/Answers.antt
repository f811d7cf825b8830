use Rattle.cas_model.specs.View.{meaning}
use Rattle.cas_agreement.proofs.Nothing.{reads_find_nothing}
use Rattle.cas_agreement.proofs.reads_of_nothing_find_nothing.Goals as goal

pub returns : goal.returns
returns g c = reads_find_nothing (meaning g.S.Shelf g.V.Disk)
