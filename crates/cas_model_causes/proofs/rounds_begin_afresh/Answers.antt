use Rattle.cas_model.specs.View.{meaning}
use Rattle.cas_model_causes.proofs.Calls.Ends.{begin_afresh}
use Rattle.cas_model_causes.proofs.rounds_begin_afresh.Goals as goal

pub returns : goal.returns
returns g c = begin_afresh (meaning g.S.Shelf g.V.Disk)
