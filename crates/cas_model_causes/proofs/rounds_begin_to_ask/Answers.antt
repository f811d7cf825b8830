use Rattle.cas_model.specs.View.{meaning}
use Rattle.cas_model_causes.proofs.Calls.Undisturbed.{begin_to_ask}
use Rattle.cas_model_causes.proofs.rounds_begin_to_ask.Goals as goal

pub returns : goal.returns
returns g c = begin_to_ask (meaning g.S.Shelf g.V.Disk)
