use Rattle.cas_model_causes.proofs.Exchanges.Answering.{silent_are_harmed}
use Rattle.cas_model_causes.proofs.silent_are_harmed.Goals as goal

pub returns : goal.returns
returns g c = silent_are_harmed
