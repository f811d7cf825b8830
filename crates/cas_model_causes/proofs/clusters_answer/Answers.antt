use Rattle.cas_model.specs.View.{meaning}
use Rattle.cas_model_causes.proofs.Exchanges.Answering.{clusters_answer}
use Rattle.cas_model_causes.proofs.clusters_answer.Goals as goal

pub returns : goal.returns
returns g c = clusters_answer (meaning g.S.Shelf g.V.Disk)
