use Rattle.cas_model.proofs.Eras.Finishing as laws
use Rattle.cas_model.proofs.laws.finished_changes_are_as_asked.Goals as goal

pub returns : goal.returns
returns g c = laws.finished_as_asked
