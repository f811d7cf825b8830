use Rattle.cas_model.proofs.Eras.Finishing as laws
use Rattle.cas_model.proofs.laws.finished_changes_are_entered.Goals as goal

pub returns : goal.returns
returns g c = laws.finished_have_entered
