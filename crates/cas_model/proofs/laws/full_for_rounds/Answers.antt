use Rattle.cas_model.proofs.Safety.Marks as laws
use Rattle.cas_model.proofs.laws.full_for_rounds.Goals as goal

pub returns : goal.returns
returns g c = laws.full_for_rounds
