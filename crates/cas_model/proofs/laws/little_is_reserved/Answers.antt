use Rattle.cas_model.proofs.Safety.Marks as laws
use Rattle.cas_model.proofs.laws.little_is_reserved.Goals as goal

pub returns : goal.returns
returns g c = laws.little_is_reserved
