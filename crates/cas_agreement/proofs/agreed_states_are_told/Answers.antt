use Rattle.cas_agreement.proofs.Agreed.{agreed_is_told}
use Rattle.cas_agreement.proofs.agreed_states_are_told.Goals as goal

pub returns : goal.returns
returns g = agreed_is_told
