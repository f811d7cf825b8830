use Rattle.cas_model.proofs.Witness as witness
use Rattle.cas_model.proofs.laws.some_history_is_shown.Goals as goal

pub returns : goal.returns
returns g c = witness.shown c.args.vault.now
