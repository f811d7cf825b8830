use Rattle.cas_protocol.proofs.Witness as witness
use Rattle.cas_protocol.proofs.laws.some_run_is_done.Goals as goal

pub returns : goal.returns
returns c = witness.done
