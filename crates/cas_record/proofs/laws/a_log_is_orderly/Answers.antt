use Rattle.cas_record.proofs.Logs.Witness.{witness_is_orderly}
use Rattle.cas_record.proofs.laws.a_log_is_orderly.Goals as goal

pub returns : goal.returns
returns c = witness_is_orderly
