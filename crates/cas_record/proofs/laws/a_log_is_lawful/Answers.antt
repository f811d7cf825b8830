use Rattle.cas_record.proofs.Logs.Witness.{witness_stands}
use Rattle.cas_record.proofs.laws.a_log_is_lawful.Goals as goal

pub returns : goal.returns
returns c = witness_stands
