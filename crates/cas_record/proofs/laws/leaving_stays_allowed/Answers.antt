use Rattle.cas_record.proofs.Logs.Leaving.{may_leave_more}
use Rattle.cas_record.proofs.laws.leaving_stays_allowed.Goals as goal

pub returns : goal.returns
returns c cluster happening log lawful proposer left other may = may_leave_more cluster happening lawful other may
