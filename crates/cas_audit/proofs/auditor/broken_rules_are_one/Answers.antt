use Rattle.cas_audit.proofs.Auditing.{first_is_one}
use Rattle.cas_audit.proofs.auditor.broken_rules_are_one.Goals as goal

pub returns : goal.returns
returns c = first_is_one
