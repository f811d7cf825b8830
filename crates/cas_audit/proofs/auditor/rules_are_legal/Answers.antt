use Rattle.cas_audit.proofs.Auditing.{rules_legal}
use Rattle.cas_audit.proofs.auditor.rules_are_legal.Goals as goal

pub returns : goal.returns
returns c = rules_legal
