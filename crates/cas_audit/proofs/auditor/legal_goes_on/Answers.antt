use Rattle.cas_audit.proofs.Going.{rules_go_on}
use Rattle.cas_audit.proofs.auditor.legal_goes_on.Goals as goal

pub returns : goal.returns
returns c = rules_go_on
