use Rattle.cas_audit.proofs.Verdicts.{verdicts_one}
use Rattle.cas_audit.proofs.auditor.verdicts_are_one.Goals as goal

pub returns : goal.returns
returns c = verdicts_one
