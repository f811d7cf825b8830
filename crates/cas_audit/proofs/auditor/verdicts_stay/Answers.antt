use Rattle.cas_audit.proofs.Verdicts.{verdicts_stay}
use Rattle.cas_audit.proofs.auditor.verdicts_stay.Goals as goal

pub returns : goal.returns
returns c = verdicts_stay
