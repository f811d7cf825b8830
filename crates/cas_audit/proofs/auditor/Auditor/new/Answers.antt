use Rattle.std.proofs.Common.{reverse, sym, subst}
use Rattle.std.specs.Prelude.{None}
use Rattle.cas_audit.specs.Auditing.{IsVerdict}
use Rattle.cas_audit.specs.Watching.{TellsWhileLegal}
use Rattle.cas_audit.proofs.Verdicts.{nothing_legal}
use Rattle.cas_audit.proofs.auditor.Auditor.new.Goals as goal

pub invariant_of-result : goal.invariant_of-result
invariant_of-result c = subst (λ items. IsVerdict None (reverse items) × TellsWhileLegal None c.new-2.result (reverse items)) (sym c.new.ensures.items) (nothing_legal, c.new-2.ensures)
