use Rattle.std.proofs.Common.{reverse, sym, subst}
use Rattle.std.specs.Prelude.{IfOk, IsTrue, ◌↔◌}
use Rattle.cas_audit.specs.Keeping.{AnswerIsLate}
use Rattle.cas_audit.proofs.tables.Tables.answer_is_late.Goals as goal

pub returns-in-Done : goal.returns-in-Done
returns-in-Done c = subst (λ answer. IfOk c.stands_late.result (λ kept. IsTrue kept ↔ AnswerIsLate c.args.caller c.args.call answer (reverse c.args.marks.now))) (sym c.in-Done.is) c.stands_late.ensures
