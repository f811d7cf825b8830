use Rattle.std.proofs.Common.{reverse, sym, subst}
use Rattle.std.specs.Prelude.{IfOk, IsTrue, ◌↔◌}
use Rattle.cas_audit.specs.Keeping.{KeepsStanding}
use Rattle.cas_audit.proofs.tables.Tables.keeps_standing.Goals as goal

pub returns-in-Ended : goal.returns-in-Ended
returns-in-Ended c = subst (λ mark. IfOk c.answer_stands.result (λ kept. IsTrue kept ↔ KeepsStanding mark (reverse c.args.marks.now))) (sym c.in-Ended.is) c.answer_stands.ensures
