use Rattle.std.proofs.Common.{reverse, sym, subst}
use Rattle.std.specs.Prelude.{IfOk, IsTrue, ◌↔◌}
use Rattle.cas_audit.specs.Keeping.{KeepsNumbers}
use Rattle.cas_audit.proofs.tables.Tables.keeps_numbers.Goals as goal

pub returns-in-Proposed : goal.returns-in-Proposed
returns-in-Proposed c = subst (λ mark. IfOk c.is_first_proposal.result (λ kept. IsTrue kept ↔ KeepsNumbers mark (reverse c.args.marks.now))) (sym c.in-Proposed.is) c.is_first_proposal.ensures
