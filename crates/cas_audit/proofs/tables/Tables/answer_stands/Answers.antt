use Rattle.std.proofs.Common.{reverse, sym, subst}
use Rattle.std.specs.Prelude.{IsTrue, ◌↔◌}
use Rattle.cas_audit.specs.Keeping.{AnswerStands}
use Rattle.cas_audit.specs.Tables.{IsChangeAt}
use Rattle.cas_audit.proofs.Decisions.{if_ok_map}
use Rattle.cas_audit.proofs.tables.Tables.answer_stands.Goals as goal

pub returns-in-Some : goal.returns-in-Some
returns-in-Some c =
    let marks = reverse c.args.marks.now in
    let change = subst (IsChangeAt c.args.caller c.args.call marks) c.in-Some.is c.in_ok-change_at.ensures in
    if_ok_map c.has_outcome.result c.has_outcome.ensures (λ has told.
    subst (λ answer. IsTrue has ↔ AnswerStands c.args.caller c.args.call answer marks) (sym c.in-Done.is) (told c.in-Some.field-0 change))
