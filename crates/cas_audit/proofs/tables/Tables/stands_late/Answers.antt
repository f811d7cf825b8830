use Rattle.std.proofs.Common.{reverse, subst}
use Rattle.std.proofs.lemmas.Bool.{leb-true, le-leb}
use Rattle.cas_audit.specs.Tables.{IsChangeAt}
use Rattle.cas_audit.proofs.Decisions.{late_told}
use Rattle.cas_audit.proofs.tables.Tables.stands_late.Goals as goal

pub returns-in-Some : goal.returns-in-Some
returns-in-Some c =
    let marks = reverse c.args.marks.now in
    let change = subst (IsChangeAt c.args.caller c.args.call marks) c.in-Some.is c.in_ok-place.ensures in
    let late = late_told c.requires.legal.numbered (c.call_of.ensures marks c.requires.are) change in
    (λ e. late.0 (leb-true c.call_of.result.seen c.in-Some.place e), λ l. le-leb c.call_of.result.seen c.in-Some.place (late.1 l))
