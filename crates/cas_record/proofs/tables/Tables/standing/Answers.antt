use Rattle.std.proofs.Common.{reverse, sym, subst, ◌∙◌}
use Rattle.cas_record.specs.Kept.Tables.{IsRowFor}
use Rattle.cas_record.proofs.Kept.Stands.{stands_not, stands_by, choice_shut, choice_lost, choice_made}
use Rattle.cas_record.proofs.tables.Tables.standing.Goals.{else-found-via-then-found+else-not-shut, else-found-via-else-found}
use Rattle.cas_record.proofs.tables.Tables.standing.Goals as goal

pub returns-in_default : goal.returns-in_default
returns-in_default c = λ key marks are is. sym (stands_not key c.args.ballot (reverse marks) (subst (IsRowFor key marks) c.in_default.is is))

pub returns-then-not-shut : goal.returns-then-not-shut
returns-then-not-shut c = λ key marks are is.
    sym (choice_made c.contains_key-found.result c.contains_key-shut.result c.args.ballot c.if-found.true c.if-not-shut.true)
    ∙ stands_by c.args.self.now key c.args.ballot marks c.in-Some.row c.contains_key-found.result c.contains_key-shut.result are (subst (IsRowFor key marks) c.in-Some.is is) c.contains_key-found.ensures c.contains_key-shut.ensures

pub returns-else-found : goal.returns-else-found
returns-else-found c = λ key marks are is.
    sym (elim c.else-found.branch [
      | else-found-via-then-found+else-not-shut w ↦ choice_shut c.contains_key-found.result c.contains_key-shut.result c.args.ballot w.if-not-shut.false
      | else-found-via-else-found w ↦ choice_lost c.contains_key-found.result c.contains_key-shut.result c.args.ballot w.if-found.false
    ])
    ∙ stands_by c.args.self.now key c.args.ballot marks c.in-Some.row c.contains_key-found.result c.contains_key-shut.result are (subst (IsRowFor key marks) c.in-Some.is is) c.contains_key-found.ensures c.contains_key-shut.ensures
