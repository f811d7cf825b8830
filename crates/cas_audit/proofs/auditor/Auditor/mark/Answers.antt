use Rattle.std.proofs.Common.{◌≡◌, [], reverse, sym, ap, subst, ◌∙◌}
use Rattle.std.specs.Prelude.{◌∷◌, ◌++◌}
use Rattle.cas_record.proofs.Positions.{read_more}
use Rattle.cas_audit.specs.Auditing.{IsVerdict, IsBroken}
use Rattle.cas_audit.specs.Watching.{TellsWhileLegal}
use Rattle.cas_audit.proofs.Verdicts.{broken_later}
use Rattle.cas_audit.proofs.auditor.Auditor.mark.Goals as goal

pub invariant_of-self-in-Some : goal.invariant_of-self-in-Some
invariant_of-self-in-Some c =
    let old = c.self.inside.marks.items in
    let mark = c.args.mark in
    let broken = c.in-Some.broken in
    let new = c.push_reserved.new.self.items in
    let list : reverse new ≡ mark ∷ reverse old = ap reverse (c.push_reserved.ensures.items ∙ ap (λ xs. xs ++ mark ∷ []) c.in_ok-reserve.ensures.items) ∙ read_more old mark in
    let step = broken_later mark (reverse old) broken (subst (λ o. IsVerdict o (reverse old)) c.in-Some.is c.self.invariant.0) in
    let shown = subst (IsBroken broken) (sym list) step in
    (subst (λ o. IsVerdict o (reverse new)) (sym c.in-Some.is) shown, subst (λ o. TellsWhileLegal o c.self.inside.tables (reverse new)) (sym c.in-Some.is) tt)

pub returns-in-Some-clause-verdict : goal.returns-in-Some-clause-verdict
returns-in-Some-clause-verdict c =
    let old = c.self.inside.marks.items in
    let mark = c.args.mark in
    let broken = c.in-Some.broken in
    let step = broken_later mark (reverse old) broken (subst (λ o. IsVerdict o (reverse old)) c.in-Some.is c.self.invariant.0) in
    subst (λ marks. IsBroken broken (mark ∷ marks)) c.self.view_is step
