use Rattle.std.proofs.Common.{◌≡◌, suc, arith, length, reverse, sym, subst}
use Rattle.std.specs.Prelude.{◌∷◌}
use Rattle.std.proofs.lemmas.List.{length-reverse}
use Rattle.cas_audit.specs.Auditing.{rules, IsFirstBroken}
use Rattle.cas_audit.specs.Watching.{IsFirstOf}
use Rattle.cas_audit.proofs.Verdicts.{broken_now}
use Rattle.cas_audit.proofs.auditor.watch.Goals as goal

pub returns-in-Some-clause-verdict : goal.returns-in-Some-clause-verdict
returns-in-Some-clause-verdict c =
    let older = reverse c.args.marks.now in
    let mark = c.args.mark.now in
    let at : c.in-Ok.at ≡ suc (length older) = omega (arith, length-reverse c.args.marks.now, c.in-Ok.ensures) in
    broken_now mark older c.number.result c.in-Ok.at c.requires.legal at
    (subst (λ n. IsFirstBroken 0 rules n (mark ∷ older)) (sym c.number.ensures) (subst (λ rule. IsFirstOf rule (mark ∷ older)) c.in-Some.is c.in_ok-rule.ensures))
