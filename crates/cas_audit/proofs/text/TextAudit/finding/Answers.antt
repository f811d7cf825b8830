use Rattle.std.proofs.Common.{◌≡◌, arith, sym, ap, ◌∙◌, subst}
use Rattle.cas_audit.specs.Spelling.Progress.{IsProgress}
use Rattle.cas_audit.specs.declared.text.Progress.TheVariants.{Marks}
use Rattle.cas_audit.proofs.Spelling.LineByLine.{found_whole_legal, found_whole_broken, found_missing, found_bad_line}
use Rattle.cas_audit.proofs.text.TextAudit.finding.Goals as goal

pub returns-in-None : goal.returns-in-None
returns-in-None c lines counted at =
    found_whole_legal lines c.args.self.now.auditor (subst (IsProgress lines c.args.self.now.auditor) (c.in-Marks-eq0.is ∙ ap Marks (sym c.in-Marks-eq0.left-is ∙ c.in-Marks-eq0.left-test)) at) c.in-None.ensures

pub returns-in-Some : goal.returns-in-Some
returns-in-Some c lines counted at =
    found_whole_broken lines c.args.self.now.auditor c.in-Some.broken (subst (IsProgress lines c.args.self.now.auditor) (c.in-Marks-eq0.is ∙ ap Marks (sym c.in-Marks-eq0.left-is ∙ c.in-Marks-eq0.left-test)) at) c.in-Some.ensures

pub returns-in-Marks : goal.returns-in-Marks
returns-in-Marks c lines counted at =
    let more : c.in-Marks.left ≡ 0 → ⊥ = λ none. c.in-Marks.left-test.1 (c.in-Marks.left-is ∙ none) in
    found_missing lines c.args.self.now.auditor c.in-Marks.left _ (omega (arith, more)) (subst (IsProgress lines c.args.self.now.auditor) c.in-Marks.is at) (omega (arith, counted))

pub returns-in-Bad : goal.returns-in-Bad
returns-in-Bad c lines counted at = found_bad_line lines c.args.self.now.auditor c.in-Bad.line c.in-Bad.why (subst (IsProgress lines c.args.self.now.auditor) c.in-Bad.is at)
