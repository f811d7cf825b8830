use Rattle.std.proofs.Common.{◌≡◌, arith, sym, ap, ◌∙◌}
use Rattle.std.proofs.lemmas.Grind.{common_steps}
use Rattle.std.specs.Prelude.{string_bytes}
use Rattle.cas_audit.specs.Spelling.Texts.{finding_line}
use Rattle.cas_audit.specs.declared.finding.Finding.TheVariants.{Broken}
use Rattle.cas_audit.proofs.finding.print_finding.Goals as goal

pub returns-in_ok-format-in-Broken : goal.returns-in_ok-format-in-Broken
returns-in_ok-format-in-Broken c =
    let line : string_bytes c.in_ok-format-in-Broken.field-0 ≡ finding_line (Broken c.in-Broken.field-0) = grind (arith, common_steps, c.in_ok-format-in-Broken.ensures.ok) in
    ap (λ v. v.items) c.into_bytes-in-Broken.ensures.value ∙ line ∙ sym (ap finding_line c.in-Broken.is)
