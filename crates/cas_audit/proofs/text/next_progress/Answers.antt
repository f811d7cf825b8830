use Rattle.std.proofs.Common.{sym, ap, ◌∙◌}
use Rattle.cas_audit.specs.Spelling.Reading.{line_mark}
use Rattle.cas_audit.proofs.Spelling.LineByLine.{next_mark}
use Rattle.cas_audit.proofs.text.next_progress.Goals as goal

pub returns-in_ok-mark-in-Ok : goal.returns-in_ok-mark-in-Ok
returns-in_ok-mark-in-Ok c lines counted at =
    next_mark lines c.args.line.now.bytes c.in-Ok.mark c.args.auditor.now c.mark.new.self c.args.left c.requires at
    (ap line_mark (sym c.bytes.ensures) ∙ c.in-Ok.ensures.exact) c.in_ok-mark-in-Ok.ensures.marks
