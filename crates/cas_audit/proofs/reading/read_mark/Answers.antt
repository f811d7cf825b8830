use Rattle.std.proofs.Common.{ap, ◌∙◌}
use Rattle.cas_change_text.specs.Words.{words_of}
use Rattle.cas_change_text.proofs.BothWays.{found_from_gives, only_from_gives}
use Rattle.cas_audit.specs.Spelling.Lines.{IsMarkLine}
use Rattle.cas_audit.specs.Spelling.Reading.{line_mark}
use Rattle.cas_audit.proofs.Spelling.MarkWords.{mark_found, mark_reads}
use Rattle.cas_audit.proofs.Spelling.MarksBack.{mark_again}
use Rattle.cas_audit.proofs.reading.read_mark.Goals as goal

pub returns-clause-found : goal.returns-clause-found
returns-clause-found c =
    let line = c.args.line.now in
    found_from_gives c.line_mark.result (line_mark line) (IsMarkLine (words_of line)) c.line_mark.ensures.exact (λ mark is. mark_found (words_of line) mark is)

pub returns-clause-only : goal.returns-clause-only
returns-clause-only c = λ mark says.
    let line = c.args.line.now in
    only_from_gives c.line_mark.result (line_mark line) mark c.line_mark.ensures.exact (mark_reads (words_of line) mark says)

pub returns-clause-again : goal.returns-clause-again
returns-clause-again c = λ mark written fits is.
    only_from_gives c.line_mark.result (line_mark c.args.line.now) mark c.line_mark.ensures.exact (ap line_mark is ∙ mark_again mark written fits)
