use Rattle.cas_audit.proofs.Spelling.MarkWords.{line_says}
use Rattle.cas_audit.proofs.Spelling.MarksBack.{line_again}
use Rattle.cas_audit.proofs.printing.print_mark.Goals as goal

pub returns-clause-says : goal.returns-clause-says
returns-clause-says c =
    let read = line_again (λ line. line.items) c.mark_line.result c.args.mark.now c.requires c.mark_line.ensures.text c.mark_line.ensures.fits in
    line_says (λ line. line.items) c.mark_line.result c.args.mark.now read

pub returns-clause-again : goal.returns-clause-again
returns-clause-again c = line_again (λ line. line.items) c.mark_line.result c.args.mark.now c.requires c.mark_line.ensures.text c.mark_line.ensures.fits
