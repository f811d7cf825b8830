use Rattle.std.proofs.Common.{arith}
use Rattle.std.proofs.lemmas.Result.{on_ok_weaker}
use Rattle.cas_change_text.proofs.Printed.{fits_front}
use Rattle.cas_change_text.proofs.printing.push_clauses.Goals as goal

pub returns-in_ok-push_clause-in-len1-up-clause-fits : goal.returns-in_ok-push_clause-in-len1-up-clause-fits
returns-in_ok-push_clause-in-len1-up-clause-fits c =
    on_ok_weaker c.push_next_clauses.result (λ each. fits_front c.args.clauses.now c.first-item.result (omega arith) c.first-item.is c.in_ok-push_clause-in-len1-up.ensures.fits each) c.push_next_clauses.ensures.fits
