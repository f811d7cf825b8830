use Rattle.std.proofs.Common.{◌≡◌, sym, ap, subst, ℕ, List}
use Rattle.cas_change_text.specs.Grammar.{IsProgram}
use Rattle.cas_change_text.specs.Printing.{program_text}
use Rattle.cas_change_text.specs.Words.{words_of}
use Rattle.cas_change_text.proofs.Printed.{IsProgram-printed}
use Rattle.cas_change_text.proofs.printing.print_program.Goals as goal

pub returns-clause-spelled : goal.returns-clause-spelled
returns-clause-spelled c =
    let program = c.args.program.now in
    let fits = c.clauses.ensures.fits in
    let is = c.clauses.ensures.clauses in
    let text : c.into_bytes.result.items ≡ program_text program = cc (c.into_bytes.ensures.value, c.in_ok-push_clauses.ensures.ok, c.new-text.ensures.bytes, ap program_text is) in
    subst (λ (t : List ℕ). IsProgram (words_of t) program) (sym text)
    (IsProgram-printed program fits.not_empty fits.fits (rw is at c.in_ok-push_clauses.ensures.fits))
