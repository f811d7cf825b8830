use Rattle.cas_change_text.specs.Grammar.{IsProgram}
use Rattle.cas_change_text.specs.Reading.{program_at}
use Rattle.cas_change_text.specs.Words.{words_of, all_of}
use Rattle.cas_change_text.proofs.BothWays.{program_found, program_again, only_from_gives, found_from_gives}
use Rattle.cas_change_text.specs.Misfit.{AreClauses, AreProgram}
use Rattle.cas_change_text.proofs.Misfits.{program_misfit, misfit_from_gives}
use Rattle.cas_change_text.proofs.reading.read_program.Goals as goal

pub returns-clause-found : goal.returns-clause-found
returns-clause-found c =
    let words = words_of c.args.text.now in
    found_from_gives c.program_in.result (program_at (all_of words)) (IsProgram words) (rw c.of.ensures at c.program_in.ensures) (program_found words)

pub returns-clause-only : goal.returns-clause-only
returns-clause-only c = λ program is.
    let words = words_of c.args.text.now in
    only_from_gives c.program_in.result (program_at (all_of words)) program (rw c.of.ensures at c.program_in.ensures) (program_again words program is)

pub returns-clause-first : goal.returns-clause-first
returns-clause-first c =
    let words = words_of c.args.text.now in
    misfit_from_gives c.program_in.result (program_at (all_of words)) AreClauses AreProgram words (rw c.of.ensures at c.program_in.ensures) (program_misfit words)
