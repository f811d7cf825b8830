use Rattle.cas_change_text.specs.Grammar.{IsState}
use Rattle.cas_change_text.specs.Reading.{whole_state}
use Rattle.cas_change_text.specs.Words.{words_of, all_of}
use Rattle.cas_change_text.proofs.BothWays.{whole_state-found, whole_state-again, only_from_gives, found_from_gives}
use Rattle.cas_change_text.specs.Misfit.{AreState}
use Rattle.cas_change_text.proofs.Misfits.{state_misfit, misfit_from_gives}
use Rattle.cas_change_text.proofs.states.read_state.Goals as goal

pub returns-clause-found : goal.returns-clause-found
returns-clause-found c =
    let words = words_of c.args.text.now in
    found_from_gives c.whole_state.result (whole_state (all_of words)) (IsState words) (rw c.of.ensures at c.whole_state.ensures) (whole_state-found words)

pub returns-clause-only : goal.returns-clause-only
returns-clause-only c = λ state is.
    let words = words_of c.args.text.now in
    only_from_gives c.whole_state.result (whole_state (all_of words)) state (rw c.of.ensures at c.whole_state.ensures) (whole_state-again words state is)

pub returns-clause-first : goal.returns-clause-first
returns-clause-first c =
    let words = words_of c.args.text.now in
    misfit_from_gives c.whole_state.result (whole_state (all_of words)) AreState AreState words (rw c.of.ensures at c.whole_state.ensures) (state_misfit words)
