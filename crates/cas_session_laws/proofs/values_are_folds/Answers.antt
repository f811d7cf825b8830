use Rattle.cas_session_laws.proofs.Histories.{folds_of}
use Rattle.cas_session_laws.proofs.values_are_folds.Goals as goal

pub returns : goal.returns
returns c = λ start history requests acting contents stands.
    let f = folds_of acting contents stands in
    (f.last, f.stands_for, f.folds)
