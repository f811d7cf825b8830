use Rattle.cas_session_laws.proofs.Undisturbed.{undisturbed}
use Rattle.cas_session_laws.proofs.undisturbed_requests_are_done.Goals as goal

pub returns : goal.returns
returns c = λ request tries pending calls told serves state contents left stands may next each. undisturbed request state contents left stands may next serves each
