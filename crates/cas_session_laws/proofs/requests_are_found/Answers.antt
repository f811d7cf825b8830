use Rattle.cas_record.specs.Histories.Chain.{settled_of}
use Rattle.cas_record.specs.Histories.Replay.{opening_state}
use Rattle.cas_session_laws.proofs.Calling.{of_session}
use Rattle.cas_session_laws.proofs.Histories.{found}
use Rattle.cas_session_laws.proofs.requests_are_found.Goals as goal

pub returns : goal.returns
returns c = λ marks legal key session.
    let all = found (opening_state key marks) (settled_of key marks) (of_session key marks legal session) in
    (all.requests, all.acting)
