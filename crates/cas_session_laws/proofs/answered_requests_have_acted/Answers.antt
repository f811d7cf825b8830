use Rattle.std.proofs.Common.{refl}
use Rattle.cas_session_laws.proofs.Calling.{answering, is_done}
use Rattle.cas_session_laws.proofs.answered_requests_have_acted.Goals as goal

pub returns : goal.returns
returns c = λ request lawful key tries old new reply fresh served legal session.
    is_done request reply fresh key new lawful legal session (answering request key reply fresh served.served refl served.made)
