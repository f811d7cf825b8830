use Rattle.cas_http.proofs.RequestFronts.{request_stays}
use Rattle.cas_http.proofs.laws.a_request_stays.Goals as goal

pub returns : goal.returns
returns c = request_stays
