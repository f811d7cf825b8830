use Rattle.cas_http.proofs.RequestFronts.{head_tells}
use Rattle.cas_http.proofs.laws.a_head_tells_its_request.Goals as goal

pub returns : goal.returns
returns c = head_tells
