use Rattle.cas_http.proofs.LongerFronts.{stays}
use Rattle.cas_http.proofs.laws.what_is_told_of_a_front_stays.Goals as goal

pub returns : goal.returns
returns c = stays
