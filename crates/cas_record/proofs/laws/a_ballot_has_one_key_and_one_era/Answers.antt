use Rattle.cas_record.proofs.Logs.Orders.{drawn_once}
use Rattle.cas_record.proofs.laws.a_ballot_has_one_key_and_one_era.Goals as goal

pub returns : goal.returns
returns c cluster log orderly ballot key k era e first second = drawn_once cluster orderly first second
