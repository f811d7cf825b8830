use Rattle.cas_record.proofs.Logs.Grants.{granted_promise, granted_ride}
use Rattle.cas_record.proofs.laws.draws_are_granted.Goals as goal

pub returns : goal.returns
returns c = record {
  promised = λ cluster log orderly acceptor p told drawn promised low. granted_promise cluster p told orderly drawn promised low;
  rode = λ cluster log orderly acceptor p drawn some took. granted_ride cluster p orderly drawn some took;
}
