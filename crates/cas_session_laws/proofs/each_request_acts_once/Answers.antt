use Rattle.cas_session_laws.proofs.Histories.{acts_once}
use Rattle.cas_session_laws.proofs.each_request_acts_once.Goals as goal

pub returns : goal.returns
returns c = λ start history requests acting. acts_once acting
