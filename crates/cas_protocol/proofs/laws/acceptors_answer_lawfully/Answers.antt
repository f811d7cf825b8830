use Rattle.cas_protocol.proofs.Answered as answered
use Rattle.cas_protocol.proofs.laws.acceptors_answer_lawfully.Goals as goal

pub returns : goal.returns
returns c cluster log old new request reply = answered.answers cluster old new request reply
