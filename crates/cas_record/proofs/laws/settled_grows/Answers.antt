use Rattle.cas_record.proofs.LawLemmas as laws
use Rattle.cas_record.proofs.laws.settled_grows.Goals as goal

pub returns : goal.returns
returns c = laws.settled_grows
