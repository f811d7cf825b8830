use Rattle.cas_ballot.proofs.MemberLemmas.{both_bits}
use Rattle.cas_ballot.proofs.members.Members.intersection.Goals as goal

pub returns : goal.returns
returns c = rw (← c.self.view_is, ← c.other.view_is) (both_bits c.self.inside.bits c.other.inside.bits)
