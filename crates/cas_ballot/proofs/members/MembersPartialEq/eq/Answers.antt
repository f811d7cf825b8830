use Rattle.cas_ballot.proofs.MemberLemmas.{same_bits}
use Rattle.cas_ballot.proofs.members.MembersPartialEq.eq.Goals as goal

pub returns : goal.returns
returns c = rw (← c.self.view_is, ← c.other.view_is) (same_bits c.self.inside.bits c.other.inside.bits c.self.invariant c.other.invariant)
