use Rattle.std.proofs.lemmas.Nat.{or_lt}
use Rattle.cas_ballot.proofs.MemberLemmas.{either_bits}
use Rattle.cas_ballot.proofs.members.Members.union.Goals as goal

pub invariant_of-result : goal.invariant_of-result
invariant_of-result c = or_lt 64 _ _ c.self.invariant c.other.invariant

pub returns : goal.returns
returns c = rw (← c.self.view_is, ← c.other.view_is) (either_bits c.self.inside.bits c.other.inside.bits)
