use Rattle.std.proofs.Common.{sym}
use Rattle.std.specs.Prelude.{◌==◌}
use Rattle.std.specs.Int.{bit_at}
use Rattle.cas_ballot.proofs.MemberLemmas.{length-members_of_bits, IsMemberSet-members_where}
use Rattle.cas_ballot.proofs.members.Members.count.Goals as goal

pub returns-clause-value : goal.returns-clause-value
returns-clause-value c = rw (← c.self.view_is) (sym (length-members_of_bits c.self.inside.bits c.self.invariant))

pub returns-clause-set : goal.returns-clause-set
returns-clause-set c = rw (← c.self.view_is) (IsMemberSet-members_where (λ n. bit_at c.self.inside.bits n == 1))
