use Rattle.cas_ballot.proofs.MemberLemmas.{end_low, last_before, none_behind}
use Rattle.cas_ballot.proofs.members.Members.end.Goals as goal

pub returns-clause-behind : goal.returns-clause-behind
returns-clause-behind c = λ n from. rw (← c.self.view_is) (none_behind c.self.inside.bits _ n (end_low c.self.inside.bits c.self.invariant) from)

pub returns-clause-last : goal.returns-clause-last
returns-clause-last c = λ n last. rw (← c.self.view_is) (last_before c.self.inside.bits n c.self.invariant last)
