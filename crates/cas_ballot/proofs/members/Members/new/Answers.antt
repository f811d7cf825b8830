use Rattle.cas_ballot.proofs.MemberLemmas.{members_of_bits-zero}
use Rattle.cas_ballot.proofs.members.Members.new.Goals as goal

pub returns : goal.returns
returns c = members_of_bits-zero
