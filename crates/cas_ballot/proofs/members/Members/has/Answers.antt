use Rattle.std.proofs.Common.{arith, ◌<◌}
use Rattle.cas_ballot.proofs.MemberLemmas.{bit_test}
use Rattle.cas_ballot.proofs.members.Members.has.Goals as goal

pub returns : goal.returns
returns c =
    let within : c.number.result < 64 = omega (arith, c.number.ensures.within) in
    rw (← c.self.view_is, ← c.number.ensures.value) (bit_test c.self.inside.bits c.number.result within)
