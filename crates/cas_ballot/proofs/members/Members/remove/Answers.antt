use Rattle.std.proofs.Common.{arith, ◌<◌}
use Rattle.cas_ballot.proofs.MemberLemmas.{clear_bit}
use Rattle.cas_ballot.proofs.members.Members.remove.Goals as goal

pub returns : goal.returns
returns c =
    let within : c.number.result < 64 = omega (arith, c.number.ensures.within) in
    rw (← c.self.view_is, ← c.number.ensures.value) (clear_bit c.self.inside.bits c.number.result within)
