use Rattle.std.proofs.Common.{arith, ◌<◌}
use Rattle.std.proofs.lemmas.Nat.{or_lt}
use Rattle.cas_ballot.proofs.MemberLemmas.{one_bit_fits, set_bit}
use Rattle.cas_ballot.proofs.members.Members.insert.Goals as goal

pub invariant_of-self : goal.invariant_of-self
invariant_of-self c = or_lt 64 _ _ c.self.invariant (one_bit_fits _ (omega (arith, c.number.ensures.within)))

pub returns : goal.returns
returns c =
    let within : c.number.result < 64 = omega (arith, c.number.ensures.within) in
    rw (← c.self.view_is, ← c.number.ensures.value) (set_bit c.self.inside.bits c.number.result within)
