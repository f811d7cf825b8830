use Rattle.cas_wire.proofs.Loops.{AgesRead}
use Rattle.cas_wire.proofs.request.ages_at.Given as goal

abbrev pub invariant-loop-i : goal.invariant-loop-i
invariant-loop-i l = AgesRead l.least.0 l.rest l.bytes l.i
