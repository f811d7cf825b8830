use Rattle.std.proofs.Common.{◌≡◌, take}
use Rattle.cas_record.specs.Agreement.{tells, acceptors_where}
use Rattle.cas_record.proofs.agreement.tellers.Given as goal

-- those of the probes so far
abbrev pub invariant-loop-probe : goal.invariant-loop-probe
invariant-loop-probe l = l.members ≡ acceptors_where tells (take l.probe-index l.found)
