use Rattle.std.proofs.Common.{◌≡◌, false, take}
use Rattle.cas_record.specs.Agreement.{has_other_era}
use Rattle.cas_record.proofs.agreement.other_era.Given as goal

-- no state so far is of another era
abbrev pub invariant-loop-probe : goal.invariant-loop-probe
invariant-loop-probe l = has_other_era l.number (take l.probe-index l.found) ≡ false
