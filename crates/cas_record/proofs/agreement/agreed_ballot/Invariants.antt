use Rattle.std.proofs.Common.{◌≡◌, false, take}
use Rattle.std.specs.List.{list_any}
use Rattle.cas_record.specs.Agreement.{ballot_told, tells_agreed}
use Rattle.cas_record.proofs.agreement.agreed_ballot.Given as goal

-- no ballot of the probes so far is agreed on
abbrev pub invariant-loop-probe : goal.invariant-loop-probe
invariant-loop-probe l = list_any (λ probe. tells_agreed l.era l.found (ballot_told probe.told)) (take l.probe-index l.found) ≡ false
