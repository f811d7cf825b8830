use Rattle.std.proofs.Common.{◌≡◌, drop}
use Rattle.cas_world_calls.specs.Read.{first_agreed}
use Rattle.cas_world_calls.proofs.read.agreed.Given as goal

-- they agree on none that the probes so far told
abbrev pub invariant-loop-probe : goal.invariant-loop-probe
invariant-loop-probe l = first_agreed l.era l.told l.above l.told ≡ first_agreed l.era l.told l.above (drop l.probe-index l.told)
