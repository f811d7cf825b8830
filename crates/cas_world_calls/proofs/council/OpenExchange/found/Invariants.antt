-- the probes so far are copied
use Rattle.std.proofs.Common.{◌≡◌, take}
use Rattle.cas_world_calls.proofs.council.OpenExchange.found.Given as goal

abbrev pub invariant-loop-probe : goal.invariant-loop-probe
invariant-loop-probe l = l.found.items ≡ take l.probe-index l.self.told.items
