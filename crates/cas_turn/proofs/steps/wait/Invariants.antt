use Rattle.std.proofs.Common.{◌≡◌}
use Rattle.cas_turn.specs.Steps.{IsSamePlace}
use Rattle.cas_turn.proofs.steps.wait.Given as goal

abbrev pub invariant-loop : goal.invariant-loop
invariant-loop g l = IsSamePlace l.initial.place l.place × (l.place.me ≡ l.initial.place.me)
