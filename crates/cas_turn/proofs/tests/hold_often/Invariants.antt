use Rattle.std.proofs.Common.{◌≡◌}
use Rattle.std.specs.Prelude.{None}
use Rattle.cas_turn.proofs.tests.hold_often.Given as goal

abbrev pub invariant-loop : goal.invariant-loop
invariant-loop g l = (l.seat.turn ≡ l.initial.seat.turn) × (l.seat.holds ≡ None) × (l.seat.number ≡ l.initial.seat.number)
