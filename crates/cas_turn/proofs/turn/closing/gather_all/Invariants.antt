use Rattle.std.proofs.Common.{◌≡◌, ◌++◌, map, All, [], vec_len}
use Rattle.std.specs.Prelude.{None}
use Rattle.cas_turn.specs.declared.view.View.TheVariants.{Gathers}
use Rattle.cas_turn.specs.Steps.{IsSamePlace, known_by, them_of}
use Rattle.cas_turn.proofs.turn.closing.gather_all.Given as goal

abbrev pub invariant-loop-seat : goal.invariant-loop-seat
invariant-loop-seat g l = record {
  same : IsSamePlace l.initial.gatherer l.gatherer;
  gathers : l.gatherer.me ≡ (Gathers (them_of l.gatherer.me.0), []);
  entries : map known_by l.seats.items ++ them_of l.gatherer.me.0 ≡ map known_by l.initial.seats.items ++ them_of l.initial.gatherer.me.0;
  turn : All (λ s. s.turn ≡ l.top.table_id) l.seats.items;
  idle : All (λ s. s.holds ≡ None) l.seats.items;
}

abbrev pub decreases-loop-seat : goal.decreases-loop-seat
decreases-loop-seat g l = vec_len l.seats
