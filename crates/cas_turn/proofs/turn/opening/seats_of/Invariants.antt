use Rattle.std.proofs.Common.{◌≡◌, vec_len, vec_capacity, []}
use Rattle.cas_turn.specs.declared.view.View.TheVariants.{Opens}
use Rattle.cas_turn.specs.Sitting.{first_seats}
use Rattle.cas_turn.specs.Steps.{IsSamePlace}
use Rattle.cas_turn.proofs.turn.opening.seats_of.Given as goal

abbrev pub invariant-loop-number : goal.invariant-loop-number
invariant-loop-number g l = record {
  same : IsSamePlace l.initial.opener l.opener;
  opens : l.opener.me ≡ (Opens l.number l.initial.count (g.V.Grows.list l.top.key.opened.value), []);
  seats : l.room.items ≡ first_seats l.top.table_id l.initial.count (g.V.Grows.list l.top.key.opened.value) l.number;
  count : vec_len l.room ≡ l.number;
  room : vec_capacity l.room ≡ vec_capacity l.initial.room;
}
