use Rattle.std.proofs.Common.{◌≡◌, ◌<◌, ℕ, length}
use Rattle.std.specs.Prelude.{vec_len, vec_capacity, slice_index_or}
use Rattle.casreg_race.specs.Runs.{HasRoomForAnswers}
use Rattle.casreg_race.proofs.race.rooms_for.Given as goal

abbrev pub invariant-loop-of_caller : goal.invariant-loop-of_caller
invariant-loop-of_caller l = record {
  count : vec_len l.told ≡ l.of_caller-index;
  capacity : vec_capacity l.told ≡ length l.tasks;
  rooms : (n : ℕ) (of_caller : _) (room : _) → n < l.of_caller-index → HasRoomForAnswers (slice_index_or l.tasks n of_caller).items (slice_index_or l.told.items n room).items (vec_capacity (slice_index_or l.told.items n room));
}
