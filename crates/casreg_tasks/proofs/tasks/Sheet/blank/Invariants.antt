-- each caller so far has a list without a task
use Rattle.std.proofs.Common.{◌≡◌, ℕ, ◌≤◌, [], get_or, map, vec_len, vec_capacity}
use Rattle.std.specs.Prelude.{vec_items}
use Rattle.casreg_tasks.proofs.tasks.Sheet.blank.Given as goal

abbrev pub invariant-loop-caller : goal.invariant-loop-caller
invariant-loop-caller l = record {
  counted : vec_len l.tasks ≡ l._caller;
  room : l.callers ≤ vec_capacity l.tasks;
  bare : (n : ℕ) → get_or (map vec_items l.tasks.items) n [] ≡ [];
}
