use Rattle.std.proofs.Common.{◌≡◌, ◌+◌, ◌≤◌, ◌++◌, map}
use Rattle.std.specs.Prelude.{reverse, vec_len, vec_capacity}
use Rattle.casreg_race.proofs.racers.line_up.Given as goal

abbrev pub decreases-loop-pass : goal.decreases-loop-pass
decreases-loop-pass g l = vec_len l.passes

-- what the racers were given, and what is left, are all
abbrev pub invariant-loop-pass : goal.invariant-loop-pass
invariant-loop-pass g l = record {
  passes : map (λ racer. racer.pass) l.racers.items ++ reverse l.passes.items ≡ l.fn.passes.items;
  fates : map (λ racer. racer.fate) l.racers.items ++ reverse l.fates.items ≡ l.fn.fates.items;
  tasks : map (λ racer. racer.tasks) l.racers.items ++ reverse l.tasks.items ≡ l.fn.tasks.items;
  told : map (λ racer. racer.told) l.racers.items ++ reverse l.told.items ≡ l.fn.told.items;
  room : vec_len l.racers + vec_len l.passes ≤ vec_capacity l.racers;
  enough : vec_len l.passes ≤ vec_len l.fates;
  as_many : (vec_len l.tasks ≡ vec_len l.passes) × (vec_len l.told ≡ vec_len l.passes);
  capacities : (vec_capacity l.passes ≡ vec_capacity l.fn.passes) × (vec_capacity l.fates ≡ vec_capacity l.fn.fates) × (vec_capacity l.told ≡ vec_capacity l.fn.told);
}
