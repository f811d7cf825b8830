use Rattle.std.proofs.Common.{◌≡◌, ◌+◌, ◌≤◌, ◌++◌, map}
use Rattle.std.specs.Prelude.{reverse, vec_len, vec_capacity}
use Rattle.casreg_race.proofs.racers.take_back.Given as goal

abbrev pub decreases-loop-pass : goal.decreases-loop-pass
decreases-loop-pass g l = vec_len l.racers

-- what is with the racers still, and what was taken back, the last one first
abbrev pub invariant-loop-pass : goal.invariant-loop-pass
invariant-loop-pass g l = record {
  passes : map (λ racer. racer.pass) l.racers.items ++ reverse l.passes.items ≡ map (λ racer. racer.pass) l.fn.racers.items;
  fates : map (λ racer. racer.fate) l.racers.items ++ reverse l.fates.items ≡ map (λ racer. racer.fate) l.fn.racers.items ++ reverse l.fn.fates.items;
  told : map (λ racer. racer.told) l.racers.items ++ reverse l.told.items ≡ map (λ racer. racer.told) l.fn.racers.items;
  room : (vec_len l.racers + vec_len l.passes ≤ vec_capacity l.passes) × (vec_len l.racers + vec_len l.told ≤ vec_capacity l.told) × (vec_len l.racers + vec_len l.fates ≤ vec_capacity l.fates);
}
