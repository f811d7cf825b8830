-- Counts of faults: a source, a sink or a disk counts its own, and a fault is answered only where that count rose.
use Rattle.std.specs.Prelude.{◌≡◌, ℕ, ◌-◌, ◌^◌, ◌<◌, ◌≤◌, ◌⊎◌, Result, OnErr}

-- a count rose in a call where it is greater afterwards, or stands at the greatest u64
abbrev pub Rose : ℕ → ℕ → Type 0
Rose old new = (old < new) ⊎ (new ≡ 2 ^ 64 - 1)

-- what a call says of its object's count: the count did not fall, and the call failed only where the count rose
pub record FailsByCount {T E : Type 0} (result : Result T E) (old new : ℕ) : Type 0 where
  pub never_falls : old ≤ new
  pub failed_only_by_count : OnErr result (Rose old new)
