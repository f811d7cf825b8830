-- Verdicts that harm a frame, and how they are counted.
use Rattle.std.specs.Prelude.{ℕ, ◌+◌, ◌-◌, ◌^◌, ◌≤◌, min, Bool, true, false, IsTrue, if◌then◌else◌}
use Rattle.cas_base.specs.Faults.{Rose}
use Rattle.cas_fate.specs.declared.fate.Verdict.{Verdict}
use Rattle.cas_fate.specs.declared.fate.Verdict.TheVariants.{Deliver, Lose, Twice, Late, Hold}

-- the frame is lost, late or held back
abbrev pub is_harm : Verdict → Bool
is_harm Deliver = false
is_harm Lose = true
is_harm Twice = false
is_harm Late = true
is_harm Hold = true

-- what a verdict says of the count of harms: the count did not fall, and a frame was harmed only where it rose
pub record HarmsByCount (verdict : Verdict) (old new : ℕ) : Type 0 where
  pub never_falls : old ≤ new
  pub only_by_count : IsTrue (is_harm verdict) → Rose old new

-- a count of harms after a verdict: one more for a harm, up to the greatest u64
abbrev pub counted : Verdict → ℕ → ℕ
counted verdict harms = if is_harm verdict then min (harms + 1) (2 ^ 64 - 1) else harms
