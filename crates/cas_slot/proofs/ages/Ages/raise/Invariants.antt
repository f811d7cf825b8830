use Rattle.std.proofs.Common.{◌≡◌, ◌≤◌, ℕ, ◌<◌, get_or, length, List}
use Rattle.std.specs.Prelude.{max}
use Rattle.cas_slot.proofs.ages.Ages.raise.Given as goal

-- the ages in front are raised, and those behind are as they were
pub record Raising (was least now : List ℕ) (i : ℕ) : Type 0 where
  pub long : length now ≡ 17
  pub front : (k : ℕ) → k < i → get_or now k 0 ≡ max (get_or was k 0) (get_or least k 0)
  pub rest : (k : ℕ) → i ≤ k → get_or now k 0 ≡ get_or was k 0

abbrev pub invariant-loop-i : goal.invariant-loop-i
invariant-loop-i l = Raising l.fn.self.0 l.least.0 l.self.0 l.i
