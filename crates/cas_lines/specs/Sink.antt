-- What callers see of a sink over memory, and what a failed write of several pieces leaves.
use Rattle.std.specs.Prelude.{ℕ, ◌<◌, List, length, take, Option}
use Rattle.std.specs.Io.KnownBytes.{Appends}

-- the bytes held, the most that one call takes, the numbers of the calls that fail, and how many calls and faults there were
pub record MemorySinkState : Type 0 where
  pub held : List ℕ
  pub piece : ℕ
  pub failing : List ℕ
  pub calls : ℕ
  pub faults : ℕ

-- known contents grow by a front of the bytes that is not all of them
abbrev pub AppendsFront : Option (List ℕ) → Option (List ℕ) → List ℕ → Type 0
AppendsFront old new bytes = (count : ℕ) × (count < length bytes) × Appends old new (take count bytes)
