-- How long a disk may become.
use Rattle.std.specs.Prelude.{ℕ, ◌≤◌, List, length}
use Rattle.cas_disk.specs.Disk.{ContinuesOnly}

-- each of these contents has at most so many bytes
abbrev pub AllWithin : ℕ → (List ℕ → Type 0) → Type 0
AllWithin limit contents = (c : List ℕ) → contents c → length c ≤ limit

-- The disk did not become longer than it was, or than so many bytes: where all that a crash could leave of the old disk lies within a
-- limit of at least so many bytes, so does all that a crash at any moment since may leave. What a read gives is part of that.
pub record NotLonger {D : Type 0} (moment : D → ℕ) (left_since : D → ℕ → List ℕ → Type 0) (may_leave : D → List ℕ → Type 0) (old new : D) (bytes : ℕ) : Type 0 where
  pub within : (limit : ℕ) → bytes ≤ limit → AllWithin limit (may_leave old) → ContinuesOnly moment left_since old new (λ c. length c ≤ limit)
