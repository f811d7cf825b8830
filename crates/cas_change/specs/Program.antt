-- Programs: the lists of clauses that a client may send.
use Rattle.std.specs.Prelude.{ℕ, ◌<◌, ◌≤◌}
use Rattle.cas_change.specs.declared.program.TheConstants.{MOST_CLAUSES}

-- how many clauses a program may have: 1 to 8
pub record IsProgramLength (count : ℕ) : Type 0 where
  pub not_empty : 0 < count
  pub fits : count ≤ MOST_CLAUSES
