-- Faults of a shelf on which several changes are made.
use Rattle.std.proofs.Common.{ℕ, ◌≤◌, inl, inr, arith}
use Rattle.cas_base.specs.Faults.{Rose}

-- a count that rose since a later time rose since an earlier one
pub rose_since : (old mid new : ℕ) → old ≤ mid → Rose mid new → Rose old new
rose_since old mid new later (inl more) = inl (omega (arith, later, more))
rose_since old mid new later (inr most) = inr most
