-- What disks mean, from its parts.
use Rattle.std.specs.Prelude.{ℕ, List}
use Rattle.cas_model.specs.View.{DiskMeaning}

abbrev pub disks : {V : Type 0} → Type 0 → (V → List ℕ → Type 0) → (V → ℕ) → DiskMeaning V
disks tells may_leave faults = record { tells = tells; may_leave = may_leave; faults = faults }
