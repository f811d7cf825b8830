-- Why a call on a vault did not do what it was asked.
use Rattle.std.specs.Prelude.{ℕ, ◌≤◌, Result, IsErrOf}
use Rattle.cas_base.specs.Faults.{Rose}
use Rattle.cas_vault.specs.declared.error.VaultError.{VaultError}
use Rattle.cas_vault.specs.declared.error.VaultError.TheVariants.{VaultFault, Foreign}

-- the disk's count of faults does not fall, and `VaultFault` comes only where it rose
pub record HasVaultCause {T : Type 0} (result : Result T VaultError) (old new : ℕ) : Type 0 where
  pub never_falls : old ≤ new
  pub failed : IsErrOf result VaultFault → Rose old new

-- no byte is told to be foreign
abbrev pub IsNotForeign : {T : Type 0} → Result T VaultError → Type 0
IsNotForeign result = (at : ℕ) → IsErrOf result (Foreign at) → ⊥
