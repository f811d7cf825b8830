-- What the answer of a restart tells of an acceptor, and of a desk.
use Rattle.std.specs.Prelude.{◌≡◌, ⊤, ℕ, List, true, false, Result, Err, OnOk, OnErr, IsErrOf}
use Rattle.cas_acceptor.specs.Acceptor.{AcceptorView}
use Rattle.cas_proposer.specs.Desk.{DeskView}
use Rattle.cas_slot.specs.Shelf.{HasShelfCause}
use Rattle.cas_slot.specs.declared.fault.ShelfFault.{ShelfFault}
use Rattle.cas_slot.specs.declared.fault.ShelfFault.TheVariants as shelf_fault
use Rattle.cas_vault.specs.Error.{HasVaultCause}
use Rattle.cas_vault.specs.Vault.{disk_of, IsForeignAt}
use Rattle.cas_vault.specs.declared.error.VaultError.{VaultError}
use Rattle.cas_vault.specs.declared.error.VaultError.TheVariants as vault_error
use Rattle.cas_model.specs.View.{ShelfMeaning, DiskMeaning}

-- the acceptor is up then, or stays down: where its shelf's count of faults rose, where a crash left a shelf that is foreign at that byte,
-- though not where none had started, or for want of memory
pub record TellsOfAcceptor {S : Type 0} (m : ShelfMeaning S) (was now : AcceptorView S) (result : Result ⊤ ShelfFault) : Type 0 where
  pub up : OnOk result (now.down ≡ false)
  pub down : OnErr result (now.down ≡ true)
  pub cause : HasShelfCause result (m.faults was.shelf) (m.faults now.shelf)
  pub foreign : m.tells → (at : ℕ) → IsErrOf result (shelf_fault.Foreign at) → m.may_leave was.shelf (Err at)
  pub start_not_foreign : was.started ≡ false → (at : ℕ) → IsErrOf result (shelf_fault.Foreign at) → ⊥
  pub not_full : IsErrOf result shelf_fault.Full → ⊥

-- the same of the desk of a proposer and its vault
pub record TellsOfDesk {V : Type 0} (m : DiskMeaning V) (was now : DeskView V) (result : Result ⊤ VaultError) : Type 0 where
  pub up : OnOk result (now.down ≡ false)
  pub down : OnErr result (now.down ≡ true)
  pub cause : HasVaultCause result (m.faults (disk_of was.vault)) (m.faults (disk_of now.vault))
  pub foreign : m.tells → (at : ℕ) → IsErrOf result (vault_error.Foreign at) → (c : List ℕ) × m.may_leave (disk_of was.vault) c × IsForeignAt c at
  pub not_spent : IsErrOf result vault_error.Spent → ⊥
