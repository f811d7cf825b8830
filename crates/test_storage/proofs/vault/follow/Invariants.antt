use Rattle.cas_vault.specs.Vault.{VaultStands}
use Rattle.test_storage.proofs.vault.follow.Given as goal

abbrev pub invariant-loop-row : goal.invariant-loop-row
invariant-loop-row g l = VaultStands g.V.Disk.tells g.V.Disk.seen g.V.Disk.may_leave l.vault
