use Rattle.cas_vault.specs.Vault.{VaultStands}
use Rattle.test_storage.proofs.vault.draw_last.Given as goal

abbrev pub invariant-loop : goal.invariant-loop
invariant-loop g l = VaultStands g.V.Disk.tells g.V.Disk.seen g.V.Disk.may_leave l.vault
