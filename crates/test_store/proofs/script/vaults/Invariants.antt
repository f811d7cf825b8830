use Rattle.std.proofs.Common.{◌≡◌, vec_len}
use Rattle.test_store.proofs.script.vaults.Given as goal

abbrev pub invariant-loop-vault : goal.invariant-loop-vault
invariant-loop-vault l = record { made : vec_len l.vaults ≡ l._vault }
