use Rattle.std.proofs.Common.{◌≡◌, ◌<◌, ℕ, true}
use Rattle.cas_vault.specs.Places.{may_stand}
use Rattle.cas_vault.proofs.codec.first_wrong.Given as goal

abbrev pub invariant-loop-place : goal.invariant-loop-place
invariant-loop-place l = (k : ℕ) → k < l.place → may_stand l.bytes k ≡ true
