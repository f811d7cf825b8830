use Rattle.std.proofs.Common.{◌≡◌, vec_len}
use Rattle.test_command.proofs.reopening.go_on.Given as goal

abbrev pub invariant-loop-caller : goal.invariant-loop-caller
invariant-loop-caller g l = record { made : vec_len l.fates ≡ l._caller }
