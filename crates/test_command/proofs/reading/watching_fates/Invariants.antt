use Rattle.std.proofs.Common.{◌≡◌, vec_len}
use Rattle.test_command.proofs.reading.watching_fates.Given as goal

abbrev pub invariant-loop-caller : goal.invariant-loop-caller
invariant-loop-caller l = record { made : vec_len l.fates ≡ l.caller }
