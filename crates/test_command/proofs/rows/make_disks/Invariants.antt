use Rattle.std.proofs.Common.{◌≡◌, vec_len}
use Rattle.test_command.proofs.rows.make_disks.Given as goal

abbrev pub invariant-loop-number : goal.invariant-loop-number
invariant-loop-number l = record { made : vec_len l.disks ≡ l.number }
