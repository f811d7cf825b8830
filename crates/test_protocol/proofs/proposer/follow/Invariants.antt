use Rattle.std.proofs.Common.{◌≡◌, false, None}
use Rattle.test_protocol.proofs.proposer.follow.Given as goal

abbrev pub invariant-loop-step : goal.invariant-loop-step
invariant-loop-step g l = record {
  up : l.desk.down ≡ false;
  idle : l.desk.round ≡ None;
}
