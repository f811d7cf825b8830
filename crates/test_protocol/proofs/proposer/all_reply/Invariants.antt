use Rattle.std.proofs.Common.{◌≡◌, is_some}
use Rattle.cas_proposer.specs.Desk.{is_in_prepare}
use Rattle.test_protocol.proofs.proposer.all_reply.Given as goal

abbrev pub invariant-loop-number : goal.invariant-loop-number
invariant-loop-number g l = record {
  down : l.desk.down ≡ l.initial.desk.down;
  still_open : is_some l.desk.round ≡ is_some l.initial.desk.round;
  same_phase : is_in_prepare l.desk.round ≡ is_in_prepare l.initial.desk.round;
}
