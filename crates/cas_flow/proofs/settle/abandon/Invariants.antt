use Rattle.std.proofs.Common.{◌≡◌, ◌+◌, length}
use Rattle.cas_flow.specs.Flow.{all_joined}
use Rattle.cas_flow.proofs.settle.abandon.Given as goal

abbrev pub invariant-loop-frame : goal.invariant-loop-frame
invariant-loop-frame l = record {
  late : all_joined l.late l.queue.messages ≡ all_joined l.initial.late l.initial.queue.messages;
  room : l.queue.room + length l.queue.messages ≡ l.initial.queue.room + length l.initial.queue.messages;
}

abbrev pub decreases-loop-frame : goal.decreases-loop-frame
decreases-loop-frame l = length l.queue.messages
