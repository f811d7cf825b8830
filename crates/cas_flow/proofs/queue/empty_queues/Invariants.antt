use Rattle.std.proofs.Common.{◌≡◌, ◌≤◌, replicate, vec_len, vec_capacity}
use Rattle.cas_flow.specs.Queue.{empty_queue}
use Rattle.cas_flow.proofs.queue.empty_queues.Given as goal

abbrev pub invariant-loop : goal.invariant-loop
invariant-loop l = record {
  made : l.queues.items ≡ replicate l.counter empty_queue;
  count : vec_len l.queues ≡ l.counter;
  room : 18 ≤ vec_capacity l.queues;
}
