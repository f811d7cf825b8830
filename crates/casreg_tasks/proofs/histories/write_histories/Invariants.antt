-- the histories of all keys so far were written
use Rattle.std.proofs.Common.{◌≤◌, reverse}
use Rattle.std.specs.Prelude.{option_copied}
use Rattle.casreg_tasks.proofs.KeysAhead.{IsSoFar}
use Rattle.casreg_tasks.proofs.SettledKeys.{count_after, named_keys}
use Rattle.casreg_tasks.proofs.histories.write_histories.Given as goal

abbrev pub invariant-loop-key : goal.invariant-loop-key
invariant-loop-key g l = record {
  so_far : IsSoFar (reverse l.book.marks) (option_copied l.after) (g.K.Sink.contents l.initial.sink) (g.K.Sink.contents l.sink);
  faults : g.K.Sink.faults_of l.initial.sink ≤ g.K.Sink.faults_of l.sink;
}

abbrev pub decreases-loop-key : goal.decreases-loop-key
decreases-loop-key g l = count_after (option_copied l.after) (named_keys (reverse l.book.marks))
