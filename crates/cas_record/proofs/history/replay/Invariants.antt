-- what is still to be replayed acts on the state so far
use Rattle.std.proofs.Common.{◌≡◌, drop}
use Rattle.cas_record.specs.Histories.Replay.{replay_from}
use Rattle.cas_record.proofs.history.replay.Given as goal

abbrev pub invariant-loop-entry : goal.invariant-loop-entry
invariant-loop-entry l = replay_from l.fn.start l.entries ≡ replay_from l.state (drop l.entry-index l.entries)
