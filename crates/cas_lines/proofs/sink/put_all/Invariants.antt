use Rattle.std.proofs.Common.{◌≤◌, ◌-◌, length, take}
use Rattle.std.specs.Io.KnownBytes.{Appends}
use Rattle.cas_lines.proofs.sink.put_all.Given as goal

abbrev pub invariant-loop-written : goal.invariant-loop-written
invariant-loop-written g l = record {
  within : l.written ≤ length l.bytes;
  front : Appends (g.K.Sink.contents l.initial.sink) (g.K.Sink.contents l.sink) (take l.written l.bytes);
  counted : g.K.Sink.faults_of l.initial.sink ≤ g.K.Sink.faults_of l.sink;
}

abbrev pub decreases-loop-written : goal.decreases-loop-written
decreases-loop-written g l = length l.bytes - l.written
