use Rattle.std.proofs.Common.{◌≤◌, ◌++◌, map, take}
use Rattle.std.specs.Prelude.{vec_items}
use Rattle.std.specs.Io.KnownBytes.{Appends}
use Rattle.casreg_race.specs.Texts.{told_lines}
use Rattle.casreg_race.proofs.race.write_answers.Given as goal

abbrev pub invariant-loop-caller : goal.invariant-loop-caller
invariant-loop-caller g l = record {
  written : Appends (g.K.Sink.contents l.fn.sink) (g.K.Sink.contents l.sink) (l.results.bad.items ++ told_lines 0 (take l.caller (map vec_items l.results.told.items)));
  never_falls : g.K.Sink.faults_of l.fn.sink ≤ g.K.Sink.faults_of l.sink;
}
