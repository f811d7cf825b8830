use Rattle.std.proofs.Common.{◌≤◌, ◌++◌, length, take}
use Rattle.std.specs.List.{flat_map, AllByRecursion}
use Rattle.std.specs.Io.KnownBytes.{Appends}
use Rattle.casreg_marks.specs.Marks.{count_line, mark_line, with_text}
use Rattle.casreg_marks.proofs.Lined.{SaysItself}
use Rattle.casreg_marks.proofs.marks.write_marks.Given as goal

abbrev pub invariant-loop-mark : goal.invariant-loop-mark
invariant-loop-mark g l = record {
  written : Appends (g.K.Sink.contents l.fn.sink) (g.K.Sink.contents l.sink) (count_line (length (with_text l.marks)) ++ flat_map mark_line (take l.mark-index l.marks));
  said : AllByRecursion SaysItself (take l.mark-index l.marks);
  never_falls : g.K.Sink.faults_of l.fn.sink ≤ g.K.Sink.faults_of l.sink;
}
