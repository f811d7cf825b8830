use Rattle.std.proofs.Common.{◌≡◌, ◌-◌, ◌≤◌}
use Rattle.cas_lines.specs.declared.lines.TheConstants.{MOST_LINES}
use Rattle.cas_model.specs.View.{meaning}
use Rattle.casreg_script.specs.Script.{State, IsInState}
use Rattle.casreg_command.proofs.Runs.{IsMidwayIn}
use Rattle.casreg_command.proofs.cluster.answer_lines.Given as goal

abbrev pub invariant-loop-lines : goal.invariant-loop-lines
invariant-loop-lines g l = record {
  midway : (first : State g.row.H.Denot g.row.D.Denot) → IsInState l.initial.script first → IsMidwayIn g.S.Source.take_gives (meaning g.H.Shelf g.D.Disk)
      l.initial.script.tries first l.initial.source l.source (g.S.Source.remaining l.initial.source) l.lines
      (g.S.Source.remaining l.source) (g.K.Sink.contents l.initial.sink) (g.K.Sink.contents l.sink) l.script;
  tries : l.script.tries ≡ l.initial.script.tries;
  source_faults : g.S.Source.faults_of l.initial.source ≤ g.S.Source.faults_of l.source;
  sink_faults : g.K.Sink.faults_of l.initial.sink ≤ g.K.Sink.faults_of l.sink;
}

abbrev pub decreases-loop-lines : goal.decreases-loop-lines
decreases-loop-lines g l = MOST_LINES - l.lines.handed
