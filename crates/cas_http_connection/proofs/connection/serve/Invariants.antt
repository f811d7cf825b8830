use Rattle.std.proofs.Common.{◌+◌, ◌-◌, ◌*◌, ◌<◌, ◌≤◌}
use Rattle.cas_http.specs.declared.head.TheConstants.{MOST_HEAD, MOST_BODY}
use Rattle.cas_http_connection.specs.declared.connection.TheConstants.{MOST_REQUESTS}
use Rattle.cas_http_connection.proofs.Serving.{Midway}
use Rattle.cas_http_connection.proofs.connection.serve.Given as goal

abbrev pub invariant-loop-held : goal.invariant-loop-held
invariant-loop-held g l = record {
  midway : Midway g.S.Source.take_gives g.C.Changer.change_gives
      (record { source = l.initial.source; left = g.S.Source.remaining l.initial.source; changer = l.initial.changer; written = g.K.Sink.contents l.initial.sink })
      l.answered l.passed l.held.items
      (record { source = l.source; left = g.S.Source.remaining l.source; changer = l.changer; written = g.K.Sink.contents l.sink });
  few : l.answered < MOST_REQUESTS;
  short : l.passed ≤ l.answered * (MOST_HEAD + MOST_BODY);
  source_faults : g.S.Source.faults_of l.initial.source ≤ g.S.Source.faults_of l.source;
  sink_faults : g.K.Sink.faults_of l.initial.sink ≤ g.K.Sink.faults_of l.sink;
}

abbrev pub decreases-loop-held : goal.decreases-loop-held
decreases-loop-held g l = MOST_REQUESTS - l.answered
