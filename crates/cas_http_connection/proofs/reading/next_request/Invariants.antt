use Rattle.std.proofs.Common.{◌+◌, ◌-◌, ◌≤◌, vec_len}
use Rattle.cas_http.specs.declared.head.TheConstants.{MOST_HEAD, MOST_BODY}
use Rattle.cas_http_connection.proofs.Hearing.{HeldGrew}
use Rattle.cas_http_connection.proofs.reading.next_request.Given as goal

abbrev pub invariant-loop-asked : goal.invariant-loop-asked
invariant-loop-asked g l = record {
  gathered : HeldGrew g.S.Source.take_gives l.initial.source l.source (g.S.Source.remaining l.initial.source) (g.S.Source.remaining l.source) l.initial.held.items l.held.items;
  counted : g.S.Source.faults_of l.initial.source ≤ g.S.Source.faults_of l.source;
}

abbrev pub decreases-loop-asked : goal.decreases-loop-asked
decreases-loop-asked g l = MOST_HEAD + MOST_BODY - vec_len l.held
