use Rattle.std.proofs.Common.{◌-◌, ◌≤◌}
use Rattle.cas_lines.specs.declared.lines.TheConstants.{MOST_LINES}
use Rattle.cas_audit.proofs.Spelling.TextRuns.{IsAuditMidway}
use Rattle.cas_audit.proofs.text.find.Given as goal

abbrev pub invariant-loop-audit : goal.invariant-loop-audit
invariant-loop-audit g l = record {
  midway : IsAuditMidway g.S.Source.take_gives l.initial.source l.source (g.S.Source.remaining l.initial.source) (g.S.Source.remaining l.source) l.lines l.audit;
  source_faults : g.S.Source.faults_of l.initial.source ≤ g.S.Source.faults_of l.source;
}

abbrev pub decreases-loop-audit : goal.decreases-loop-audit
decreases-loop-audit g l = MOST_LINES - l.lines.handed
