use Rattle.std.proofs.Common.{◌≡◌, ◌+◌, ◌-◌, ◌≤◌, false, max, take, vec_len}
use Rattle.std.specs.Io.{StartsWith}
use Rattle.std.specs.Io.KnownBytes.{Keeps, prepend_known}
use Rattle.cas_lines.specs.Lines.{has_newline}
use Rattle.cas_lines.proofs.Calls.{FilledUp}
use Rattle.cas_lines.proofs.lines.fill.Given as goal

abbrev pub invariant-loop-held : goal.invariant-loop-held
invariant-loop-held g l = record {
  ahead : Keeps (prepend_known l.initial.held.items (g.S.Source.remaining l.initial.source)) (prepend_known l.held.items (g.S.Source.remaining l.source));
  front : StartsWith l.held.items l.initial.held.items;
  none : has_newline (take l.room l.held.items) ≡ false;
  bound : vec_len l.held ≤ max (vec_len l.initial.held) (l.room + 1);
  gathered : FilledUp g.S.Source.take_gives l.room l.initial.held.items l.initial.source l.held.items l.source;
  counted : g.S.Source.faults_of l.initial.source ≤ g.S.Source.faults_of l.source;
}

abbrev pub decreases-loop-held : goal.decreases-loop-held
decreases-loop-held g l = l.room + 1 - vec_len l.held
