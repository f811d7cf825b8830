-- the lines so far are parted
use Rattle.std.proofs.Common.{◌≡◌, ◌+◌, ◌-◌, ◌≤◌, map, vec_len}
use Rattle.std.specs.Prelude.{vec_items}
use Rattle.cas_lines.specs.declared.lines.TheConstants.{MOST_LINES}
use Rattle.casreg_tasks.proofs.Sheets.{IsSheetReadSoFar}
use Rattle.casreg_tasks.proofs.tasks.read_sheet.Given as goal

abbrev pub invariant-loop-lines : goal.invariant-loop-lines
invariant-loop-lines g l = record {
  so_far : IsSheetReadSoFar l.proposers (g.S.Source.remaining l.initial.source) (g.S.Source.remaining l.source) l.lines l.sheet.bad.items (map vec_items l.sheet.tasks.items);
  callers : vec_len l.sheet.tasks ≡ l.proposers + 1;
  faults : g.S.Source.faults_of l.initial.source ≤ g.S.Source.faults_of l.source;
}

abbrev pub decreases-loop-lines : goal.decreases-loop-lines
decreases-loop-lines g l = MOST_LINES - l.lines.handed
