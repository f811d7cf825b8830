-- what is still to be told goes on from the state so far
use Rattle.std.proofs.Common.{◌≡◌, ◌++◌, drop, length}
use Rattle.casreg_tasks.specs.Histories.{entry_lines, head_line}
use Rattle.casreg_tasks.proofs.histories.print_history.Given as goal

abbrev pub invariant-loop-entry : goal.invariant-loop-entry
invariant-loop-entry l =
    l.text.items ++ entry_lines l.state (drop l.entry-index l.entry-items)
    ≡ head_line l.key (length l.entry-items) ++ entry_lines l.initial.state l.entry-items
