use Rattle.std.proofs.Common.{◌≡◌, ◌≤◌, length, take}
use Rattle.casreg_marks.specs.Marks.{with_text}
use Rattle.casreg_marks.proofs.marks.count_with_text.Given as goal

abbrev pub invariant-loop-mark : goal.invariant-loop-mark
invariant-loop-mark l = record { counted : l.count ≡ length (with_text (take l.mark-index l.marks)); few : l.count ≤ l.mark-index }
