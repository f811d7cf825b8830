use Rattle.std.proofs.Common.{◌≡◌, ◌++◌, ◌≤◌, length}
use Rattle.std.specs.Prelude.{◌+◌}
use Rattle.std.specs.Vec.Iter.{into_iter_items}
use Rattle.cas_world_calls.proofs.read.push_marks.Given as goal

-- those that are left are to stand behind those that stand, and there is room for them
abbrev pub invariant-loop-mark : goal.invariant-loop-mark
invariant-loop-mark l =
    (goal.iterator-loop-mark).can_next l.mark-iterator
    × (goal.iterator-loop-mark).is_finite l.mark-iterator
    × (l.book.marks ++ into_iter_items l.mark-iterator ≡ l.initial.book.marks ++ into_iter_items l.initial.mark-iterator)
    × (l.book.room + length (into_iter_items l.initial.mark-iterator) ≡ l.initial.book.room + length (into_iter_items l.mark-iterator))
    × (length (into_iter_items l.mark-iterator) ≤ l.book.room)
