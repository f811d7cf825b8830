use Rattle.std.specs.Vec.Iter.{into_iter_items}
use Rattle.cas_world_calls.proofs.Sending.{IsSending}
use Rattle.cas_world_calls.proofs.send.push_all.Given as goal

abbrev pub invariant-loop-frame : goal.invariant-loop-frame
invariant-loop-frame l =
    (goal.iterator-loop-frame).can_next l.frame-iterator
    × (goal.iterator-loop-frame).is_finite l.frame-iterator
    × IsSending l.initial.flow l.queue (into_iter_items l.initial.frame-iterator) l.flow (into_iter_items l.frame-iterator)
