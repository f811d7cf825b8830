use Rattle.test_storage.proofs.disk_shelf.turn_over.Given as goal

abbrev pub invariant-loop-round : goal.invariant-loop-round
invariant-loop-round g l = g.S.Shelf.is_up l.shelf
