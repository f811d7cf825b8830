use Rattle.test_storage.proofs.disk_shelf.fill.Given as goal

abbrev pub invariant-loop-n : goal.invariant-loop-n
invariant-loop-n g l = g.S.Shelf.is_up l.shelf
