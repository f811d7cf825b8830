use Rattle.test_values.proofs.map_shelf.follow.Given as goal

-- the shelf is up
abbrev pub invariant-loop-row : goal.invariant-loop-row
invariant-loop-row g l = g.S.Shelf.is_up l.shelf
