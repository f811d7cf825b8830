use Rattle.std.proofs.Common.{◌+◌, ◌≤◌}
use Rattle.cas_world.specs.Openings.Opening.{AreStartedBelow}
use Rattle.cas_world.proofs.open.start_members.Given as goal
use Rattle.cas_model.specs.View.{shelf_meaning}

-- the members below the next one have started
abbrev pub invariant-loop-number : goal.invariant-loop-number
invariant-loop-number g l = record {
  started : AreStartedBelow (shelf_meaning g.S.Shelf) g.S.Shelf.fault_count l.fn.acceptors.items l.number l.acceptors.items;
  to : l.number ≤ l.count + 1;
}
