use Rattle.std.proofs.Common.{◌≡◌, ◌≤◌, drop}
use Rattle.std.specs.FinMap as map
use Rattle.cas_restore.specs.Restored.{slots_of, MovesTowards}
use Rattle.cas_restore.proofs.Dropping.{OthersAreAmong}
use Rattle.cas_restore.proofs.shelf.drop_others.Given as goal

-- each other key that is still kept is among those that are left
abbrev pub invariant-loop-key : goal.invariant-loop-key
invariant-loop-key g l = record {
  up : g.S.Shelf.is_up l.shelf;
  all : l.key-items ≡ map.keys (g.S.Shelf.contents l.fn.shelf).slots;
  among : OthersAreAmong (slots_of l.slots) (g.S.Shelf.contents l.shelf) (drop l.key-index l.key-items);
  towards : MovesTowards g.S.Shelf.tells g.S.Shelf.contents g.S.Shelf.may_leave (slots_of l.slots) l.fn.shelf l.shelf;
  untouched : (g.S.Shelf.contents l.fn.shelf).slots ≡ slots_of l.slots → l.shelf ≡ l.fn.shelf;
  never_falls : g.S.Shelf.fault_count l.fn.shelf ≤ g.S.Shelf.fault_count l.shelf;
}
