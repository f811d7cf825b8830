use Rattle.std.proofs.Common.{◌≡◌, ◌≤◌}
use Rattle.cas_restore.specs.Restored.{slots_of, MovesTowards}
use Rattle.cas_restore.proofs.Putting.{StandsOrFollows}
use Rattle.cas_restore.proofs.shelf.put_all.Given as goal

-- what does not stand yet is among the entries that follow
abbrev pub invariant-loop-key : goal.invariant-loop-key
invariant-loop-key g l = record {
  up : g.S.Shelf.is_up l.shelf;
  stands : StandsOrFollows (slots_of l.slots) (g.S.Shelf.contents l.shelf) l.key-iterator;
  towards : MovesTowards g.S.Shelf.tells g.S.Shelf.contents g.S.Shelf.may_leave (slots_of l.slots) l.fn.shelf l.shelf;
  untouched : (g.S.Shelf.contents l.fn.shelf).slots ≡ slots_of l.slots → l.shelf ≡ l.fn.shelf;
  never_falls : g.S.Shelf.fault_count l.fn.shelf ≤ g.S.Shelf.fault_count l.shelf;
}
