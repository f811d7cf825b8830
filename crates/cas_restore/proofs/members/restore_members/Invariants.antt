use Rattle.cas_restore.specs.Restored.{slots_of, HoldsJust}
use Rattle.cas_restore.specs.Members.{MembersBecome, GoesTowards}
use Rattle.cas_restore.proofs.Placing.{BecameBelow}
use Rattle.cas_restore.proofs.members.restore_members.Given as goal

abbrev pub invariant-loop-number : goal.invariant-loop-number
invariant-loop-number g l = record {
  moved : MembersBecome l.members (GoesTowards g.S.Shelf.tells g.S.Shelf.contents g.S.Shelf.may_leave g.S.Shelf.fault_count (slots_of l.slots)) l.fn.shelves.items l.shelves.items;
  hold : BecameBelow (HoldsJust g.S.Shelf.contents g.S.Shelf.is_up (slots_of l.slots)) l.members l.fn.shelves.items l.number l.shelves.items;
}
