use Rattle.cas_restore.specs.Members.{MembersBecome}
use Rattle.cas_restore.specs.TakingUp.{IsShelfTakenUp, LeavesNoMore}
use Rattle.cas_restore.proofs.Placing.{BecameBelow}
use Rattle.cas_restore.proofs.taking_up.take_up_members.Given as goal

abbrev pub invariant-loop-number : goal.invariant-loop-number
invariant-loop-number g l = record {
  leaves : MembersBecome l.members (LeavesNoMore g.S.Shelf.tells g.S.Shelf.may_leave g.S.Shelf.fault_count) l.fn.shelves.items l.shelves.items;
  taken : BecameBelow (IsShelfTakenUp g.S.Shelf.tells g.S.Shelf.contents g.S.Shelf.is_up g.S.Shelf.may_leave) l.members l.fn.shelves.items l.number l.shelves.items;
}
