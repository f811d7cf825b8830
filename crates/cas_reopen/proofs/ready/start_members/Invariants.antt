use Rattle.cas_restore.specs.Members.{MembersBecome}
use Rattle.cas_restore.proofs.Placing.{BecameBelow}
use Rattle.cas_reopen.specs.Starting.{HasBegun, CountsFaults}
use Rattle.cas_reopen.proofs.ready.start_members.Given as goal

abbrev pub invariant-loop-number : goal.invariant-loop-number
invariant-loop-number g l = record {
  counts : MembersBecome l.members (CountsFaults g.S.Shelf.fault_count) l.fn.shelves.items l.shelves.items;
  begun : BecameBelow (HasBegun g.S.Shelf.contents g.S.Shelf.is_up) l.members l.fn.shelves.items l.number l.shelves.items;
}
