use Rattle.std.proofs.Common.{◌∙◌, arith}
use Rattle.cas_reopen.proofs.Restoring.{if_ok, if_err, up_then, restored_then, stops_then, why_then, refused_then}
use Rattle.cas_reopen.specs.Shelves.StopsWithinGiving.{before_giving}
use Rattle.cas_reopen.proofs.shelves.restore_shelves.Goals as goal

pub returns-in-Err-clause-err : goal.returns-in-Err-clause-err
returns-in-Err-clause-err g c =
    let refused = c.in-Err.ensures {u = tt} in
    rw c.fault_of.ensures (refused_then g.S.Shelf.tells g.S.Shelf.contents g.S.Shelf.may_leave g.S.Shelf.fault_count c.args.members c.args.shelves.now.items
    c.take_up_members.new.shelves.items c.in-Err.fault refused.leaves.places refused.err)

pub returns-in-Err-clause-stops : goal.returns-in-Err-clause-stops
returns-in-Err-clause-stops g c = λ told. before_giving (λ id was now l member at at_now may. (c.take_up_members.ensures.leaves.each id was now member at at_now).left told l may)

pub settle-requires-clause-up : goal.settle-requires-clause-up
settle-requires-clause-up g c = up_then g.S.Shelf.tells g.S.Shelf.is_up g.S.Shelf.contents g.S.Shelf.may_leave g.S.Shelf.fault_count c.args.members c.args.shelves.now.items
    c.take_up_members.new.shelves.items
    c.take_up_members.ensures.leaves (c.in_default.ensures {u = tt}).ok

pub returns-clause-ok : goal.returns-clause-ok
returns-clause-ok g c = if_ok _ _ c.settle.result (λ restored. restored_then g.S.Shelf.tells g.S.Shelf.is_up g.S.Shelf.contents g.S.Shelf.may_leave g.S.Shelf.fault_count c.args.members
    c.args.shelves.now.items c.take_up_members.new.shelves.items
    c.take_up_members.ensures.leaves (c.in_default.ensures {u = tt}).ok _ _ _) c.settle.ensures.ok

pub returns-clause-err : goal.returns-clause-err
returns-clause-err g c = if_err _ _ c.settle.result (λ fault. why_then g.S.Shelf.tells g.S.Shelf.is_up g.S.Shelf.contents g.S.Shelf.may_leave g.S.Shelf.fault_count c.args.members
    c.args.shelves.now.items c.take_up_members.new.shelves.items
    c.take_up_members.ensures.leaves (c.in_default.ensures {u = tt}).ok _ fault (omega (arith, c.settle.ensures.places, c.settle.new.shelves.ok.0, c.take_up_members.new.shelves.ok.0)))
    c.settle.ensures.err

pub returns-clause-stops : goal.returns-clause-stops
returns-clause-stops g c = λ told. stops_then g.S.Shelf.tells g.S.Shelf.is_up g.S.Shelf.contents g.S.Shelf.may_leave g.S.Shelf.fault_count c.args.members c.args.shelves.now.items
    c.take_up_members.new.shelves.items
    c.take_up_members.ensures.leaves (c.in_default.ensures {u = tt}).ok _ told (c.settle.ensures.stops told)

pub returns-in-Err-clause-others : goal.returns-in-Err-clause-others
returns-in-Err-clause-others g c = c.take_up_members.ensures.leaves.others

pub returns-clause-others : goal.returns-clause-others
returns-clause-others g c = λ id other. c.settle.ensures.others id other ∙ c.take_up_members.ensures.leaves.others id other
