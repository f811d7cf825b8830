use Rattle.std.proofs.Common.{◌≡◌, ℕ, List, ap, sym, subst, arith}
use Rattle.cas_world.specs.Openings.OpeningOn.{openings_of}
use Rattle.cas_reopen.specs.Ready.{AreReadyFor}
use Rattle.cas_reopen.proofs.Beginning.{ready_begun, ready_restored, refused_start}
use Rattle.cas_reopen.proofs.ready.make_ready.Goals as goal

pub returns-in-Err-clause-err : goal.returns-in-Err-clause-err
returns-in-Err-clause-err g c =
    let refused = c.in-Err.ensures {u = tt} in
    rw c.fault_of.ensures (refused_start g.S.Shelf.tells g.S.Shelf.contents g.S.Shelf.may_leave g.S.Shelf.fault_count c.args.members c.args.shelves.now.items
    c.start_members.new.shelves.items c.in-Err.fault (omega (arith, refused.places, c.args.shelves.now.ok.0, c.start_members.new.shelves.ok.0)) refused.err)

pub returns-clause-ok : goal.returns-clause-ok
returns-clause-ok g c =
    rw c.new.ensures.items (ready_begun g.S.Shelf.is_up g.S.Shelf.contents c.args.members c.args.shelves.now.items c.start_members.new.shelves.items (c.in_default.ensures {u = tt}).ok)
