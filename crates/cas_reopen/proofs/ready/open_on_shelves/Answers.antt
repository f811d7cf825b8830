use Rattle.std.proofs.Common.{List, sym, subst}
use Rattle.cas_model.specs.View.{disk_meaning}
use Rattle.cas_reopen.specs.Ready.IsNotOpenOnShelves.{not_taken_up}
use Rattle.cas_reopen.specs.Shelves.{StopsWithinGiving}
use Rattle.cas_reopen.proofs.Going.{same_back}
use Rattle.cas_reopen.proofs.ready.open_on_shelves.Goals as goal

pub returns-in-Err-open_on-clause-err : goal.returns-in-Err-open_on-clause-err
returns-in-Err-open_on-clause-err g c =
    not_taken_up c.in-Ok.restored.past c.make_ready.new.shelves.items c.in-Err-open_on.fault c.fault_of_opening.ensures (c.in-Err-open_on.ensures {u = tt}).fault

pub returns-in-Err-open_on-clause-stops : goal.returns-in-Err-open_on-clause-stops
returns-in-Err-open_on-clause-stops g c = λ goes told.
    subst (λ (l : List _). StopsWithinGiving g.S.Shelf.may_leave c.args.members c.args.shelves.items l)
    (sym (same_back (disk_meaning g.V.Disk) g.V.Disk.seen g.V.Disk.fault_count c.in-Ok.restored.past c.args.config.proposers c.make_ready.new.shelves.items
    c.in-Err-open_on.shelves.items c.args.vaults.items
    c.in-Err-open_on.vaults.items c.in-Err-open_on.fault (c.in-Err-open_on.ensures {u = tt}).fault))
    (c.make_ready.ensures.stops goes told)
