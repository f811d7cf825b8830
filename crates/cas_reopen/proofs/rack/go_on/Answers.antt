use Rattle.std.proofs.Common.{◌≡◌, ◌∙◌, ℕ, List, length, ap, sym}
use Rattle.std.proofs.lemmas.List.{length-map}
use Rattle.cas_disk_shelf.specs.Shelf.{disk_of, ShelfIsUp}
use Rattle.cas_store.specs.Rack.{rack_meaning}
use Rattle.cas_store.proofs.Keeping.{stored}
use Rattle.cas_reopen.proofs.Going.{goes_on_from, not_opened, others_on, stops_on}
use Rattle.cas_reopen.proofs.rack.go_on.Goals as goal

pub returns-in-Ok-open_on_shelves-clause-ok : goal.returns-in-Ok-open_on_shelves-clause-ok
returns-in-Ok-open_on_shelves-clause-ok g c =
    rw c.over.ensures
    (goes_on_from (stored g.D.Disk) (rack_meaning g.D.Disk) (λ shelf. ShelfIsUp g.D.Disk.tells g.D.Disk.seen g.D.Disk.may_leave shelf) c.args.members c.args.used c.args.config.proposers c.args.is_new
    c.put_on_shelves.new.shelves.items c.args.rack c.in-Ok-open_on_shelves.world (λ told. told) (λ shelf left may. may) c.put_on_shelves.ensures.shelves
    (sym c.args.rack.acceptors.ok.0 ∙ c.requires.acceptors) (c.in-Ok-open_on_shelves.ensures {u = tt}).ok)

pub returns-in-Err-open_on_shelves-clause-err : goal.returns-in-Err-open_on_shelves-clause-err
returns-in-Err-open_on_shelves-clause-err g c =
    let back = c.in-Err-open_on_shelves.ensures {u = tt} in
    not_opened g.D.Disk c.args.members c.count-count.ensures.set c.args.config.proposers c.put_on_shelves.new.shelves.items c.in-Err-open_on_shelves.shelves.items c.args.rack
    (record { acceptors = c.take_off_shelves.new.disks; vaults = c.in-Err-open_on_shelves.vaults }) c.put_on_shelves.ensures.shelves c.take_off_shelves.ensures.disks
    (sym c.args.rack.acceptors.ok.0 ∙ c.requires.acceptors)
    (ap (λ (l : List _). length l) c.take_off_shelves.ensures.disks ∙ length-map c.in-Err-open_on_shelves.shelves.items disk_of ∙ sym c.in-Err-open_on_shelves.shelves.ok.0 ∙ back.back.0)
    c.in-Err-open_on_shelves.fault back.err

pub returns-in-Err-open_on_shelves-clause-stops : goal.returns-in-Err-open_on_shelves-clause-stops
returns-in-Err-open_on_shelves-clause-stops g c = λ goes told.
    stops_on g.D.Disk.may_leave c.args.members c.put_on_shelves.new.shelves.items c.args.rack.acceptors.items c.put_on_shelves.ensures.shelves c.in-Err-open_on_shelves.shelves.items
    c.take_off_shelves.new.disks.items c.take_off_shelves.ensures.disks ((c.in-Err-open_on_shelves.ensures {u = tt}).stops goes told)

pub returns-in-Err-open_on_shelves-clause-others : goal.returns-in-Err-open_on_shelves-clause-others
returns-in-Err-open_on_shelves-clause-others g c =
    others_on g.D.Disk.may_leave c.args.members c.put_on_shelves.new.shelves.items c.args.rack.acceptors.items c.put_on_shelves.ensures.shelves c.in-Err-open_on_shelves.shelves.items
    c.take_off_shelves.new.disks.items c.take_off_shelves.ensures.disks (c.in-Err-open_on_shelves.ensures {u = tt}).others
