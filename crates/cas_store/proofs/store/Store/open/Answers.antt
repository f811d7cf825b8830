use Rattle.std.proofs.Common.{◌+◌, arith}
use Rattle.cas_store.proofs.Standing.{members_up, started_on, stays_closed}
use Rattle.cas_store.proofs.store.Store.open.Goals as goal

pub returns-in-Ok-open-clause-acceptors : goal.returns-in-Ok-open-clause-acceptors
returns-in-Ok-open-clause-acceptors g c =
    started_on _ g.D.Disk.fault_count c.put_on_shelves.new.shelves.items c.args.rack.acceptors.items c.put_on_shelves.ensures.shelves (c.args.config.acceptors + 1) c.in-Ok-open.world.acceptors (c.in-Ok-open.ensures {u = tt}).shelves

pub returns-in-Ok-open-clause-up : goal.returns-in-Ok-open-clause-up
returns-in-Ok-open-clause-up g c = members_up _ _ _ c.args.config.acceptors c.in-Ok-open.world.acceptors (c.in-Ok-open.ensures {u = tt}).shelves

pub returns-in-Err-open-clause-fault : goal.returns-in-Err-open-clause-fault
returns-in-Err-open-clause-fault g c =
    stays_closed _ g.D.Disk.fault_count c.args.config.acceptors c.args.config.proposers c.put_on_shelves.new.shelves.items c.args.rack.acceptors.items c.args.rack.vaults.items c.in-Err-open.fault c.in-Err-open.shelves.items c.take_off_shelves.new.disks.items c.in-Err-open.vaults.items
    c.put_on_shelves.ensures.shelves c.take_off_shelves.ensures.disks (omega (arith, c.args.rack.acceptors.ok.0, c.requires.acceptors, c.requires.few))
    (omega (arith, c.in-Err-open.vaults.ok.0, (c.in-Err-open.ensures {u = tt}).back.1, c.args.rack.vaults.ok.0, c.requires.vaults))
    (c.in-Err-open.ensures {u = tt}).fault
