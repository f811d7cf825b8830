use Rattle.std.proofs.Common.{◌∙◌, sym}
use Rattle.cas_store.specs.Rack.{rack_meaning}
use Rattle.cas_world.specs.Openings.Opening.{members_to}
use Rattle.cas_reopen.proofs.Begun.{others_closed, why_closed}
use Rattle.cas_reopen.proofs.rack.open_new.Goals as goal

pub returns-in-Err-clause-err : goal.returns-in-Err-clause-err
returns-in-Err-clause-err g c =
    let closed = c.in-Err.ensures {u = tt} in
    rw c.fault_of_opening.ensures (why_closed (rack_meaning g.D.Disk) (members_to c.args.config.acceptors) c.args.rack c.in-Err.rack c.args.config.acceptors c.args.config.proposers c.in-Err.fault
    (sym c.args.rack.acceptors.ok.0 ∙ c.requires.acceptors) (sym c.in-Err.rack.acceptors.ok.0 ∙ closed.back.0) closed.fault)

pub returns-in-Err-clause-others : goal.returns-in-Err-clause-others
returns-in-Err-clause-others g c =
    others_closed g.D.Disk.fault_count c.args.config.acceptors c.args.config.proposers c.args.rack.acceptors.items c.args.rack.vaults.items c.in-Err.fault c.in-Err.rack.acceptors.items
    c.in-Err.rack.vaults.items
    (c.in-Err.ensures {u = tt}).fault
