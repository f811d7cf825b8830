use Rattle.std.proofs.Common.{◌∙◌, refl, sym, arith}
use Rattle.cas_store.specs.Rack.{rack_meaning}
use Rattle.cas_reopen.proofs.Asked.{no_length_of_acceptor, no_length_of_vault}
use Rattle.cas_reopen.proofs.lengths.lengths_of.Goals as goal

pub returns-in-Err-clause-err : goal.returns-in-Err-clause-err
returns-in-Err-clause-err g c = rw c.fault_of_asking.ensures (no_length_of_acceptor (rack_meaning g.D.Disk) c.args.rack.now (record { acceptors = c.filled.new.disks; vaults = c.args.rack.now.vaults })
    c.in-Err.fault (c.in-Err.ensures {u = tt}).err refl)

pub returns-in-Err-filled-clause-err : goal.returns-in-Err-filled-clause-err
returns-in-Err-filled-clause-err g c = rw c.fault_of_asking-in-Err-filled.ensures
    (no_length_of_vault (rack_meaning g.D.Disk) c.args.rack.now (record { acceptors = c.filled.new.disks; vaults = c.filled-2.new.disks }) c.in-Ok.acceptors
    c.in-Err-filled.fault (sym c.args.rack.now.acceptors.ok.0 ∙ c.requires.acceptors) (c.in-Ok.ensures {u = tt}).ok (c.in-Err-filled.ensures {u = tt}).err)
