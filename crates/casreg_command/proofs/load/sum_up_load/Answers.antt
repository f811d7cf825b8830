use Rattle.std.proofs.Common.{Err, ap}
use Rattle.casreg_command.specs.declared.status.Status.{Status}
use Rattle.casreg_command.specs.declared.status.Status.TheVariants as status
use Rattle.cas_store.proofs.Keeping.{stored}
use Rattle.casreg_command.proofs.Written.{loaded_from}
use Rattle.casreg_command.proofs.load.sum_up_load.Goals as goal

pub returns-in-Ok-clause-loaded : goal.returns-in-Ok-clause-loaded
returns-in-Ok-clause-loaded g c =
    loaded_from (stored g.D.Disk) g.D.Disk.tells c.args.load _ _ c.args.store.world c.write_summary-written.new.world c.close-record.result.0.marks status.Ok c.close-record.result.1
    c.in-Ok.ensures.all c.close-record.ensures.marks c.close-record.ensures.legal
    c.close-record.ensures.kept c.close-record.ensures.held c.close-record.ensures.acceptors c.close-record.ensures.vaults

pub returns-in-Err-clause-loaded : goal.returns-in-Err-clause-loaded
returns-in-Err-clause-loaded g c =
    loaded_from (stored g.D.Disk) g.D.Disk.tells c.args.load _ _ c.args.store.world c.write_summary-written.new.world c.close-record.result.0.marks c.in-Err.status c.close-record.result.1
    c.in-Err.ensures.wrote c.close-record.ensures.marks c.close-record.ensures.legal
    c.close-record.ensures.kept c.close-record.ensures.held c.close-record.ensures.acceptors c.close-record.ensures.vaults

pub returns-in-Err-clause-write_fault : goal.returns-in-Err-clause-write_fault
returns-in-Err-clause-write_fault g c is = c.in-Err.ensures.write_fault (ap (λ (s : Status). Err s) is)
