use Rattle.std.proofs.Common.{Err, ap}
use Rattle.casreg_script.specs.Script.{opening_state}
use Rattle.casreg_command.specs.declared.status.Status.{Status}
use Rattle.casreg_command.specs.declared.status.Status.TheVariants as status
use Rattle.cas_store.proofs.Keeping.{stored}
use Rattle.casreg_command.proofs.Written.{leaving_from, ends_whole}
use Rattle.casreg_command.proofs.cluster.answer_script.Goals as goal

pub returns-in-Ok-clause-ran : goal.returns-in-Ok-clause-ran
returns-in-Ok-clause-ran g c =
    leaving_from (stored g.D.Disk) g.D.Disk.tells c.args.options.tries c.new-script.result.tries _ _ _ _ c.args.store.world c.into_world.result c.answer_lines-answered.new.script c.close-record.result.0.marks status.Ok c.close-record.result.1 c.new-script.ensures.tries c.into_world.ensures
    (c.in-Ok.ensures.all (opening_state c.args.store.world) c.new-script.ensures.state) c.close-record.ensures.marks c.close-record.ensures.legal
    c.close-record.ensures.kept c.close-record.ensures.held c.close-record.ensures.acceptors c.close-record.ensures.vaults

pub returns-in-Ok-clause-ends : goal.returns-in-Ok-clause-ends
returns-in-Ok-clause-ends g c = ends_whole _ c.in-Ok.ensures.whole

pub returns-in-Err-clause-ran : goal.returns-in-Err-clause-ran
returns-in-Err-clause-ran g c =
    leaving_from (stored g.D.Disk) g.D.Disk.tells c.args.options.tries c.new-script.result.tries _ _ _ _ c.args.store.world c.into_world.result c.answer_lines-answered.new.script c.close-record.result.0.marks c.in-Err.status c.close-record.result.1 c.new-script.ensures.tries c.into_world.ensures
    (c.in-Err.ensures.wrote (opening_state c.args.store.world) c.new-script.ensures.state) c.close-record.ensures.marks c.close-record.ensures.legal
    c.close-record.ensures.kept c.close-record.ensures.held c.close-record.ensures.acceptors c.close-record.ensures.vaults

pub returns-in-Err-clause-read_fault : goal.returns-in-Err-clause-read_fault
returns-in-Err-clause-read_fault g c is = c.in-Err.ensures.read_fault (ap (λ (s : Status). Err s) is)

pub returns-in-Err-clause-write_fault : goal.returns-in-Err-clause-write_fault
returns-in-Err-clause-write_fault g c is = c.in-Err.ensures.write_fault (ap (λ (s : Status). Err s) is)

pub returns-in-Err-clause-ends : goal.returns-in-Err-clause-ends
returns-in-Err-clause-ends g c ending is = c.in-Err.ensures.ends ending (ap (λ (s : Status). Err s) is)
