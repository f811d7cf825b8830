use Rattle.std.proofs.Common.{ap, subst, sym}
use Rattle.cas_record.specs.declared.operator.Asked.TheVariants as ask
use Rattle.cas_board_steps.specs.Eras.Membership.{IsRescanMark}
use Rattle.cas_board_steps.specs.Calls.Open.{rescanned_in}
use Rattle.casreg_tasks.specs.declared.tasks.Task.{Task}
use Rattle.casreg_race.specs.declared.told.Told.TheVariants as said
use Rattle.casreg_race.specs.Runs.{asked_by, IsCountedOn, IsMeantFor}
use Rattle.casreg_race.proofs.Racing.{change_ran, members_count, order_ran, found_in, read_ran}
use Rattle.casreg_race.proofs.racers.run_task.Goals as goal

pub returns-in-Change-clause-ran : goal.returns-in-Change-clause-ran
returns-in-Change-clause-ran g c = change_ran _ _ _ _ c.args.pass.now c.change.new.pass c.args.task.now c.in-Change.key c.in-Change.program c.change.result c.in-Change.is c.change.ensures.own c.change.ensures.answers

pub returns-in-Join-clause-ran : goal.returns-in-Join-clause-ran
returns-in-Join-clause-ran g c = order_ran _ c.args.tries _ _ c.args.pass.now c.join_member.new.pass c.args.task.now (ask.Join c.in-Join.id) c.join_member.result (ap asked_by c.in-Join.is) (λ own goes. c.join_member.ensures.answer)
    (λ own goes. subst (λ (t : Task). IsCountedOn (rescanned_in c.args.pass.now.own) t (said.Operator c.join_member.result) own (rescanned_in c.join_member.new.pass.own)) (sym c.in-Join.is) (members_count g.D.Disk.tells c.args.tries _ _ c.args.pass.now c.join_member.new.pass (ask.Join c.in-Join.id) (IsRescanMark c.args.tries) c.join_member.result own (λ p e. tt) c.join_member.ensures.operates goes))
    c.join_member.ensures.operates

pub returns-in-Leave-clause-ran : goal.returns-in-Leave-clause-ran
returns-in-Leave-clause-ran g c = order_ran _ c.args.tries _ _ c.args.pass.now c.leave_member.new.pass c.args.task.now (ask.Leave c.in-Leave.id) c.leave_member.result (ap asked_by c.in-Leave.is) (λ own goes. c.leave_member.ensures.answer)
    (λ own goes. subst (λ (t : Task). IsCountedOn (rescanned_in c.args.pass.now.own) t (said.Operator c.leave_member.result) own (rescanned_in c.leave_member.new.pass.own)) (sym c.in-Leave.is) (members_count g.D.Disk.tells c.args.tries _ _ c.args.pass.now c.leave_member.new.pass (ask.Leave c.in-Leave.id) (IsRescanMark c.args.tries) c.leave_member.result own (λ p e. tt) c.leave_member.ensures.operates goes))
    c.leave_member.ensures.operates

pub returns-in-Resize-clause-ran : goal.returns-in-Resize-clause-ran
returns-in-Resize-clause-ran g c = order_ran _ c.args.tries _ _ c.args.pass.now c.resize.new.pass c.args.task.now (ask.Resize c.in-Resize.need_prep c.in-Resize.need_acc) c.resize.result (ap asked_by c.in-Resize.is) (λ own goes. c.resize.ensures.answer)
    (λ own goes. subst (λ (t : Task). IsCountedOn (rescanned_in c.args.pass.now.own) t (said.Operator c.resize.result) own (rescanned_in c.resize.new.pass.own)) (sym c.in-Resize.is) (members_count g.D.Disk.tells c.args.tries _ _ c.args.pass.now c.resize.new.pass (ask.Resize c.in-Resize.need_prep c.in-Resize.need_acc) (IsRescanMark c.args.tries) c.resize.result own (λ p e. tt) c.resize.ensures.operates goes))
    c.resize.ensures.operates

pub returns-in-Collect-clause-ran : goal.returns-in-Collect-clause-ran
returns-in-Collect-clause-ran g c = order_ran _ c.args.tries _ _ c.args.pass.now c.collect.new.pass c.args.task.now (ask.Collect c.in-Collect.key) c.collect.result (ap asked_by c.in-Collect.is) (λ own goes. c.collect.ensures.answer)
    (λ own goes. subst (λ (t : Task). IsCountedOn (rescanned_in c.args.pass.now.own) t (said.Operator c.collect.result) own (rescanned_in c.collect.new.pass.own)) (sym c.in-Collect.is) c.collect.ensures.counted)
    c.collect.ensures.operates

pub returns-in-Probe-clause-ran : goal.returns-in-Probe-clause-ran
returns-in-Probe-clause-ran g c = order_ran g.D.Disk.tells c.args.tries _ _ c.args.pass.now c.probe.new.pass c.args.task.now (ask.Probe c.in-Probe.key) c.probe.result (ap asked_by c.in-Probe.is) (λ own goes. (c.probe.ensures.answer, found_in g.D.Disk.tells c.args.pass.now c.probe.new.pass c.probe.result own (subst (λ (t : Task). IsMeantFor c.args.pass.now.number t) c.in-Probe.is c.requires.meant) goes c.probe.ensures.silent c.probe.ensures.truly))
    (λ own goes. subst (λ (t : Task). IsCountedOn (rescanned_in c.args.pass.now.own) t (said.Operator c.probe.result) own (rescanned_in c.probe.new.pass.own)) (sym c.in-Probe.is) c.probe.ensures.counted)
    c.probe.ensures.operates

pub returns-in-Read-clause-ran : goal.returns-in-Read-clause-ran
returns-in-Read-clause-ran g c = read_ran g.D.Disk.tells c.args.tries _ _ c.args.pass.now c.read.new.pass c.in-Read.key c.read.result c.read.ensures.reads (subst (λ (t : Task). IsMeantFor c.args.pass.now.number t) c.in-Read.is c.requires.meant) c.read.ensures.truly c.read.ensures.counted c.args.task.now c.in-Read.is
