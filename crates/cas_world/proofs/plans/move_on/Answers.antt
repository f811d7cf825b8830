use Rattle.std.proofs.Common.{Err, ap, refl}
use Rattle.cas_model.specs.Calls.Desks.{EntersEra, FailsToEnter}
use Rattle.cas_world_calls.specs.Answers.{crash_answer, moved_answer}
use Rattle.cas_world.proofs.Eras.Moving.{enters_era, fails_to_enter, leaves}
use Rattle.cas_world.proofs.plans.move_on.Goals as goal
use Rattle.cas_model.specs.View.{disk_meaning}

pub returns-in-Ok-clause-ok : goal.returns-in-Ok-clause-ok
returns-in-Ok-clause-ok g c =
    leaves (EntersEra (disk_meaning g.V.Disk) c.args.next.now) (λ proposed. moved_answer proposed c.args.next.now.number) c.args.proposer c.args.desk.now c.move_to.new.self c.args.caller.now c.leave.new.caller c.args.flow.now c.leave.new.flow
    c.has_round-closes.result c.has_proposed-proposed.result c.moved_answer.result c.args.desk.now.round refl c.has_round-closes.ensures c.requires.open c.has_proposed-proposed.ensures c.moved_answer.ensures
    (enters_era g.V.Disk.tells g.V.Disk.may_leave g.V.Disk.fault_count g.V.Disk.seen c.args.next.now c.args.desk.now c.move_to.new.self c.requires.up c.in-Ok.ensures.desk c.in-Ok.ensures.counter c.in-Ok.ensures.kept c.in-Ok.ensures.stands c.in-Ok.ensures.still_past c.in-Ok.ensures.cause.never_falls)
    c.leave.ensures.flow c.leave.ensures.closed c.leave.ensures.stays

pub returns-in-Err-VaultFault-clause-fault : goal.returns-in-Err-VaultFault-clause-fault
returns-in-Err-VaultFault-clause-fault g c is =
    let failed = ap (λ e. Err e) c.in-Err-VaultFault.field-0-is in
    let told = c.in-Err-VaultFault.ensures in
    leaves (FailsToEnter (disk_meaning g.V.Disk) c.args.next.now) crash_answer c.args.proposer c.args.desk.now c.move_to.new.self c.args.caller.now c.leave-in-Err-VaultFault.new.caller c.args.flow.now c.leave-in-Err-VaultFault.new.flow
    c.has_round-closes.result c.has_proposed-proposed.result c.crash_answer.result c.args.desk.now.round refl c.has_round-closes.ensures c.requires.open c.has_proposed-proposed.ensures c.crash_answer.ensures
    (fails_to_enter g.V.Disk.tells g.V.Disk.may_leave g.V.Disk.fault_count g.V.Disk.moment g.V.Disk.left_since c.args.next.now c.args.desk.now c.move_to.new.self c.requires.up (told.fault failed) told.counter told.same_kept
    (λ tells t c_ later may. g.met.V.Disk.counts_now _ t c_ tells later may) told.any_moment told.still_past (told.cause.failed failed))
    c.leave-in-Err-VaultFault.ensures.flow c.leave-in-Err-VaultFault.ensures.closed c.leave-in-Err-VaultFault.ensures.stays
