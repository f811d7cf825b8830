use Rattle.std.proofs.Common.{◌≡◌, Err, ap, refl}
use Rattle.std.specs.Prelude.{max}
use Rattle.cas_vault.specs.Vault.{counter_of}
use mathlib.Core.Logic.{inl, inr}
use Rattle.cas_model.specs.Calls.Desks.{Renews, FailsToRenew}
use Rattle.cas_world_calls.specs.Answers.{aged_answer, crash_answer}
use Rattle.cas_world.proofs.Eras.Moving.{leaves}
use Rattle.cas_world.proofs.Collection.Renewing.{grows_older, fails_to_grow}
use Rattle.cas_world.proofs.renewal.grow_older.Goals as goal
use Rattle.cas_model.specs.View.{disk_meaning}

pub returns-in-Ok-clause-ok : goal.returns-in-Ok-clause-ok
returns-in-Ok-clause-ok g c =
    let counter : counter_of c.renew.new.self.vault ≡ max (counter_of c.args.desk.now.vault) c.args.tomb.counter = elim c.in-Ok.ensures.counter [ inl spent ↦ absurd (cc spent) | inr moved ↦ moved ] in
    leaves (Renews (disk_meaning g.V.Disk) c.args.key.now c.args.tomb c.in-Ok.age) (λ proposed. aged_answer proposed c.in-Ok.age) c.args.proposer c.args.desk.now c.renew.new.self c.args.caller.now c.leave.new.caller c.args.flow.now c.leave.new.flow
    c.has_round-closes.result c.has_proposed-proposed.result c.aged_answer.result c.args.desk.now.round refl c.has_round-closes.ensures c.requires.open c.has_proposed-proposed.ensures c.aged_answer.ensures
    (grows_older g.V.Disk.tells g.V.Disk.may_leave g.V.Disk.fault_count g.V.Disk.seen c.args.key.now c.args.tomb c.in-Ok.age c.args.desk.now c.renew.new.self c.requires.up c.in-Ok.ensures.desk c.in-Ok.ensures.age counter c.in-Ok.ensures.kept c.in-Ok.ensures.stands c.in-Ok.ensures.past c.in-Ok.ensures.still_past c.in-Ok.ensures.cause.never_falls)
    c.leave.ensures.flow c.leave.ensures.closed c.leave.ensures.stays

pub returns-in-Err-VaultFault-clause-fault : goal.returns-in-Err-VaultFault-clause-fault
returns-in-Err-VaultFault-clause-fault g c is =
    let failed = ap (λ e. Err e) c.in-Err-VaultFault.field-0-is in
    let told = c.in-Err-VaultFault.ensures in
    let counter : counter_of c.renew.new.self.vault ≡ max (counter_of c.args.desk.now.vault) c.args.tomb.counter = elim told.counter [ inl spent ↦ absurd (cc (spent, failed)) | inr moved ↦ moved ] in
    leaves (FailsToRenew (disk_meaning g.V.Disk) c.args.tomb) crash_answer c.args.proposer c.args.desk.now c.renew.new.self c.args.caller.now c.leave-in-Err-VaultFault.new.caller c.args.flow.now c.leave-in-Err-VaultFault.new.flow
    c.has_round-closes.result c.has_proposed-proposed.result c.crash_answer.result c.args.desk.now.round refl c.has_round-closes.ensures c.requires.open c.has_proposed-proposed.ensures c.crash_answer.ensures
    (fails_to_grow g.V.Disk.tells g.V.Disk.may_leave g.V.Disk.fault_count g.V.Disk.moment g.V.Disk.left_since _ c.args.tomb c.args.desk.now c.renew.new.self c.requires.up (told.fault failed) counter told.same_kept
    (λ tells t c_ later may. g.met.V.Disk.counts_now _ t c_ tells later may) told.any_moment told.still_past (told.cause.failed failed) told.cause.never_falls)
    c.leave-in-Err-VaultFault.ensures.flow c.leave-in-Err-VaultFault.ensures.closed c.leave-in-Err-VaultFault.ensures.stays
