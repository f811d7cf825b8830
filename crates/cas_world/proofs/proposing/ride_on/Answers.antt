use Rattle.std.proofs.Common.{Ok, Err, refl, ap}
use Rattle.std.specs.Prelude.{None}
use Rattle.cas_vault.specs.Vault.{counter_of}
use Rattle.cas_world.proofs.Calls.Beginning.{ride_due, rides_by, fails_by, loses_by}
use Rattle.cas_world.proofs.proposing.ride_on.Goals as goal

-- src/proposal.rt:91:1
pub returns-in-Ok-clause-rides : goal.returns-in-Ok-clause-rides
returns-in-Ok-clause-rides g c round is =
    let told = c.in-Ok.ensures in
    let due = ride_due c.args.desk.now.id (counter_of c.args.desk.now.vault) c.in-Ok.ride (λ none. (told.none (ap (λ r. Ok r) none)).0) (λ over. cc (told.not_drawn over)) in
    rides_by g.V.Disk.tells g.V.Disk.may_leave g.V.Disk.fault_count g.V.Disk.seen g.V.Disk.moment g.V.Disk.left_since g.met.V.Disk.counts_now c.args.desk.now c.ride.new.self round c.in-Ok.ride due is c.requires.accepting c.requires.up c.requires.proposer
    (λ none. (told.none (ap (λ r. Ok r) none)).1)
    (λ b some. told.drawn b (ap (λ r. Ok r) some))
    (λ b some. told.rides b (ap (λ r. Ok r) some))
    (λ t b some. told.past t b (ap (λ r. Ok r) some))
    told.still_past told.any_moment told.stands told.cause.never_falls

-- src/proposal.rt:91:1
pub returns-in-Err-VaultFault-clause-refused : goal.returns-in-Err-VaultFault-clause-refused
returns-in-Err-VaultFault-clause-refused g c round is =
    let told = c.in-Err-VaultFault.ensures in
    fails_by g.V.Disk.tells g.V.Disk.may_leave g.V.Disk.fault_count g.V.Disk.seen g.V.Disk.moment g.V.Disk.left_since g.met.V.Disk.counts_now c.args.desk.now c.ride.new.self round is (told.fault (ap (λ e. Err e) c.in-Err-VaultFault.field-0-is)) told.still_past told.any_moment told.cause.never_falls (told.cause.failed (ap (λ e. Err e) c.in-Err-VaultFault.field-0-is))

-- src/proposal.rt:91:1
pub returns-in-Err-NoMemory : goal.returns-in-Err-NoMemory
returns-in-Err-NoMemory g c = record {
  rides = λ round is. tt;
  refused = λ round is. (
    refl,
    None,
    let told = c.in-Err-NoMemory.ensures in
        let stays = told.no_memory (ap (λ e. Err e) c.in-Err-NoMemory.field-0-is) in
        loses_by g.V.Disk.tells g.V.Disk.may_leave g.V.Disk.fault_count g.V.Disk.seen g.V.Disk.moment g.V.Disk.left_since g.met.V.Disk.counts_now c.args.desk.now c.ride.new.self c.end.new.self round is stays.0 stays.1 told.still_past told.any_moment
        c.end.ensures.desk c.end.ensures.counter c.end.ensures.kept c.end.ensures.disk c.end.ensures.still_past told.cause.never_falls,
  );
}
