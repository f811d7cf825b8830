use Rattle.std.proofs.Common.{◌≡◌, false, [], None, Option, Ok, Err, Result, refl, sym, ap, subst}
use Rattle.std.specs.Prelude.{IfErr, OnErr, option_copied}
use Rattle.cas_ballot.specs.declared.ballot.Ballot.{Ballot}
use Rattle.cas_base.proofs.Bools.{false_of_not}
use Rattle.cas_model.specs.Council.{ListingView}
use Rattle.cas_proposer.specs.Desk.{ShowsTheSame}
use Rattle.cas_vault.specs.declared.error.VaultError.{VaultError}
use Rattle.cas_vault.specs.declared.error.VaultError.TheVariants as error
use Rattle.cas_world.specs.Exchanges.Exchange.{FailsToTag}
use Rattle.cas_world.proofs.Calls.Beginning.{kept_by, lost_idle, failed_tag}
use Rattle.cas_world.proofs.exchange.tag_for.Given.{Over}
use Rattle.cas_world.proofs.exchange.tag_for.Goals as goal
use Rattle.cas_model.specs.View.{disk_meaning}

-- the desk is still up after another error, and shows what it showed
stays : (g : Over) (c : goal.After-tag-in-None g) (e : VaultError) → c.tag-in-None.result ≡ Err e → (e ≡ error.VaultFault → ⊥)
    → (c.tag-in-None.new.self ≡ record c.args.desk.now { vault = c.tag-in-None.new.self.vault }) × ShowsTheSame c.args.desk.now.vault c.tag-in-None.new.self.vault
stays g c e is other =
    let told = c.tag-in-None.ensures in
    let up : c.tag-in-None.new.self.down ≡ false = false_of_not c.tag-in-None.new.self.down (λ down. other (cc (told.down.1 down, is))) in
    subst (λ (r : Result Ballot VaultError). OnErr r (c.tag-in-None.new.self.down ≡ false → (c.tag-in-None.new.self ≡ record c.args.desk.now { vault = c.tag-in-None.new.self.vault }) × ShowsTheSame c.args.desk.now.vault c.tag-in-None.new.self.vault)) is told.refused up

-- no ballot was drawn
untagged : (g : Over) (c : goal.After-tag-in-None g) (result : Result Ballot VaultError) → c.tag-in-None.result ≡ result → IfErr result (FailsToTag (disk_meaning g.V.Disk) None c.args.desk.now c.tag-in-None.new.self)
untagged g c (Ok tag) is = tt
untagged g c (Err error.VaultFault) is =
    let told = c.tag-in-None.ensures in
    failed_tag g.V.Disk.tells g.V.Disk.may_leave g.V.Disk.fault_count g.V.Disk.seen g.V.Disk.moment g.V.Disk.left_since g.met.V.Disk.counts_now c.args.desk.now c.tag-in-None.new.self c.requires.idle (told.fault is) told.still_past told.any_moment told.cause.never_falls (told.cause.failed is)
untagged g c (Err error.Spent) is =
    let told = c.tag-in-None.ensures in
    let still = stays g c error.Spent is (λ e. cc e) in (
      told.spent.0 is,
      kept_by g.V.Disk.tells g.V.Disk.may_leave g.V.Disk.fault_count g.V.Disk.seen g.V.Disk.moment g.V.Disk.left_since g.met.V.Disk.counts_now c.args.desk.now c.tag-in-None.new.self still.1 told.still_past told.any_moment told.cause.never_falls,
      still.0,
    )
untagged g c (Err error.NoMemory) is =
    let told = c.tag-in-None.ensures in
    let still = stays g c error.NoMemory is (λ e. cc e) in
    lost_idle g.V.Disk.tells g.V.Disk.may_leave g.V.Disk.fault_count [] c.args.desk.now c.tag-in-None.new.self c.requires.idle
    (kept_by g.V.Disk.tells g.V.Disk.may_leave g.V.Disk.fault_count g.V.Disk.seen g.V.Disk.moment g.V.Disk.left_since g.met.V.Disk.counts_now c.args.desk.now c.tag-in-None.new.self still.1 told.still_past told.any_moment told.cause.never_falls) still.0
untagged g c (Err (error.Foreign at)) is = c.tag-in-None.ensures.not_foreign at is

pub returns-in-None-clause-failed : goal.returns-in-None-clause-failed
returns-in-None-clause-failed g c =
    subst (λ (o : Option ListingView). IfErr c.tag-in-None.result (FailsToTag (disk_meaning g.V.Disk) o c.args.desk.now c.tag-in-None.new.self)) (sym (ap option_copied c.in-None.is)) (untagged g c c.tag-in-None.result refl)
