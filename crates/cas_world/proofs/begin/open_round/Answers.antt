use Rattle.std.proofs.Common.{◌≡◌, ℕ, List, false, Err, refl, sym, ap, subst, ◌∙◌}
use Rattle.std.specs.Prelude.{Some, None, IsSomeAnd}
use Rattle.cas_base.proofs.Bools.{false_of_not}
use Rattle.cas_proposer.specs.Desk.{DeskView, Draws, DrawsFor, IsOpened, promise_used}
use Rattle.cas_proposer.specs.declared.began.Began.{Began}
use Rattle.cas_proposer.specs.declared.began.Began.TheVariants as began
use Rattle.cas_change.specs.Outcome.{outcome_of}
use Rattle.cas_cache.specs.declared.ready.Ready.{Ready}
use Rattle.cas_proposer.proofs.DeskLemmas.{without_absent}
use Rattle.cas_model.specs.Calls.Desks.{HasDrawn, FailsToDraw}
use Rattle.cas_world_calls.specs.Proposing.{ProposesOn, FailsToPropose}
use Rattle.cas_world.proofs.Calls.Beginning.{drew_by, preparing_desk, gone_from, up_from, lost_at_once, accepting_desk, proposed_at_once, failed_at_once, kept_by, lost_idle, failed_idle, up_desk}
use Rattle.cas_world.proofs.Parts.{some_and}
use Rattle.cas_world.proofs.begin.open_round.Goals as goal
use Rattle.cas_model.specs.View.{disk_meaning}

pub returns-in-Ok-Prepare-clause-refused : goal.returns-in-Ok-Prepare-clause-refused
returns-in-Ok-Prepare-clause-refused g c =
    let up : c.args.desk.now.down ≡ false = sym c.is_down.ensures ∙ c.if-is_down.false in
    let told = c.in-Ok-Prepare.ensures in
    let is = c.in-Ok-Prepare.field-0-is in
    let draws : Draws c.args.desk.now.id c.args.desk.now.vault c.begin.new.self.vault c.in-Ok-Prepare.ballot = subst (λ (b : Began). DrawsFor c.args.desk.now.id c.args.desk.now.vault c.begin.new.self.vault b) is told.vault in
    let opened = some_and c.begin.new.self.round (IsOpened c.args.key.now c.args.era.now (began.Prepare c.in-Ok-Prepare.ballot)) (subst (λ (b : Began). IsSomeAnd c.begin.new.self.round (IsOpened c.args.key.now c.args.era.now b)) is told.opened) in
    let at = preparing_desk c.args.desk.now c.begin.new.self c.args.key.now opened.0 told.desk opened.1 in
    let drawn : HasDrawn (disk_meaning g.V.Disk) c.args.desk.now.id c.args.desk.now.vault c.begin.new.self.vault c.in-Ok-Prepare.ballot =
    drew_by g.V.Disk.tells g.V.Disk.may_leave g.V.Disk.fault_count g.V.Disk.seen g.V.Disk.moment g.V.Disk.left_since g.met.V.Disk.counts_now c.args.desk.now c.begin.new.self c.in-Ok-Prepare.ballot c.requires.proposer draws
    (told.stands (up_from c.args.key.now c.args.desk.now c.begin.new.self told.desk up)) (λ t. told.past t (ap promise_used is)) told.still_past told.any_moment told.cause.never_falls in (
      refl,
      up,
      Some c.in-Ok-Prepare.ballot,
      lost_at_once g.V.Disk.tells g.V.Disk.may_leave g.V.Disk.fault_count c.args.key.now c.args.desk.now c.begin.new.self c.end.new.self c.in-Ok-Prepare.ballot opened.0 c.requires.idle opened.2.0.of_key opened.2.0.met (gone_from c.args.key.now c.args.desk.now c.begin.new.self told.desk told.gone) drawn at
          c.end.ensures.desk c.end.ensures.counter c.end.ensures.kept c.end.ensures.disk c.end.ensures.still_past,
    )

pub returns-in-Ok-propose_on-clause-opens : goal.returns-in-Ok-propose_on-clause-opens
returns-in-Ok-propose_on-clause-opens g c =
    let told = c.in-Ok-Accept.ensures in
    let is = c.in-Ok-Accept.field-0-is in
    let opened = some_and c.begin.new.self.round (IsOpened c.args.key.now c.args.era.now (began.Accept c.in-Ok-Accept.ready)) (subst (λ (b : Began). IsSomeAnd c.begin.new.self.round (IsOpened c.args.key.now c.args.era.now b)) is told.opened) in
    let at = accepting_desk c.args.desk.now c.begin.new.self c.args.key.now opened.0 told.desk (subst (λ (b : Began). DrawsFor c.args.desk.now.id c.args.desk.now.vault c.begin.new.self.vault b) is told.vault) opened.1 in
    proposed_at_once (disk_meaning g.V.Disk) c.args.era.now c.args.key.now c.args.program.now c.args.author c.args.desk.now c.propose_on.new.desk c.args.flow.now c.propose_on.new.flow c.in-Ok-propose_on.proposing c.in-Ok-Accept.ready opened.0
    (sym c.is_down.ensures ∙ c.if-is_down.false) c.requires.idle (sym told.by_promise ∙ ap promise_used is) opened.2 c.in-Ok-propose_on.ensures.made
    (subst (λ (d : DeskView g.row.V.Denot). ProposesOn (disk_meaning g.V.Disk) opened.0 d c.propose_on.new.desk c.args.author.caller c.args.key.now c.args.era.now (outcome_of c.args.program.now c.in-Ok-Accept.ready.state).state c.in-Ok-Accept.ready.ballot c.args.flow.now c.propose_on.new.flow) at
    (c.in-Ok-propose_on.ensures.sent opened.0 opened.1))

pub returns-in-Ok-Accept-clause-refused : goal.returns-in-Ok-Accept-clause-refused
returns-in-Ok-Accept-clause-refused g c =
    let up : c.args.desk.now.down ≡ false = sym c.is_down.ensures ∙ c.if-is_down.false in
    let told = c.in-Ok-Accept.ensures in
    let is = c.in-Ok-Accept.field-0-is in
    let opened = some_and c.begin.new.self.round (IsOpened c.args.key.now c.args.era.now (began.Accept c.in-Ok-Accept.ready)) (subst (λ (b : Began). IsSomeAnd c.begin.new.self.round (IsOpened c.args.key.now c.args.era.now b)) is told.opened) in
    let at = accepting_desk c.args.desk.now c.begin.new.self c.args.key.now opened.0 told.desk (subst (λ (b : Began). DrawsFor c.args.desk.now.id c.args.desk.now.vault c.begin.new.self.vault b) is told.vault) opened.1 in
    failed_at_once (disk_meaning g.V.Disk) c.args.key.now c.args.desk.now c.propose_on.new.desk opened.0 c.requires.idle opened.2.0.of_key opened.2.0.met (gone_from c.args.key.now c.args.desk.now c.begin.new.self told.desk told.gone) up c.in-Err-propose_on.refusal
    (subst (λ (d : DeskView g.row.V.Denot). FailsToPropose (disk_meaning g.V.Disk) opened.0.key d c.propose_on.new.desk c.in-Err-propose_on.refusal) at
    (c.in-Err-propose_on.ensures.refused opened.0 opened.1))

pub returns-in-Err-VaultFault-clause-refused : goal.returns-in-Err-VaultFault-clause-refused
returns-in-Err-VaultFault-clause-refused g c =
    let told = c.in-Err-VaultFault.ensures in (
      sym c.is_down.ensures ∙ c.if-is_down.false,
      subst (λ (l : List (List ℕ × Ready)). FailsToDraw (disk_meaning g.V.Disk) l c.args.desk.now c.begin.new.self) (sym (without_absent c.args.key.now c.args.desk.now.cache (told.faulted (ap (λ e. Err e) c.in-Err-VaultFault.field-0-is))))
          (failed_idle g.V.Disk.tells g.V.Disk.may_leave g.V.Disk.fault_count c.args.desk.now c.begin.new.self c.requires.idle
          (kept_by g.V.Disk.tells g.V.Disk.may_leave g.V.Disk.fault_count g.V.Disk.seen g.V.Disk.moment g.V.Disk.left_since g.met.V.Disk.counts_now c.args.desk.now c.begin.new.self told.same_vault told.still_past told.any_moment told.cause.never_falls)
          told.refused (told.down.0 (ap (λ e. Err e) c.in-Err-VaultFault.field-0-is)) (told.cause.failed (ap (λ e. Err e) c.in-Err-VaultFault.field-0-is))),
    )

pub returns-in-Err-Spent-clause-refused : goal.returns-in-Err-Spent-clause-refused
returns-in-Err-Spent-clause-refused g c =
    let up : c.args.desk.now.down ≡ false = sym c.is_down.ensures ∙ c.if-is_down.false in
    let told = c.in-Err-Spent.ensures in (
      up,
      (told.spent (ap (λ e. Err e) c.in-Err-Spent.field-0-is)).0,
      (told.spent (ap (λ e. Err e) c.in-Err-Spent.field-0-is)).1,
      kept_by g.V.Disk.tells g.V.Disk.may_leave g.V.Disk.fault_count g.V.Disk.seen g.V.Disk.moment g.V.Disk.left_since g.met.V.Disk.counts_now c.args.desk.now c.begin.new.self told.same_vault told.still_past told.any_moment told.cause.never_falls,
      up_desk c.args.desk.now c.begin.new.self told.refused (false_of_not c.begin.new.self.down (λ down. absurd (cc (told.down.1 down, c.in-Err-Spent.field-0-is)))) up,
    )

pub returns-in-Err-NoMemory-clause-refused : goal.returns-in-Err-NoMemory-clause-refused
returns-in-Err-NoMemory-clause-refused g c =
    let up : c.args.desk.now.down ≡ false = sym c.is_down.ensures ∙ c.if-is_down.false in
    let told = c.in-Err-NoMemory.ensures in (
      refl,
      up,
      None,
      lost_idle g.V.Disk.tells g.V.Disk.may_leave g.V.Disk.fault_count c.args.key.now c.args.desk.now c.begin.new.self c.requires.idle
          (kept_by g.V.Disk.tells g.V.Disk.may_leave g.V.Disk.fault_count g.V.Disk.seen g.V.Disk.moment g.V.Disk.left_since g.met.V.Disk.counts_now c.args.desk.now c.begin.new.self told.same_vault told.still_past told.any_moment told.cause.never_falls)
          (up_desk c.args.desk.now c.begin.new.self told.refused (false_of_not c.begin.new.self.down (λ down. absurd (cc (told.down.1 down, c.in-Err-NoMemory.field-0-is)))) up),
    )
