-- What the calls of a caller leave true of a cluster that nobody stops.
use Rattle.std.proofs.Common.{◌≡◌, ◌≤◌, ◌<◌, ℕ, Bool, true, false, List, [], ◌∷◌, Option, None, Some, refl, sym, ap, subst, inl, inr, arith}
use Rattle.std.specs.Prelude.{◌==◌, ◌&&◌, length, slice_set, drop, Contains, if◌then◌else◌}
use Rattle.cas_acceptor.specs.Acceptor.{AcceptorView}
use Rattle.cas_ballot.specs.declared.ballot.Ballot.{Ballot}
use Rattle.cas_change.specs.declared.program.Clause.{Clause}
use Rattle.cas_members.specs.Plan.{eras_in}
use Rattle.cas_members.specs.declared.plan.PlanStep.{PlanStep}
use Rattle.cas_members.specs.declared.plan.PlanStep.TheVariants.{Settle, Enter, Finished}
use Rattle.cas_proposer.specs.Desk.{DeskView}
use Rattle.cas_proposer.specs.declared.round.Round.{Round}
use Rattle.cas_quorum.specs.declared.era.Era.{Era}
use Rattle.cas_record.specs.declared.answer.Answer.{Answer}
use Rattle.cas_record.specs.declared.answer.Answer.TheVariants as answer
use Rattle.cas_record.specs.declared.answer.Cause.{Cause}
use Rattle.cas_record.specs.declared.mark.Mark.{Mark}
use Rattle.cas_record.specs.declared.mark.Mark.TheVariants.{Begun, Proposed, Acked, Ended}
use Rattle.cas_record.specs.declared.operator.OpAnswer.TheVariants as told
use Rattle.cas_round.specs.declared.verdict.RoundVerdict.{RoundVerdict}
use Rattle.cas_round.specs.declared.verdict.RoundVerdict.TheVariants as verdict
use Rattle.cas_vault.specs.Vault.{disk_of}
use Rattle.cas_vault.specs.declared.vault.Vault.{Vault}
use Rattle.cas_model.specs.Council.{Council, ListingView, PlanView, with_listing, stepped}
use Rattle.cas_model.specs.Eras.Course.{later_of}
use Rattle.cas_model.specs.Safe.{IsSafe}
use Rattle.cas_model.specs.Step.{StepBegin, StepPropose, StepCount, StepEnd}
use Rattle.cas_model.specs.Calls.Step as calls
use Rattle.cas_model.specs.Calls.Step.{Opens, IsNoBeginning, BeginsRound, Rescans, RefusesCall, ProposesOrEnds, CountsOrEnds, EndsCall, refusal_by, cause_by, proposing, over, rescanned_by, one_more}
use Rattle.cas_model.specs.Calls.Desks.{MayHaveDrawn, EndsRound, LosesMemory}
use Rattle.cas_model.specs.View.{DiskMeaning, Meaning, View, CallView, CallerView, IsAt}
use Rattle.cas_model.proofs.Places.{some_is, contains_older}
use Rattle.cas_model.proofs.Safety.Parts.{low_at, at_low}
use Rattle.cas_board_world.specs.Blame.{Nobody, blame_by_answer, HasFailedAt}
use Rattle.cas_board_world.specs.Steady.{AreBlamed, IsBlamedSince, IsFair, desk_faults, blame_by_call, blame_if_told}
use Rattle.cas_board_world.proofs.Parts.{stays_above, fair_nobody, desk_goes_on, desk_failed, on_callers, on_mark, on_council, on_telling}

-- ---- vaults
pub drawn_low : {V : Type 0} (m : DiskMeaning V) (id : ℕ) (old new : Vault V) (ride : Option Ballot) → MayHaveDrawn m id old new ride → m.faults (disk_of old) ≤ m.faults (disk_of new)
drawn_low m id old new None by = by.goes_on.never_falls
drawn_low m id old new (Some ballot) by = by.goes_on.never_falls

pub loses_low : {V : Type 0} (m : DiskMeaning V) (key : List ℕ) (old new : DeskView V) (ballot : Option Ballot) → LosesMemory m key old new ballot → m.faults (disk_of old.vault) ≤ m.faults (disk_of new.vault)
loses_low m key old new ballot by =
    let first : m.faults (disk_of old.vault) ≤ m.faults (disk_of by.middle) = drawn_low m old.id old.vault by.middle ballot by.drawn in
    let second : m.faults (disk_of by.middle) ≤ m.faults (disk_of new.vault) = by.goes_on.never_falls in
    omega (arith, first, second)

-- ---- a round begins
no_beginning : {S V : Type 0} (m : Meaning S V) (old : View S V) (id : ℕ) (said : Answer) → IsNoBeginning said → (said ≡ answer.Down → HasFailedAt (desk_faults m) old.desks id) → IsFair m old.acceptors old.desks (blame_by_answer id said)
no_beginning m old id answer.Down why down = down refl
no_beginning m old id answer.RecordFull why down = tt
no_beginning m old id (answer.NoMemory proposed) why down = tt
no_beginning m old id other none down = absurd none

pub begins_blamed : {S V : Type 0} {were : List ℕ} (m : Meaning S V) (old : View S V) (id : ℕ) (caller : CallerView) (call : CallView) (new : View S V) → IsBlamedSince m were old → ((desk : DeskView V) × IsAt old.desks id desk) → BeginsRound m old id caller call new → IsBlamedSince m were new
begins_blamed {S} {V} {were} m old id caller call new is there (calls.prepares desk now ballot round flow at up room begins sends view) =
    subst (IsBlamedSince m were) (sym view) (desk_goes_on m is id desk now at (stays_above begins.drawn.goes_on.never_falls) (ap (λ (d : DeskView V). d.down) begins.desk))
begins_blamed {S} {V} {were} m old id caller call new is there (calls.proposes desk now ready ride round outcome flow at up room begins same sends view) =
    subst (IsBlamedSince m were) (sym view) (on_mark m (on_callers m (desk_goes_on m is id desk now at (stays_above (drawn_low m.disks desk.id desk.vault now.vault ride begins.drawn)) (ap (λ (d : DeskView V). d.down) begins.desk)) id (record caller { call = Some (proposing call outcome) }) tt) (Proposed _) tt)
begins_blamed {S} {V} {were} m old id caller call new is there (calls.stays said why idle full view) =
    subst (IsBlamedSince m were) (sym view) (on_callers m is id (record caller { call = Some (over call said) })
    (no_beginning m old id said why (λ down. record { one = there.0; at = there.1; failed = is.failed id there.0 there.1 ((idle there.0 there.1).1 down) })))
begins_blamed {S} {V} {were} m old id caller call new is there (calls.spent desk now at none up no_promise spent kept now_is view) =
    subst (IsBlamedSince m were) (sym view) (on_callers m (desk_goes_on m is id desk now at (stays_above kept.goes_on.never_falls) (ap (λ (d : DeskView V). d.down) now_is)) id (record caller { call = Some (over call answer.Spent) }) tt)
begins_blamed {S} {V} {were} m old id caller call new is there (calls.fails desk now at none up fails view) =
    let failed = desk_failed m is id desk now at fails.faulted in
    subst (IsBlamedSince m were) (sym view) (on_callers m failed.0 id (record caller { call = Some (over call answer.VaultFault) }) failed.1)
begins_blamed {S} {V} {were} m old id caller call new is there (calls.loses desk now ballot at none up loses view) =
    subst (IsBlamedSince m were) (sym view) (on_callers m (desk_goes_on m is id desk now at (stays_above (loses_low m.disks call.key desk now ballot loses)) (ap (λ (d : DeskView V). d.down) loses.desk)) id (record caller { call = Some (over call (answer.NoMemory false)) }) tt)

-- a call is begun, or goes on; its proposer has a desk then
desk_of : {S V : Type 0} (old : View S V) (id : ℕ) {caller : CallerView} → IsSafe old → IsAt old.callers id caller → (desk : DeskView V) × IsAt old.desks id desk
desk_of old id safe at = at_low old.desks id (omega (arith, low_at old.callers id at, safe.sound.desks, safe.sound.callers))

opens_blamed : {S V : Type 0} {were : List ℕ} (m : Meaning S V) (old : View S V) (id : ℕ) (key : List ℕ) (program : List Clause) (new : View S V) → IsSafe old → IsBlamedSince m were old → Opens old id key program new → IsBlamedSince m were new × ((desk : DeskView V) × IsAt new.desks id desk)
opens_blamed {S} {V} {were} m old id key program new safe is (calls.first caller at none room view) =
    let there = desk_of old id safe at in
    (subst (IsBlamedSince m were) (sym view) (on_mark m (on_callers m is id _ tt) (Begun id _ key program) tt), (there.0, subst (λ (v : View S V). IsAt v.desks id there.0) (sym view) there.1))
opens_blamed {S} {V} {were} m old id key program new safe is (calls.again caller call reserved at is_open same_key same_program unproposed met idle room for_round view) =
    let there = desk_of old id safe at in
    (subst (IsBlamedSince m were) (sym view) (on_callers m is id _ tt), (there.0, subst (λ (v : View S V). IsAt v.desks id there.0) (sym view) there.1))

pub begin_blamed : {S V : Type 0} {were : List ℕ} (m : Meaning S V) (old : View S V) (id : ℕ) (key : List ℕ) (program : List Clause) (new : View S V) → IsSafe old → IsBlamedSince m were old → StepBegin m old id key program new → IsBlamedSince m were new
begin_blamed {were = were} m old id key program new safe is by =
    let opened = opens_blamed m old id key program by.middle safe is by.opens in
    begins_blamed m by.middle id by.caller by.call new opened.0 opened.1 by.begins

-- ---- a key is proposed anew
later_dropped : (left : List PlanStep) (era : Era) → Contains (eras_in (drop 1 left)) era → Contains (eras_in left) era
later_dropped [] era there = there
later_dropped (Settle ∷ left) era there = there
later_dropped (Enter next ∷ left) era there = contains_older (eras_in left) there
later_dropped (Finished ∷ left) era there = there

pub later_listing : (plan : PlanView) (listing : ListingView) (era : Era) → Contains (later_of (Some (with_listing plan listing))) era → Contains (later_of (Some plan)) era
later_listing plan listing era there = by_end (listing.complete && (length listing.keys == 0)) there
  where
    by_end : (b : Bool) → Contains (later_of (Some (if b then stepped plan else record plan { listing = Some listing }))) era → Contains (later_of (Some plan)) era
    by_end true there = later_dropped plan.progress.left era there
    by_end false there = there

pub rescans_blamed : {S V : Type 0} (m : Meaning S V) {were : List ℕ} {acceptors : List (AcceptorView S)} {desks : List (DeskView V)} {eras : List Era} {callers : List CallerView} {council : Council} {marks : List Mark}
    → AreBlamed m were acceptors desks eras callers council marks → (id : ℕ) (key : List ℕ) (answer : Answer) (now : Council) → Rescans council id key answer now → IsFair m acceptors desks (blame_by_answer id answer)
    → AreBlamed m were acceptors desks eras callers now marks
rescans_blamed {S} {V} m {were} {acceptors} {desks} {eras} {callers} {council} {marks} is id key answer now (calls.rescans of done same) fair =
    subst (λ (c : Council). AreBlamed m were acceptors desks eras callers c marks) (sym same) (on_council m is (record council { plan = Some (rescanned_by of.plan of.listing) }) is.order is.exchange
    (λ era there. is.later era (subst (λ (p : Option PlanView). Contains (later_of p) era) (sym of.is_plan) (later_listing (record of.plan { rescanned = one_more of.plan.rescanned }) (record of.listing { keys = drop 1 of.listing.keys }) era there)))
    is.asked)
rescans_blamed {S} {V} m {were} {acceptors} {desks} {eras} {callers} {council} {marks} is id key answer now (calls.stops of undone same) fair =
    subst (λ (c : Council). AreBlamed m were acceptors desks eras callers c marks) (sym same) (on_telling m is (told.Stopped answer) (subst (λ (n : ℕ). IsFair m acceptors desks (blame_by_answer n answer)) of.by_operator fair))
rescans_blamed {S} {V} m {were} {acceptors} {desks} {eras} {callers} {council} {marks} is id key answer now (calls.is_none none same) fair =
    subst (λ (c : Council). AreBlamed m were acceptors desks eras callers c marks) (sym same) is

pub refuses_blamed : {S V : Type 0} {were : List ℕ} (m : Meaning S V) (old : View S V) (id : ℕ) (key : List ℕ) (new : View S V) → IsBlamedSince m were old → RefusesCall m old id key new → IsBlamedSince m were new
refuses_blamed {S} {V} {were} m old id key new is (calls.stays said council why anew view) =
    subst (IsBlamedSince m were) (sym view) (rescans_blamed m is id key said council anew (fair_nobody m old.acceptors old.desks (blame_by_answer id said) (elim why [
      | inl full ↦ ap (blame_by_answer id) full.0
      | inr none ↦ ap (blame_by_answer id) none
    ])))
refuses_blamed {S} {V} {were} m old id key new is (calls.loses caller desk now ballot council at_caller at none up loses anew view) =
    subst (IsBlamedSince m were) (sym view) (rescans_blamed m (desk_goes_on m is id desk now at (stays_above (loses_low m.disks key desk now ballot loses)) (ap (λ (d : DeskView V). d.down) loses.desk)) id key (answer.NoMemory false) council anew tt)

-- ---- a round goes on
refused_nobody : (id : ℕ) (v : RoundVerdict) (answer : Answer) → refusal_by v ≡ Some answer → blame_by_answer id answer ≡ Nobody
refused_nobody id verdict.Quorum answer is = absurd (cc is)
refused_nobody id (verdict.Met ballot) answer is = ap (blame_by_answer id) (sym (some_is is))
refused_nobody id (verdict.Aged least) answer is = ap (blame_by_answer id) (sym (some_is is))
refused_nobody id (verdict.Full acceptor) answer is = ap (blame_by_answer id) (sym (some_is is))
refused_nobody id (verdict.Short got need) answer is = ap (blame_by_answer id) (sym (some_is is))

unsettled_nobody : (id : ℕ) (v : RoundVerdict) (why : Cause) → cause_by v ≡ Some why → blame_by_answer id (answer.Unsettled why) ≡ Nobody
unsettled_nobody id verdict.Quorum why is = absurd (cc is)
unsettled_nobody id (verdict.Met ballot) why is = ap (λ (c : Cause). blame_by_answer id (answer.Unsettled c)) (sym (some_is is))
unsettled_nobody id (verdict.Aged least) why is = ap (λ (c : Cause). blame_by_answer id (answer.Unsettled c)) (sym (some_is is))
unsettled_nobody id (verdict.Full acceptor) why is = ap (λ (c : Cause). blame_by_answer id (answer.Unsettled c)) (sym (some_is is))
unsettled_nobody id (verdict.Short got need) why is = ap (λ (c : Cause). blame_by_answer id (answer.Unsettled c)) (sym (some_is is))

pub ended_desk : {S V : Type 0} (m : Meaning S V) {were : List ℕ} {acceptors : List (AcceptorView S)} {desks : List (DeskView V)} {eras : List Era} {callers : List CallerView} {council : Council} {marks : List Mark}
    → AreBlamed m were acceptors desks eras callers council marks → (id : ℕ) (desk now : DeskView V) (round : Round) {offered : _} → IsAt desks id desk → EndsRound m.disks desk now round offered
    → AreBlamed m were acceptors (slice_set desks id now) eras callers council marks
ended_desk {S} {V} m is id desk now round at ends = desk_goes_on m is id desk now at (stays_above ends.goes_on.never_falls) (ap (λ (d : DeskView V). d.down) ends.desk)

proposes_blamed : {S V : Type 0} {were : List ℕ} (m : Meaning S V) (old : View S V) (id : ℕ) (desk : DeskView V) (round : Round) (caller : CallerView) (call : CallView) (new : View S V) → IsBlamedSince m were old → IsAt old.desks id desk → ProposesOrEnds m old id desk round caller call new → IsBlamedSince m were new
proposes_blamed {S} {V} {were} m old id desk round caller call new is at (calls.proposes now turned read by ride outcome flow quorum confirmers is_read turns same sends view) =
    subst (IsBlamedSince m were) (sym view) (on_mark m (on_callers m (desk_goes_on m is id desk now at (stays_above (drawn_low m.disks desk.id desk.vault now.vault ride turns.drawn)) (ap (λ (d : DeskView V). d.down) turns.desk)) id (record caller { call = Some (proposing call outcome) }) tt) (Proposed _) tt)
proposes_blamed {S} {V} {were} m old id desk round caller call new is at (calls.ends now v answer is_verdict refusal ends view) =
    subst (IsBlamedSince m were) (sym view) (on_callers m (ended_desk m is id desk now round at ends) id (record caller { call = Some (over call answer) }) (fair_nobody m old.acceptors (slice_set old.desks id now) (blame_by_answer id answer) (refused_nobody id v answer refusal)))
proposes_blamed {S} {V} {were} m old id desk round caller call new is at (calls.fails now fails view) =
    let failed = desk_failed m is id desk now at fails.faulted in
    subst (IsBlamedSince m were) (sym view) (on_callers m failed.0 id (record caller { call = Some (over call answer.VaultFault) }) failed.1)
proposes_blamed {S} {V} {were} m old id desk round caller call new is at (calls.loses now ballot loses view) =
    subst (IsBlamedSince m were) (sym view) (on_callers m (desk_goes_on m is id desk now at (stays_above (loses_low m.disks round.key desk now ballot loses)) (ap (λ (d : DeskView V). d.down) loses.desk)) id (record caller { call = Some (over call (answer.NoMemory false)) }) tt)

pub propose_blamed : {S V : Type 0} {were : List ℕ} (m : Meaning S V) (old : View S V) (id : ℕ) (new : View S V) → IsBlamedSince m were old → StepPropose m old id new → IsBlamedSince m were new
propose_blamed {were = were} m old id new is by = proposes_blamed m old id by.at_round.desk by.at_round.round by.at_round.of_call.caller by.at_round.of_call.call new is by.at_round.at_desk by.proposes

counts_blamed : {S V : Type 0} {were : List ℕ} (m : Meaning S V) (old : View S V) (id : ℕ) (desk : DeskView V) (round : Round) (caller : CallerView) (call : CallView) (new : View S V) → IsBlamedSince m were old → IsAt old.desks id desk → CountsOrEnds m old id desk round caller call new → IsBlamedSince m were new
counts_blamed {S} {V} {were} m old id desk round caller call new is at (calls.counts now by outcome quorum confirmers proposed ends view) =
    subst (IsBlamedSince m were) (sym view) (on_mark m (on_callers m (ended_desk m is id desk now round at ends) id (record caller { call = Some (over call (answer.Done outcome.state outcome.took round.ballot)) }) tt) (Acked _) tt)
counts_blamed {S} {V} {were} m old id desk round caller call new is at (calls.ends now v why is_verdict because ends view) =
    subst (IsBlamedSince m were) (sym view) (on_callers m (ended_desk m is id desk now round at ends) id (record caller { call = Some (over call (answer.Unsettled why)) }) (fair_nobody m old.acceptors (slice_set old.desks id now) (blame_by_answer id (answer.Unsettled why)) (unsettled_nobody id v why because)))

pub count_blamed : {S V : Type 0} {were : List ℕ} (m : Meaning S V) (old : View S V) (id : ℕ) (new : View S V) → IsBlamedSince m were old → StepCount m old id new → IsBlamedSince m were new
count_blamed {were = were} m old id new is by = counts_blamed m old id by.at_round.desk by.at_round.round by.at_round.of_call.caller by.at_round.of_call.call new is by.at_round.at_desk by.counts

-- ---- a call ends
-- whom its answer blames has failed
pub told_fair : {S V : Type 0} (m : Meaning S V) {were : List ℕ} {acceptors : List (AcceptorView S)} {desks : List (DeskView V)} {eras : List Era} {callers : List CallerView} {council : Council} {marks : List Mark}
    → AreBlamed m were acceptors desks eras callers council marks → (id : ℕ) (caller : CallerView) (call : CallView) (answer : Answer) → IsAt callers id caller → caller.call ≡ Some call → call.told ≡ Some answer → IsFair m acceptors desks (blame_by_answer id answer)
told_fair m {were} {acceptors} {desks} is id caller call answer at is_open is_told =
    subst (λ (o : Option Answer). IsFair m acceptors desks (blame_if_told id o)) is_told (subst (λ (o : Option CallView). IsFair m acceptors desks (blame_by_call id o)) is_open (is.calls id caller at))

pub ends_blamed : {S V : Type 0} {were : List ℕ} (m : Meaning S V) (old : View S V) (id : ℕ) (caller : CallerView) (call : CallView) (answer : Answer) (new : View S V) → IsBlamedSince m were old → IsAt old.callers id caller → caller.call ≡ Some call → EndsCall m old id caller call answer new
    → IsBlamedSince m were new × IsFair m new.acceptors new.desks (blame_by_answer id answer)
ends_blamed {S} {V} {were} m old id caller call answer new is at is_open by = (
  subst (IsBlamedSince m were) (sym by.view) (on_mark m (rescans_blamed m (on_callers m desk id (record caller { call = None }) tt) id call.key answer by.council by.rescans fair) (Ended id caller.number call.rounds answer) fair),
  subst (λ (v : View S V). IsFair m v.acceptors v.desks (blame_by_answer id answer)) (sym by.view) fair,
)
  where
    desk : AreBlamed m were old.acceptors (slice_set old.desks id by.now) old.eras old.callers old.council old.marks
    desk = elim by.closed [
      | inl idle ↦ desk_goes_on m is id by.desk by.now by.at_desk (subst (λ (d : DeskView V). 0 < desk_faults m by.desk → 0 < desk_faults m d) (sym idle.1) (λ some. some)) (ap (λ (d : DeskView V). d.down) idle.1)
      | inr open_ ↦ ended_desk m is id by.desk by.now open_.0 by.at_desk open_.2
    ]

    fair : IsFair m old.acceptors (slice_set old.desks id by.now) (blame_by_answer id answer)
    fair = told_fair m desk id caller call answer at is_open by.told

pub end_blamed : {S V : Type 0} {were : List ℕ} (m : Meaning S V) (old : View S V) (id : ℕ) (answer : Answer) (new : View S V) → IsBlamedSince m were old → StepEnd m old id answer new → IsBlamedSince m were new × IsFair m new.acceptors new.desks (blame_by_answer id answer)
end_blamed {were = were} m old id answer new is by = ends_blamed m old id by.of_call.caller by.of_call.call answer new is by.of_call.at_caller by.of_call.is_open by.ends
