-- Whatever is called on a cluster that is remembered, it is remembered then.
use Rattle.std.proofs.Common.{◌≡◌, ◌≤◌, ℕ, suc, List, [], ◌∷◌, ◌++◌, length, Option, None, Some, reverse, refl, sym, ap, subst, ◌∙◌, inl, inr, arith}
use Rattle.std.specs.Prelude.{option_map, drop, ◌&&◌, ◌⊎◌, ◌==◌, ◌+◌, ◌<◌, Bool, true, false, if◌then◌else◌, slice_set, Ok, Contains}
use Rattle.std.proofs.lemmas.List.{set-get_or}
use Rattle.cas_base.proofs.Bools.{if_true}
use Rattle.cas_flow.specs.Flow.{queue_at}
use Rattle.cas_proposer.specs.Desk.{DeskView}
use Rattle.cas_members.specs.declared.plan.PlanStep.{PlanStep}
use Rattle.cas_members.specs.declared.plan.PlanStep.TheVariants.{Settle, Enter, Finished}
use Rattle.cas_ballot.specs.declared.ballot.Ballot.{Ballot}
use Rattle.cas_change.specs.declared.outcome.Took.{Took}
use Rattle.cas_change.specs.declared.state.State.{State}
use Rattle.cas_members.specs.Plan.{eras_in, next_of}
use Rattle.cas_quorum.specs.declared.era.Era.{Era}
use Rattle.cas_quorum.specs.Era.{majority_era}
use Rattle.cas_vault.specs.Vault.{kept_of}
use Rattle.cas_round.proofs.Lists.{contains}
use Rattle.cas_record.specs.declared.answer.Answer.{Answer}
use Rattle.cas_record.specs.declared.answer.Answer.TheVariants as answer
use Rattle.cas_record.specs.declared.answer.Cause.TheVariants as cause
use Rattle.cas_record.specs.declared.mark.Mark.{Mark}
use Rattle.cas_record.specs.declared.mark.Mark.TheVariants.{EraEntered, Ended}
use Rattle.cas_record.specs.declared.operator.Asked.{Asked}
use Rattle.cas_record.specs.declared.operator.OpAnswer.{OpAnswer}
use Rattle.cas_record.specs.declared.operator.OpAnswer.TheVariants.{Probed}
use Rattle.cas_record.specs.Logs.Happening.{Happening, Marked, Entered, marks_of}
use Rattle.cas_record.specs.Logs.Lawful.{Cluster, IsRescanned, MayMarkEra}
use Rattle.cas_record.specs.Places.{here, Stands}
use Rattle.cas_record.proofs.Tests.{nat_same, nat_is}
use Rattle.cas_model.specs.Council.{MemberPlace, ListingView, NextKeys, PlanView, Council, stepped, with_listing, complete_only, without_partial, hushed}
use Rattle.cas_model.specs.Eras.Listed.{IsPlanKnown, IsPlanTrue}
use Rattle.cas_model.specs.Calls.Step as calls
use Rattle.cas_model.specs.Calls.Step.{IsRescan, Rescans, rescanned_by, one_more}
use Rattle.cas_model.specs.Eras.Course.{EraEntry, Course, IsNoEra, course_of, entries_in, Follows, entering, next_era, shown_era, era_shown, WorksIn, not_yet, entered, CourseIsUnderWay, IsCourse, IsCourseOf}
use Rattle.cas_model.specs.History.{IsLogged, IsInEra, inside, torn, IsFollowed, IsRemembered}
use Rattle.cas_model.specs.Parties.{AreMessagesTrue, VaultKeepsEra, IsEraOf, ArePromisesHeld, HaveOneEach, IsDeskTrue, IsDoneTrue, IsToldTrue, IsCallTrue, IsCallerTrue}
use Rattle.cas_protocol.specs.Protocol.{Made, GlobalState, is_done, IsListed, IsLeaving, MarksEra, with_mark}
use Rattle.cas_model.specs.Step as step
use Rattle.cas_model.specs.Step.{Event, Step, StepEnd, StepRestartProposer, restarted}
use Rattle.cas_model.specs.Exchanges.Step as told_by
use Rattle.cas_model.specs.Exchanges.Step.{StepTell, StepAskAll, StepGather, with_council, told_view, told_over}
use Rattle.cas_model.specs.Calls.Desks.{Restarts, EntersEra, FailsToEnter, Crashes}
use Rattle.cas_model.specs.Eras.Step as plans
use Rattle.cas_model.specs.Eras.Step.{StepOpenPlan, OpensPlan, Welcomes, IsPlanned, StepEnterEra, EntersNext, rest_of, plan_after, entered_view, with_plan}
use Rattle.cas_model.specs.Stops.Step as stops
use Rattle.cas_model.specs.Stops.Step.{OpenCallAt, closed_by, closed_by_crash, LeavesRound, GoesDown, CrashesDesk, broken_off_view}
use Rattle.cas_model.specs.View.{Meaning, View, CallView, CallerView, IsAt, era_at, era_in, with_desk}
use Rattle.cas_model.proofs.Around.{Whole, whole_of, logged, Around, around, around_era, leaves_desk, settles, whole_more}
use Rattle.cas_model.proofs.Exchanges.Steps as council
use Rattle.cas_model.proofs.Eras.CourseSteps.{welcome_course, enters_course}
use Rattle.cas_model.proofs.Eras.Courses.{AtSettle, course, at_settle, settle_enters, path_settles, course_relisted, course_stepped, leads, era_set, era_kept, stays_on, course_finished, course_entered}
use Rattle.cas_model.proofs.Calls.Draws.{Lasts, lasts}
use Rattle.cas_model.proofs.Calls.Ends.{IsDeskQuiet, quiet_true}
use Rattle.cas_protocol.proofs.Events.{keeps as happens}
use Rattle.cas_model.proofs.Frames.Steps.{marked}
use Rattle.cas_model.specs.Collection.Logged.{AreRenewed}
use Rattle.cas_model.proofs.Eras.InEras.{IsPlain, era_kept as kept_in, crash_kept, left_in, AreIn, end_in, ask_in, gather_in, desks_in, one_put, one_changed, up_kept, down_in}
use Rattle.cas_model.proofs.Stops.Leaving.{crashed_logged, vault_past, closing_move, left_whole, left_marks, down_logged}
use Rattle.cas_model.proofs.Eras.OpeningPlans.{plan_opened}
use Rattle.cas_model.proofs.Eras.OnCourse.{Leads, on_course, left_course, down_course, told_course, end_course, quiet, read_quietly}
use Rattle.cas_model.proofs.Others.{LeavesCalls, plan_still, messages_still, caller_still}
use Rattle.cas_model.proofs.Eras.Listings.{listing_on, listing_rescanned, rescan_of, known_listed}
use Rattle.cas_model.proofs.Places.{contains_back, same_or_not, own_set, other_set, but_set, at_one, contains_none, some_is}
use Rattle.cas_model.proofs.Eras.Steps.{entry_there, entry_stands, none_after, quiet_entered, entered_around}
use Rattle.cas_model.proofs.Collection.Renewals.{renews_on, left_renewed, crash_above}
use Rattle.cas_model.proofs.Calls.Rounds.{none_waits}
use Rattle.cas_model.proofs.Steps.{keeps_log, ends as ends_logged}

-- ---- a vault that shows something else
-- the desk is the same but for that
pub revaulted : {S V : Type 0} (m : Meaning S V) (cluster : Cluster) (global : GlobalState) (old : View S V) (id : ℕ) (desk now : DeskView V) → IsAt old.desks id desk
    → now ≡ record desk { vault = now.vault; down = now.down }
    → Lasts m.disks desk.vault now.vault → Whole m cluster global old → Whole m cluster global (with_desk old id now)
revaulted {S} {V} m cluster global old id desk now at is_now still whole =
    settles m cluster global old (with_desk old id now) id (around m cluster global old id whole) (leaves_desk old id now _ (λ p other. refl))
    (record {
      desk = λ d c at_d at_c.
          let of = whole.parties.desks id tt desk c at at_c in
          subst (λ (x : DeskView V). IsDeskTrue m cluster global.log global.made (era_at old id).number id c (queue_at old.flow id).messages x) (sym (own_set old.desks id now d at_d ∙ is_now))
          (record {
            same_id = of.same_id;
            known = of.known;
            vault = vault_past m global.log id (era_at old id).number still of.vault;
            cached = of.cached;
            one_each = of.one_each;
            none_open = of.none_open;
            round = of.round;
          });
      caller = λ c at_c. whole.parties.callers id tt c at_c;
      own = whole.parties.own id;
      late = whole.parties.late;
    })

one_of : {A : Type 0} → A ⊎ A → A
one_of (inl x) = x
one_of (inr x) = x

-- ---- eras
-- a proposer whose vault shows the number of its era works in that era
shown_same : (of : Course) (id : ℕ) → id ≤ of.last_proposer → IsCourse of → era_shown of.plan (era_in of.eras id) (era_in of.eras id).number ≡ era_in of.eras id
shown_same of id low is = by_plan of.plan is.under_way
  where
    by_plan : (plan : Option PlanView) → CourseIsUnderWay of plan → era_shown plan (era_in of.eras id) (era_in of.eras id).number ≡ era_in of.eras id
    by_plan None under_way = refl
    by_plan (Some plan) under_way = by_next (entering plan.progress.left) refl
      where
        by_next : (next : Option Era) → entering plan.progress.left ≡ next → shown_era next (era_in of.eras id) (era_in of.eras id).number ≡ era_in of.eras id
        by_next None is_next = refl
        by_next (Some next) is_next = by_number (next.number == (era_in of.eras id).number) refl
          where
            by_number : (b : Bool) → (next.number == (era_in of.eras id).number) ≡ b → (if b then next else era_in of.eras id) ≡ era_in of.eras id
            by_number true same = elim (under_way.each id low) [
              | not_yet few in_base ↦ absurd (omega (arith, nat_same same, ap (λ (e : Era). e.number) in_base, (leads plan.progress.era next plan.progress.left is_next under_way.start).follows.number))
              | entered there ↦ some_is (sym is_next ∙ there)
            ]
            by_number false same = refl

-- the same eras in another place of the view
pub same_course : {S V : Type 0} (m : Meaning S V) {cluster : Cluster} (old new : View S V) → course_of new ≡ course_of old → IsLogged m cluster new → IsCourseOf cluster (course_of old)
    → AreIn m (course_of old) new.desks → IsFollowed m new
same_course m {cluster} old new same log on desks = record {
  cluster = cluster;
  logged = log;
  course = subst (IsCourseOf cluster) (sym same) on;
  in_eras = λ id desk at. subst (λ (of : Course). (id ≤ of.last_proposer) × IsInEra m of id desk) (sym same) (desks id desk at);
}

-- ---- a proposer is up again
-- its vault is in its era, and shows that
restarts_inside : {S V : Type 0} (m : Meaning S V) (old : View S V) (id : ℕ) (desk now : DeskView V) → (is : IsFollowed m old) → m.disks.tells → IsAt old.desks id desk → Restarts m.disks desk now
    → IsInEra m (course_of old) id now → IsFollowed m (with_desk old id now)
restarts_inside m old id desk now is disks at by inside_it =
    same_course m old (with_desk old id now) refl
    (logged m is.cluster is.logged.global (with_desk old id now) (revaulted m is.cluster is.logged.global old id desk now at by.desk (record { still_past = by.still_past disks; ages = by.ages disks }) (whole_of m old is.logged)) is.logged.agrees.marks)
    is.course (one_put m (course_of old) _ _ id _ _ refl at inside_it is.in_eras)

-- ---- a proposer goes on to the next era
-- what is known where one is in the era that all entered last, and the next is to be entered
record GoesNext {S V : Type 0} (m : Meaning S V) (old : View S V) (id : ℕ) (plan : PlanView) (next : Era) : Type 0 where
  is : IsFollowed m old
  is_plan : old.council.plan ≡ Some plan
  is_next : entering plan.progress.left ≡ Some next
  desk : DeskView V
  caller : CallerView
  at_desk : IsAt old.desks id desk
  at_caller : IsAt old.callers id caller

planned : {S V : Type 0} (m : Meaning S V) (old : View S V) (id : ℕ) (plan : PlanView) (next : Era) → (at : GoesNext m old id plan next)
    → IsCourseOf at.is.cluster (course old.last_proposer old.eras (Some plan) (entries_in old.marks))
planned m old id plan next at = subst (λ (p : Option PlanView). IsCourseOf at.is.cluster (course old.last_proposer old.eras p (entries_in old.marks))) at.is_plan at.is.course

follows_next : {S V : Type 0} (m : Meaning S V) (old : View S V) (id : ℕ) (plan : PlanView) (next : Era) → GoesNext m old id plan next → Follows plan.progress.era next
follows_next m old id plan next at = (leads plan.progress.era next plan.progress.left at.is_next (planned m old id plan next at).is_course.under_way.start).follows

known_in : {S V : Type 0} (m : Meaning S V) (old : View S V) (id : ℕ) (plan : PlanView) (next : Era) → GoesNext m old id plan next → id ≤ old.last_proposer
known_in m old id plan next at = (at.is.in_eras id at.desk at.at_desk).0

-- the next era is one of the cluster's
next_has : {S V : Type 0} (m : Meaning S V) (old : View S V) (id : ℕ) (plan : PlanView) (next : Era) → (at : GoesNext m old id plan next) → IsEraOf at.is.cluster next
next_has m old id plan next at = (planned m old id plan next at).later next (by_left plan.progress.left at.is_next)
  where
    by_left : (left : List PlanStep) → entering left ≡ Some next → Contains (eras_in left) next
    by_left [] is_next = absurd (cc is_next)
    by_left (Enter era ∷ left) is_next = contains next (era ∷ eras_in left) (inl (some_is is_next))
    by_left (Settle ∷ left) is_next = absurd (cc is_next)
    by_left (Finished ∷ left) is_next = absurd (cc is_next)

-- the one whose turn it is has no mark of it
unmarked : {S V : Type 0} (m : Meaning S V) (old : View S V) (id : ℕ) (plan : PlanView) (next : Era) → (at : GoesNext m old id plan next)
    → Stands (EraEntered plan.entered next.number) (marks_of at.is.logged.global.log) → ⊥
unmarked m old id plan next at stands =
    let number = (follows_next m old id plan next at).number in
    elim ((planned m old id plan next at).is_course.entries.none_beyond (record { proposer = plan.entered; era = next.number })
    (entry_there old.marks plan.entered next.number (subst (Stands (EraEntered plan.entered next.number)) at.is.logged.agrees.marks stands))) [
      | inl low ↦ omega (arith, low, number)
      | inr led ↦ omega (arith, led.1)
    ]

-- it leaves the era that all entered last, and knew nothing of the next
leaving : {S V : Type 0} (m : Meaning S V) (old : View S V) (id : ℕ) (plan : PlanView) (next : Era) → (at : GoesNext m old id plan next) → era_at old id ≡ plan.progress.era
    → IsLeaving at.is.cluster at.is.logged.global.log id (era_at old id).number
leaving m old id plan next at in_base =
    let of = at.is.logged.agrees.desks id at.desk at.caller at.at_desk at.at_caller in
    record {
      known = of.known;
      once = of.vault.not_beyond;
      listed = subst (λ (e : Era). (e.number ≡ 0) ⊎ IsListed at.is.cluster at.is.logged.global.log e.number) (sym in_base)
          ((subst (IsPlanTrue at.is.cluster at.is.logged.global.log) at.is_plan at.is.logged.agrees.council.1).settled next at.is_next);
    }

none_beyond_next : {S V : Type 0} (m : Meaning S V) (old : View S V) (id : ℕ) (plan : PlanView) (next : Era) → (at : GoesNext m old id plan next)
    → Stands (Entered id (suc next.number)) at.is.logged.global.log → ⊥
none_beyond_next m old id plan next at =
    none_after at.is.cluster at.is.logged.global.log id plan.entered next.number at.is.logged.history.lawful (omega (arith, (follows_next m old id plan next at).number))
    (omega (arith, (planned m old id plan next at).is_course.under_way.some_left, at.is.logged.agrees.last_proposer)) (unmarked m old id plan next at)

-- no caller begins, proposes or ends with that
entered_leaves : (proposer era id : ℕ) → LeavesCalls (Entered proposer era) id
entered_leaves proposer era id = record {
  begins = λ number key program now. absurd (cc now);
  ends = λ number rounds answer now. absurd (cc now);
  proposes = λ p now same. absurd (cc now);
}

-- the log then
abbrev after_entry : {S V : Type 0} (m : Meaning S V) (old : View S V) (id : ℕ) (plan : PlanView) (next : Era) → GoesNext m old id plan next → GlobalState
after_entry m old id plan next at = with_mark at.is.logged.global (Entered id next.number)

-- all but it are as the log tells, and it works in the next era
entry_around : {S V : Type 0} (m : Meaning S V) (old : View S V) (id : ℕ) (plan : PlanView) (next : Era) → (at : GoesNext m old id plan next) → era_at old id ≡ plan.progress.era
    → Around m at.is.cluster (after_entry m old id plan next at) (record old { eras = slice_set old.eras id next }) id
entry_around m old id plan next at in_base =
    around_era m at.is.cluster (after_entry m old id plan next at) old id next at.is.course.is_course.places (next_has m old id plan next at)
    (subst (λ (n : ℕ). Around m at.is.cluster (with_mark at.is.logged.global (Entered id n)) old id) (ap (λ (e : Era). suc e.number) in_base ∙ sym (follows_next m old id plan next at).number)
    (entered_around m at.is.cluster at.is.logged.global old id (era_at old id).number (leaving m old id plan next at in_base) (around m at.is.cluster at.is.logged.global old id (whole_of m old at.is.logged))))

-- without promise and round it is in that era
entry_quiet : {S V : Type 0} (m : Meaning S V) (old : View S V) (id : ℕ) (plan : PlanView) (next : Era) → (at : GoesNext m old id plan next) → era_at old id ≡ plan.progress.era
    → (now : DeskView V) → now.id ≡ at.desk.id → now.cache ≡ [] → now.round ≡ None
    → Lasts m.disks at.desk.vault now.vault
    → IsDeskQuiet m at.is.cluster (after_entry m old id plan next at).log (after_entry m old id plan next at).made id (era_in (slice_set old.eras id next) id).number now
entry_quiet m old id plan next at in_base now same_id none idle still =
    let of = at.is.logged.agrees.desks id at.desk at.caller at.at_desk at.at_caller in
    let number = (follows_next m old id plan next at).number ∙ sym (ap (λ (e : Era). suc e.number) in_base) in
    let there = era_set old.eras id next (omega (arith, known_in m old id plan next at, at.is.course.is_course.few, at.is.course.is_course.places)) in
    subst (λ (e : Era). IsDeskQuiet m at.is.cluster (Entered id next.number ∷ at.is.logged.global.log) at.is.logged.global.made id e.number now) (sym there)
    (subst (λ (n : ℕ). IsDeskQuiet m at.is.cluster (Entered id n ∷ at.is.logged.global.log) at.is.logged.global.made id n now) (sym number)
    (quiet_entered m at.is.cluster at.is.logged.global.log at.is.logged.global.made id (era_at old id).number at.desk now same_id none idle still
    (subst (λ (n : ℕ). Stands (Entered id (suc n)) at.is.logged.global.log → ⊥) number (none_beyond_next m old id plan next at)) of.same_id of.known of.vault))

-- ---- disks in eras
-- a proposer whose era is the same is in it as before
still_in : {S V : Type 0} (m : Meaning S V) (of : Course) (eras : List Era) (id : ℕ) (desk : DeskView V) → era_in eras id ≡ era_in of.eras id → IsInEra m of id desk
    → IsInEra m (record of { eras = eras }) id desk
still_in {S} {V} m of eras id desk same (inside within) = inside (subst (λ (e : Era). VaultKeepsEra m.disks e.number e.number desk.vault) (sym same) within)
still_in {S} {V} m of eras id desk same (torn plan next is_plan is_next in_base down none idle within) =
    torn plan next is_plan is_next (same ∙ in_base) down none idle (subst (λ (e : Era). VaultKeepsEra m.disks e.number next.number desk.vault) (sym same) within)

-- ---- a proposer is up again in the next era
restarts_entered : {S V : Type 0} (m : Meaning S V) (old : View S V) (id : ℕ) (plan : PlanView) (next : Era) (now : DeskView V) → (at : GoesNext m old id plan next) → m.disks.tells
    → era_at old id ≡ plan.progress.era → at.desk.cache ≡ [] → at.desk.round ≡ None → Restarts m.disks at.desk now → VaultKeepsEra m.disks next.number next.number now.vault
    → IsFollowed m (record (with_desk old id now) { eras = slice_set old.eras id next })
restarts_entered {S} {V} m old id plan next now at disks in_base none idle by within = record {
  cluster = at.is.cluster;
  logged = logged m at.is.cluster after new whole at.is.logged.agrees.marks;
  course = subst (λ (p : Option PlanView). IsCourseOf at.is.cluster (course old.last_proposer (slice_set old.eras id next) p (entries_in old.marks))) (sym at.is_plan)
      (let on = planned m old id plan next at in
      record { is_course = stays_on old.last_proposer old.eras plan (entries_in old.marks) id next (λ low. entered at.is_next) (λ low. (follows_next m old id plan next at).sized) on.is_course; later = on.later; none_beyond = on.none_beyond });
  in_eras = λ p d at_d. by_place p d at_d (same_or_not p id);
}
  where
    new : View S V
    new = record (with_desk old id now) { eras = slice_set old.eras id next }

    after : GlobalState
    after = after_entry m old id plan next at

    moved : View S V
    moved = record old { eras = slice_set old.eras id next }

    log_whole : Whole m at.is.cluster at.is.logged.global old
    log_whole = whole_of m old at.is.logged

    whole : Whole m at.is.cluster after new
    whole = settles m at.is.cluster after moved new id (entry_around m old id plan next at in_base) (leaves_desk moved id now _ (λ p other. refl)) (record {
      desk = λ d c at_d at_c.
          subst (λ (x : DeskView V). IsDeskTrue m at.is.cluster after.log after.made (era_at new id).number id c (queue_at old.flow id).messages x) (sym (own_set old.desks id now d at_d))
          (quiet_true m at.is.cluster after.log after.made id (era_at new id).number c (queue_at old.flow id).messages now
          (none_waits at.is.cluster at.is.logged.global.log at.is.logged.global.made id (era_at old id).number c (queue_at old.flow id).messages at.desk.round idle (at.is.logged.agrees.desks id at.desk c at.at_desk at_c).round)
          (entry_quiet m old id plan next at in_base now (ap (λ (x : DeskView V). x.id) by.desk) (ap (λ (x : DeskView V). x.cache) by.desk ∙ none) (ap (λ (x : DeskView V). x.round) by.desk ∙ idle) (record { still_past = by.still_past disks; ages = by.ages disks })));
      caller = λ c at_c. caller_still (Entered id next.number) at.is.logged.global.log at.is.logged.global.made c (entered_leaves id next.number id) (log_whole.parties.callers id tt c at_c);
      own = messages_still (Entered id next.number) at.is.logged.global.log (queue_at old.flow id).messages (log_whole.parties.own id);
      late = messages_still (Entered id next.number) at.is.logged.global.log old.flow.late log_whole.parties.late;
    })

    by_place : (p : ℕ) (d : DeskView V) → IsAt (slice_set old.desks id now) p d → (p ≡ id) ⊎ (p ≡ id → ⊥) → (p ≤ old.last_proposer) × IsInEra m (course_of new) p d
    by_place p d at_d (inl own) = subst (λ (q : ℕ). (q ≤ old.last_proposer) × IsInEra m (course_of new) q d) (sym own) (
      known_in m old id plan next at,
      subst (IsInEra m (course_of new) id) (sym (own_set old.desks id now d (subst (λ (q : ℕ). IsAt (slice_set old.desks id now) q d) own at_d)))
          (inside (subst (λ (e : Era). VaultKeepsEra m.disks e.number e.number now.vault) (sym (era_set old.eras id next (omega (arith, known_in m old id plan next at, at.is.course.is_course.few, at.is.course.is_course.places)))) within)),
    )
    by_place p d at_d (inr other) =
        let was = at.is.in_eras p d (other_set old.desks id now p d other at_d) in
        (was.0, still_in m (course_of old) (slice_set old.eras id next) p d (era_kept old.eras id p next other) was.1)

-- it is up again, in the era that its vault shows
shown_up : {S V : Type 0} (m : Meaning S V) (old : View S V) (id : ℕ) (desk now : DeskView V) (caller : CallerView) → IsFollowed m old → m.disks.tells → IsAt old.desks id desk
    → IsAt old.callers id caller → Restarts m.disks desk now → now.down ≡ false
    → IsFollowed m (record (with_desk old id now) { eras = slice_set old.eras id (era_shown old.council.plan (era_at old id) (kept_of now.vault).era) })
shown_up {S} {V} m old id desk now caller is disks at at_c by up = by_era (is.in_eras id desk at).1
  where
    low : id ≤ old.last_proposer
    low = (is.in_eras id desk at).0

    -- it shows its era
    same : VaultKeepsEra m.disks (era_at old id).number (era_at old id).number now.vault
        → IsFollowed m (record (with_desk old id now) { eras = slice_set old.eras id (era_shown old.council.plan (era_at old id) (kept_of now.vault).era) })
    same within = subst (λ (l : List Era). IsFollowed m (record (with_desk old id now) { eras = l }))
        (sym (ap (λ (n : ℕ). slice_set old.eras id (era_shown old.council.plan (era_at old id) n)) within.kept ∙ ap (λ (e : Era). slice_set old.eras id e) (shown_same (course_of old) id low is.course.is_course) ∙ set-get_or old.eras id (majority_era 0 [])))
        (restarts_inside m old id desk now is disks at by (inside within))

    -- or the next one
    goes : (plan : PlanView) (next : Era) → old.council.plan ≡ Some plan → next_era old.council.plan ≡ Some next → era_at old id ≡ plan.progress.era → desk.cache ≡ [] → desk.round ≡ None
        → VaultKeepsEra m.disks next.number next.number now.vault
        → IsFollowed m (record (with_desk old id now) { eras = slice_set old.eras id (era_shown old.council.plan (era_at old id) (kept_of now.vault).era) })
    goes plan next is_plan is_next in_base none idle within = subst (λ (e : Era). IsFollowed m (record (with_desk old id now) { eras = slice_set old.eras id e }))
        (sym (ap (λ (n : ℕ). era_shown old.council.plan (era_at old id) n) within.kept ∙ ap (λ (o : Option Era). shown_era o (era_at old id) next.number) is_next ∙ if_true (next.number == next.number) next (era_at old id) (nat_is refl)))
        (restarts_entered m old id plan next now
        (record { is = is; is_plan = is_plan; is_next = ap next_era (sym is_plan) ∙ is_next; desk = desk; caller = caller; at_desk = at; at_caller = at_c }) disks in_base none idle by within)

    by_era : IsInEra m (course_of old) id desk → IsFollowed m (record (with_desk old id now) { eras = slice_set old.eras id (era_shown old.council.plan (era_at old id) (kept_of now.vault).era) })
    by_era (inside within) = same (one_of (by.shows up disks (era_at old id).number (era_at old id).number within))
    by_era (torn plan next is_plan is_next in_base down none idle within) = elim (by.shows up disks (era_at old id).number next.number within) [
      | inl stays ↦ same stays
      | inr shows ↦ goes plan next is_plan is_next in_base none idle shows
    ]

-- it stays down
stays_down : {S V : Type 0} (m : Meaning S V) (old : View S V) (id : ℕ) (desk now : DeskView V) → IsFollowed m old → m.disks.tells → IsAt old.desks id desk → Restarts m.disks desk now
    → now.down ≡ true → IsFollowed m (with_desk old id now)
stays_down {S} {V} m old id desk now is disks at by down = restarts_inside m old id desk now is disks at by (by_era (is.in_eras id desk at).1)
  where
    by_era : IsInEra m (course_of old) id desk → IsInEra m (course_of old) id now
    by_era (inside within) = inside (by.stays down disks _ _ within)
    by_era (torn plan next is_plan is_next in_base was_down none idle within) =
        torn plan next is_plan is_next in_base down (ap (λ (d : DeskView V). d.cache) by.desk ∙ none) (ap (λ (d : DeskView V). d.round) by.desk ∙ idle) (by.stays down disks _ _ within)

restarts : {S V : Type 0} (m : Meaning S V) (old : View S V) (id : ℕ) (new : View S V) → m.disks.tells → IsFollowed m old → StepRestartProposer m old id new → IsFollowed m new
restarts m old id new disks is (step.was_up_already desk at up view) = subst (IsFollowed m) (sym view) is
restarts {S} {V} m old id new disks is (step.restarts desk now caller at at_c down by view) = subst (IsFollowed m) (sym view) (by_down now.down refl)
  where
    by_down : (b : Bool) → now.down ≡ b
        → IsFollowed m (record (with_desk old id now) { eras = if b then old.eras else slice_set old.eras id (era_shown old.council.plan (era_at old id) (kept_of now.vault).era) })
    by_down true stays = stays_down m old id desk now is disks at by stays
    by_down false up = shown_up m old id desk now caller is disks at at_c by up

-- ---- a proposer enters the next era
-- the same desk leaves its round where its era is another
moved_round : {S V : Type 0} (DeskTurns : DeskView V → DeskView V → Type 0) (closed : CallView → CallView) (old new : View S V) (id : ℕ) (eras : List Era) → LeavesRound DeskTurns closed old id new
    → LeavesRound DeskTurns closed (record old { eras = eras }) id (record new { eras = eras })
moved_round {S} {V} DeskTurns closed old new id eras (stops.idle desk now at none turns view) = stops.idle desk now at none turns (ap (λ (w : View S V). record w { eras = eras }) view)
moved_round {S} {V} DeskTurns closed old new id eras (stops.closes desk now round of at is_round turns view) =
    stops.closes desk now round (record { caller = of.caller; at_caller = of.at_caller; call = of.call; is_open = of.is_open }) at is_round turns (ap (λ (w : View S V). record w { eras = eras }) view)

-- the log of one that was still in the era that all entered last, and of one that a restart has shown in the next
record EntersLog {S V : Type 0} (m : Meaning S V) (cluster : Cluster) (old : View S V) (id : ℕ) (next : Era) (before : GlobalState) : Type 0 where
  after : GlobalState
  rest : Around m cluster after (record old { eras = slice_set old.eras id next }) id
  callers : (c : CallerView) → IsAt old.callers id c → IsCallerTrue after.log after.made id c
  own : AreMessagesTrue after.log (queue_at old.flow id).messages
  late : AreMessagesTrue after.log old.flow.late
  quiet : (now : DeskView V) (desk : DeskView V) → IsAt old.desks id desk → EntersEra m.disks next desk now
      → IsDeskQuiet m cluster after.log after.made id (era_in (slice_set old.eras id next) id).number now
  entered : Stands (Entered id next.number) after.log
  same_marks : marks_of after.log ≡ marks_of before.log

enters_log : {S V : Type 0} (m : Meaning S V) (old : View S V) (id : ℕ) (plan : PlanView) (next : Era) → (at : GoesNext m old id plan next) → m.disks.tells → WorksIn plan id (era_at old id)
    → EntersLog m at.is.cluster old id next at.is.logged.global
enters_log {S} {V} m old id plan next at disks (not_yet few in_base) = record {
  after = after_entry m old id plan next at;
  rest = entry_around m old id plan next at in_base;
  callers = λ c at_c. caller_still (Entered id next.number) at.is.logged.global.log at.is.logged.global.made c (entered_leaves id next.number id) (whole.parties.callers id tt c at_c);
  own = messages_still (Entered id next.number) at.is.logged.global.log (queue_at old.flow id).messages (whole.parties.own id);
  late = messages_still (Entered id next.number) at.is.logged.global.log old.flow.late whole.parties.late;
  quiet = λ now desk at_d enters.
      let same = at_one old.desks id at_d at.at_desk in
      entry_quiet m old id plan next at in_base now (ap (λ (x : DeskView V). x.id) enters.desk ∙ ap (λ (x : DeskView V). x.id) same) (ap (λ (x : DeskView V). x.cache) enters.desk)
      (ap (λ (x : DeskView V). x.round) enters.desk)
      (subst (λ (x : DeskView V). Lasts m.disks x.vault now.vault) same (record { still_past = enters.still_past disks; ages = enters.ages disks }));
  entered = record { older = at.is.logged.global.log; at = here };
  same_marks = refl;
}
  where
    whole : Whole m at.is.cluster at.is.logged.global old
    whole = whole_of m old at.is.logged
enters_log {S} {V} m old id plan next at disks (entered there) = record {
  after = at.is.logged.global;
  rest = around_era m at.is.cluster at.is.logged.global old id next at.is.course.is_course.places (next_has m old id plan next at) (around m at.is.cluster at.is.logged.global old id whole);
  callers = λ c at_c. whole.parties.callers id tt c at_c;
  own = whole.parties.own id;
  late = whole.parties.late;
  quiet = λ now desk at_d enters.
      let of = at.is.logged.agrees.desks id desk at.caller at_d at.at_caller in
      subst (λ (e : Era). IsDeskQuiet m at.is.cluster at.is.logged.global.log at.is.logged.global.made id e.number now) (in_next ∙ sym is_set) (record {
        same_id = ap (λ (x : DeskView V). x.id) enters.desk ∙ of.same_id;
        known = of.known;
        vault = vault_past m at.is.logged.global.log id (era_at old id).number (record { still_past = enters.still_past disks; ages = enters.ages disks }) of.vault;
        cached =
            subst (ArePromisesHeld at.is.cluster at.is.logged.global.log at.is.logged.global.made id (era_at old id).number) (sym (ap (λ (x : DeskView V). x.cache) enters.desk))
            (λ key ready h. absurd (contains_none h));
        one_each = subst HaveOneEach (sym (ap (λ (x : DeskView V). x.cache) enters.desk)) tt;
        none_open = ap (λ (x : DeskView V). x.round) enters.desk;
      });
  entered = elim (at.is.logged.agrees.desks id at.desk at.caller at.at_desk at.at_caller).vault.is_in [
    | inl first ↦ absurd (omega (arith, first, ap (λ (e : Era). e.number) in_next, (follows_next m old id plan next at).number))
    | inr stands ↦ subst (λ (e : Era). Stands (Entered id e.number) at.is.logged.global.log) in_next stands
  ];
  same_marks = refl;
}
  where
    whole : Whole m at.is.cluster at.is.logged.global old
    whole = whole_of m old at.is.logged

    in_next : era_at old id ≡ next
    in_next = some_is (sym there ∙ at.is_next)

    is_set : era_in (slice_set old.eras id next) id ≡ next
    is_set = era_set old.eras id next (omega (arith, known_in m old id plan next at, at.is.course.is_course.few, at.is.course.is_course.places))

-- what is known of the change of membership then
plan_entered : (cluster : Cluster) (log : List Happening) (plan : PlanView) (next : Era) (b : Bool) → entering (rest_of plan.progress.left) ≡ None → IsPlanKnown cluster log plan
    → IsPlanKnown cluster log (if b then record plan { progress = record { era = next; left = rest_of plan.progress.left }; entered = 0; listing = None } else record plan { entered = suc plan.entered })
plan_entered cluster log plan next true settles known = record { settled = λ later enters. absurd (cc (enters, settles)); listing = λ listing none. absurd (cc none) }
plan_entered cluster log plan next false settles known = record { settled = known.settled; listing = known.listing }

-- it is marked so
enters_logged : {S V : Type 0} (m : Meaning S V) (old : View S V) (plan : PlanView) (next : Era) (middle : View S V) → (at : GoesNext m old plan.entered plan next) → m.disks.tells
    → LeavesRound (EntersEra m.disks next) (closed_by (answer.Moved next.number) (cause.Moved next.number)) old plan.entered middle → IsLogged m at.is.cluster (entered_view middle plan next)
enters_logged {S} {V} m old plan next middle at disks leaves =
    marked m at.is.cluster marked_global (record (with_plan middle (Some (plan_after middle.last_proposer plan next))) { eras = slice_set middle.eras plan.entered next })
    (EraEntered plan.entered next.number ∷ []) (marks_of at.is.logged.global.log)
    (council.counsels m at.is.cluster marked_global (record middle { eras = slice_set middle.eras plan.entered next }) (record (hushed middle.council) { plan = Some (plan_after middle.last_proposer plan next) }) (
      marked_whole.parties.council.0,
      plan_entered at.is.cluster marked_global.log plan next (plan.entered == middle.last_proposer)
          (path_settles next (rest_of plan.progress.left) (leads plan.progress.era next plan.progress.left at.is_next (planned m old plan.entered plan next at).is_course.under_way.start).path)
          (subst (IsPlanTrue at.is.cluster marked_global.log) (ap (λ (c : Course). c.plan) (left_course (EntersEra m.disks next) (closed_by (answer.Moved next.number) (cause.Moved next.number)) old middle plan.entered leaves) ∙ at.is_plan) marked_whole.parties.council.1),
      marked_whole.parties.council.2,
      marked_whole.parties.council.3,
    ) marked_whole)
    (at.is.logged.agrees.marks ∙ ap (λ (l : List Mark). reverse l) (sym (left_marks (EntersEra m.disks next) (closed_by (answer.Moved next.number) (cause.Moved next.number)) old middle plan.entered leaves)))
    (ap (λ (l : List Mark). EraEntered plan.entered next.number ∷ l) log.same_marks)
  where
    id : ℕ
    id = plan.entered

    log : EntersLog m at.is.cluster old id next at.is.logged.global
    log = enters_log m old id plan next at disks ((planned m old id plan next at).is_course.under_way.each id (known_in m old id plan next at))

    same_eras : middle.eras ≡ old.eras
    same_eras = ap (λ (c : Course). c.eras) (left_course (EntersEra m.disks next) (closed_by (answer.Moved next.number) (cause.Moved next.number)) old middle id leaves)

    whole : Whole m at.is.cluster log.after (record middle { eras = slice_set middle.eras id next })
    whole = subst (λ (l : List Era). Whole m at.is.cluster log.after (record middle { eras = slice_set l id next })) (sym same_eras)
        (left_whole m at.is.cluster log.after (record old { eras = slice_set old.eras id next }) id (EntersEra m.disks next) (answer.Moved next.number) (cause.Moved next.number) (record middle { eras = slice_set old.eras id next }) (closing_move next.number)
        log.rest log.callers log.own log.late (λ desk now c at_d at_c enters. log.quiet now desk at_d enters)
        (moved_round (EntersEra m.disks next) (closed_by (answer.Moved next.number) (cause.Moved next.number)) old middle id (slice_set old.eras id next) leaves))

    may : MayMarkEra log.after.log id next.number
    may = record { entered = log.entered; once = λ stands. unmarked m old id plan next at (subst (Stands (EraEntered id next.number)) log.same_marks stands) }

    marked_global : GlobalState
    marked_global = with_mark log.after (Marked (EraEntered id next.number))

    marked_whole : Whole m at.is.cluster marked_global (record middle { eras = slice_set middle.eras id next })
    marked_whole = whole_more m at.is.cluster log.after (record middle { eras = slice_set middle.eras id next }) (Marked (EraEntered id next.number)) (λ p. tt) (λ a. tt)
        (happens at.is.cluster whole.meets log.after whole.history (MarksEra id next.number may)) whole

-- what is to come is still to come, or was the next
later_of_next : (cluster : Cluster) (plan : PlanView) (next : Era) (b : Bool) (last_proposer : ℕ) (eras : List Era) (entries : List EraEntry) → entering plan.progress.left ≡ Some next
    → Follows plan.progress.era next
    → ((era : Era) → Contains (eras_in plan.progress.left) era → IsEraOf cluster era)
    → ((number : ℕ) → plan.progress.era.number + length (eras_in plan.progress.left) < number → IsNoEra cluster number)
    → IsCourse (course last_proposer eras (Some (if b then record plan { progress = record { era = next; left = rest_of plan.progress.left }; entered = 0; listing = None } else record plan { entered = suc plan.entered })) entries)
    → IsCourseOf cluster (course last_proposer eras (Some (if b then record plan { progress = record { era = next; left = rest_of plan.progress.left }; entered = 0; listing = None } else record plan { entered = suc plan.entered })) entries)
later_of_next cluster plan next false last_proposer eras entries is_next follows have beyond on = record { is_course = on; later = have; none_beyond = beyond }
later_of_next cluster plan next true last_proposer eras entries is_next follows have beyond on = record {
  is_course = on;
  later = λ era has_it. have era (after plan.progress.left is_next era has_it);
  none_beyond = λ number far. beyond number (omega (arith, far, follows.number, fewer plan.progress.left is_next));
}
  where
    after : (left : List PlanStep) → entering left ≡ Some next → (era : Era) → Contains (eras_in (rest_of left)) era → Contains (eras_in left) era
    after [] is era has_it = has_it
    after (Enter first ∷ left) is era has_it = contains_back (first ∷ []) (eras_in left) has_it
    after (Settle ∷ left) is era has_it = absurd (cc is)
    after (Finished ∷ left) is era has_it = absurd (cc is)

    fewer : (left : List PlanStep) → entering left ≡ Some next → length (eras_in left) ≡ suc (length (eras_in (rest_of left)))
    fewer [] is = absurd (cc is)
    fewer (Enter era ∷ left) is = refl
    fewer (Settle ∷ left) is = absurd (cc is)
    fewer (Finished ∷ left) is = absurd (cc is)

-- who is torn between two eras still is, since it did not enter the next
torn_still : {S V : Type 0} (m : Meaning S V) (old : View S V) (plan : PlanView) (next : Era) → (at : GoesNext m old plan.entered plan next) → (p : ℕ) (d : DeskView V) → (p ≡ plan.entered → ⊥)
    → IsAt old.desks p d
    → IsInEra m (course old.last_proposer (slice_set old.eras plan.entered next) (Some (plan_after old.last_proposer plan next)) (entries_in old.marks ++ record { proposer = plan.entered; era = next.number } ∷ [])) p d
torn_still {S} {V} m old plan next at p d other at_d = by_era (at.is.in_eras p d at_d).1
  where
    New : PlanView → Course
    New after = course old.last_proposer (slice_set old.eras plan.entered next) (Some after) (entries_in old.marks ++ record { proposer = plan.entered; era = next.number } ∷ [])

    same : era_in (slice_set old.eras plan.entered next) p ≡ era_in old.eras p
    same = era_kept old.eras plan.entered p next other

    by_era : IsInEra m (course_of old) p d → IsInEra m (New (plan_after old.last_proposer plan next)) p d
    by_era (inside within) = inside (subst (λ (e : Era). VaultKeepsEra m.disks e.number e.number d.vault) (sym same) within)
    by_era (torn plan_ next_ is_plan_ is_next_ in_base down none idle within) = by_last (plan.entered == old.last_proposer) refl
      where
        one : plan_ ≡ plan
        one = some_is (sym is_plan_ ∙ at.is_plan)

        base : era_in old.eras p ≡ plan.progress.era
        base = in_base ∙ ap (λ (q : PlanView). q.progress.era) one

        next_is : entering plan.progress.left ≡ Some next_
        next_is = ap next_era (sym at.is_plan) ∙ is_next_

        by_last : (b : Bool) → (plan.entered == old.last_proposer) ≡ b → IsInEra m (New (if b then record plan { progress = record { era = next; left = rest_of plan.progress.left }; entered = 0; listing = None } else record plan { entered = suc plan.entered })) p d
        by_last false is =
            torn (record plan { entered = suc plan.entered }) next_ refl next_is (same ∙ base) down none idle
            (subst (λ (e : Era). VaultKeepsEra m.disks e.number next_.number d.vault) (sym same) within)
        by_last true is = elim ((planned m old plan.entered plan next at).is_course.under_way.each p (at.is.in_eras p d at_d).0) [
          | not_yet few in_era ↦ absurd (omega (arith, few, other, nat_same is, (at.is.in_eras p d at_d).0))
          | entered there ↦ absurd (omega (arith, ap (λ (e : Era). e.number) (some_is (sym there ∙ at.is_next)), ap (λ (e : Era). e.number) base, (follows_next m old plan.entered plan next at).number))
        ]

enters_remembered : {S V : Type 0} (m : Meaning S V) (old : View S V) (plan : PlanView) (next : Era) (middle : View S V) → (at : GoesNext m old plan.entered plan next) → m.disks.tells
    → LeavesRound (EntersEra m.disks next) (closed_by (answer.Moved next.number) (cause.Moved next.number)) old plan.entered middle → IsFollowed m (entered_view middle plan next)
enters_remembered {S} {V} m old plan next middle at disks leaves = record {
  cluster = at.is.cluster;
  logged = enters_logged m old plan next middle at disks leaves;
  course = subst (IsCourseOf at.is.cluster) (sym is) (later_of_next at.is.cluster plan next (plan.entered == old.last_proposer) old.last_proposer (slice_set old.eras plan.entered next) entries at.is_next (follows_next m old plan.entered plan next at) on.later on.none_beyond
      (course_entered old.last_proposer old.eras plan (entries_in old.marks) next at.is_next on.is_course));
  in_eras = λ p d at_d. subst (λ (c : Course). (p ≤ c.last_proposer) × IsInEra m c p d) (sym is) (by_place p d (there leaves p d at_d));
}
  where
    entries : List EraEntry
    entries = entries_in old.marks ++ record { proposer = plan.entered; era = next.number } ∷ []

    on : IsCourseOf at.is.cluster (course old.last_proposer old.eras (Some plan) (entries_in old.marks))
    on = planned m old plan.entered plan next at

    is : course_of (entered_view middle plan next) ≡ course old.last_proposer (slice_set old.eras plan.entered next) (Some (plan_after old.last_proposer plan next)) entries
    is = enters_course m old middle plan next leaves

    -- it is the desk that changed, or another
    Changed : ℕ → DeskView V → Type 0
    Changed p d = ((p ≡ plan.entered) × EntersEra m.disks next at.desk d) ⊎ ((p ≡ plan.entered → ⊥) × IsAt old.desks p d)

    put : (desk now : DeskView V) → IsAt old.desks plan.entered desk → EntersEra m.disks next desk now → (p : ℕ) (d : DeskView V) → IsAt (slice_set old.desks plan.entered now) p d → Changed p d
    put desk now at_d enters p d at_p = elim (but_set old.desks plan.entered now p d at_p) [
      | inl own ↦ inl (own.0, subst (EntersEra m.disks next at.desk) (sym own.1) (subst (λ (x : DeskView V). EntersEra m.disks next x now) (at_one old.desks plan.entered at_d at.at_desk) enters))
      | inr other ↦ inr other
    ]

    there : LeavesRound (EntersEra m.disks next) (closed_by (answer.Moved next.number) (cause.Moved next.number)) old plan.entered middle → (p : ℕ) (d : DeskView V) → IsAt middle.desks p d
        → Changed p d
    there (stops.idle desk now at_d none enters view) p d at_p = put desk now at_d enters p d (subst (λ (w : View S V). IsAt w.desks p d) view at_p)
    there (stops.closes desk now round of at_d is_round enters view) p d at_p = put desk now at_d enters p d (subst (λ (w : View S V). IsAt w.desks p d) view at_p)

    by_place : (p : ℕ) (d : DeskView V) → Changed p d
        → (p ≤ old.last_proposer) × IsInEra m (course old.last_proposer (slice_set old.eras plan.entered next) (Some (plan_after old.last_proposer plan next)) entries) p d
    by_place p d (inl own) =
        subst (λ (q : ℕ). (q ≤ old.last_proposer) × IsInEra m (course old.last_proposer (slice_set old.eras plan.entered next) (Some (plan_after old.last_proposer plan next)) entries) q d)
        (sym own.0) (
          known_in m old plan.entered plan next at,
          inside (subst (λ (e : Era). VaultKeepsEra m.disks e.number e.number d.vault)
              (sym (era_set old.eras plan.entered next (omega (arith, known_in m old plan.entered plan next at, at.is.course.is_course.few, at.is.course.is_course.places)))) (own.1.in_era disks)),
        )
    by_place p d (inr other) = ((at.is.in_eras p d other.1).0, torn_still m old plan next at p d other.0 other.1)

-- ---- the operator is told something
pub tells_remembered : {S V : Type 0} (m : Meaning S V) (old : View S V) (answer : OpAnswer) → IsFollowed m old → IsFollowed m (told_view old answer)
tells_remembered m old answer is =
    same_course m old (told_view old answer) refl (council.counsels_by m old _ refl is.logged is.logged.agrees.council.1 is.logged.agrees.council.2 is.logged.agrees.council.3) is.course is.in_eras

-- its vault failed
fails_remembered : {S V : Type 0} (m : Meaning S V) (old : View S V) (plan : PlanView) (next : Era) (middle : View S V) → (at : GoesNext m old plan.entered plan next) → m.disks.tells
    → GoesDown (FailsToEnter m.disks next) old plan.entered middle → IsFollowed m middle
fails_remembered {S} {V} m old plan next middle at disks down =
    same_course m old middle (down_course (FailsToEnter m.disks next) old middle plan.entered down)
    (down_logged m old plan.entered (FailsToEnter m.disks next) middle (λ desk now fails. (fails.crashed, record { still_past = fails.still_past disks; ages = fails.ages disks })) at.is.logged down) at.is.course
    (down_in m (course_of old) (FailsToEnter m.disks next) old middle plan.entered (λ desk now at_d fails. in_era desk now fails (at.is.in_eras plan.entered desk at_d).1) down at.is.in_eras)
  where
    works : WorksIn plan plan.entered (era_at old plan.entered)
    works = (planned m old plan.entered plan next at).is_course.under_way.each plan.entered (known_in m old plan.entered plan next at)

    in_era : (desk now : DeskView V) → FailsToEnter m.disks next desk now → IsInEra m (course_of old) plan.entered desk → IsInEra m (course_of old) plan.entered now
    in_era desk now fails (torn plan_ next_ is_plan is_next in_base was_down none idle within) = absurd (cc (was_down, fails.up))
    in_era desk now fails (inside within) = by_era works (fails.torn disks (era_at old plan.entered).number within)
      where
        by_era : WorksIn plan plan.entered (era_at old plan.entered) → VaultKeepsEra m.disks (era_at old plan.entered).number next.number now.vault → IsInEra m (course_of old) plan.entered now
        by_era (not_yet few in_base) left =
            torn plan next at.is_plan (ap next_era at.is_plan ∙ at.is_next) in_base (ap (λ (d : DeskView V). d.down) fails.crashed) (ap (λ (d : DeskView V). d.cache) fails.crashed)
            (ap (λ (d : DeskView V). d.round) fails.crashed) left
        by_era (entered there) left =
            inside (subst (λ (n : ℕ). VaultKeepsEra m.disks (era_at old plan.entered).number n now.vault) (ap (λ (e : Era). e.number) (some_is (sym at.is_next ∙ there))) left)

enters : {S V : Type 0} (m : Meaning S V) (old : View S V) (id : ℕ) (new : View S V) → m.disks.tells → IsFollowed m old → StepEnterEra m old id new → IsFollowed m new
enters {S} {V} m old id new disks is by = by_case by.enters
  where
    at : GoesNext m old by.plan.entered by.plan by.next
    at = record { is = is; is_plan = by.may.is_plan; is_next = ap next_era (sym by.may.is_plan) ∙ by.may.is_next; desk = by.desk; caller = by.may.caller; at_desk = by.may.at_desk; at_caller = by.may.at_caller }

    by_case : EntersNext m old by.plan by.next by.desk new → IsFollowed m new
    by_case (plans.enters middle room leaves view) = subst (IsFollowed m) (sym view) (enters_remembered m old by.plan by.next middle at disks leaves)
    by_case (plans.is_full full view) = subst (IsFollowed m) (sym view) (tells_remembered m old _ is)
    by_case (plans.is_down room down view) = subst (IsFollowed m) (sym view) (tells_remembered m old _ is)
    by_case (plans.fails middle room down view) = subst (IsFollowed m) (sym view) (tells_remembered m middle _ (fails_remembered m old by.plan by.next middle at disks down))
    by_case (plans.no_memory now room up kept now_is view) = subst (IsFollowed m) (sym view) (tells_remembered m (with_desk old by.plan.entered now) _
        (same_course m old (with_desk old by.plan.entered now) refl
        (logged m is.cluster is.logged.global (with_desk old by.plan.entered now) (revaulted m is.cluster is.logged.global old by.plan.entered by.desk now by.may.at_desk
        (now_is ∙ ap (λ (b : Bool). record by.desk { vault = now.vault; down = b }) (sym (ap (λ (d : DeskView V). d.down) now_is))) (lasts disks kept.goes_on) (whole_of m old is.logged)) is.logged.agrees.marks)
        is.course (one_changed m (course_of old) _ _ by.plan.entered _ _ refl by.may.at_desk (up_kept m.disks disks up kept.goes_on) is.in_eras)))

-- ---- a change of membership is at its end
finishes : {S V : Type 0} (m : Meaning S V) (old : View S V) (asked : Asked) (answer : OpAnswer) (plan : PlanView) → IsFollowed m old → old.council.plan ≡ Some plan → plan.progress.left ≡ []
    → IsFollowed m (with_council old (record old.council { plan = None }))
finishes {S} {V} m old asked answer plan is is_plan none = record {
  cluster = is.cluster;
  logged = council.counsels_by m old _ refl is.logged tt is.logged.agrees.council.2 is.logged.agrees.council.3;
  course = record {
    is_course = course_finished old.last_proposer old.eras (entries_in old.marks) plan none on.is_course;
    later = λ era none_left. absurd (contains_none none_left);
    none_beyond = λ number far. on.none_beyond number (omega (arith, far, ap (λ (l : List PlanStep). length (eras_in l)) none, ap (λ (e : Era). e.number) base));
  };
  in_eras = λ p d at_d. ((is.in_eras p d at_d).0, by_era p d (is.in_eras p d at_d).1);
}
  where
    on : IsCourseOf is.cluster (course old.last_proposer old.eras (Some plan) (entries_in old.marks))
    on = subst (λ (o : Option PlanView). IsCourseOf is.cluster (course old.last_proposer old.eras o (entries_in old.marks))) is_plan is.course

    base : era_in old.eras 0 ≡ plan.progress.era
    base = elim (on.is_course.under_way.each 0 (omega arith)) [
      | not_yet few in_base ↦ in_base
      | entered there ↦ absurd (cc (there, ap entering none))
    ]

    by_era : (p : ℕ) (d : DeskView V) → IsInEra m (course_of old) p d → IsInEra m (course old.last_proposer old.eras None (entries_in old.marks)) p d
    by_era p d (inside within) = inside within
    by_era p d (torn plan_ next is_plan_ is_next in_base down no_promise idle within) = absurd (cc (is_next, ap next_era is_plan, ap entering none))

-- ---- the change of membership goes on, and all else stays
-- with another plan
record Carries {S V : Type 0} (m : Meaning S V) (cluster : Cluster) (old : View S V) (plan next : PlanView) : Type 0 where
  on_course : IsCourseOf cluster (course old.last_proposer old.eras (Some plan) (entries_in old.marks)) → IsCourseOf cluster (course old.last_proposer old.eras (Some next) (entries_in old.marks))
  in_era : (id : ℕ) (desk : DeskView V) → IsInEra m (course old.last_proposer old.eras (Some plan) (entries_in old.marks)) id desk
      → IsInEra m (course old.last_proposer old.eras (Some next) (entries_in old.marks)) id desk

carried : {S V : Type 0} (m : Meaning S V) {cluster : Cluster} (old new : View S V) (plan next : PlanView) → old.council.plan ≡ Some plan
    → course_of new ≡ course old.last_proposer old.eras (Some next) (entries_in old.marks)
    → Carries m cluster old plan next → IsLogged m cluster new → IsCourseOf cluster (course_of old) → AreIn m (course_of old) new.desks → IsFollowed m new
carried {S} {V} m {cluster} old new plan next is_plan same by log on desks = record {
  cluster = cluster;
  logged = log;
  course = subst (IsCourseOf cluster) (sym same) (by.on_course (subst (λ (p : Option PlanView). IsCourseOf cluster (course old.last_proposer old.eras p (entries_in old.marks))) is_plan on));
  in_eras = λ id desk at. subst (λ (of : Course). (id ≤ of.last_proposer) × IsInEra m of id desk) (sym same)
      ((desks id desk at).0, by.in_era id desk (subst (λ (p : Option PlanView). IsInEra m (course old.last_proposer old.eras p (entries_in old.marks)) id desk) is_plan (desks id desk at).1));
}

-- other keys are listed or proposed anew
relists : {S V : Type 0} (m : Meaning S V) (cluster : Cluster) (old : View S V) (plan : PlanView) (count : ℕ) (listing : Option ListingView)
    → Carries m cluster old plan (record plan { rescanned = count; listing = listing })
relists {S} {V} m cluster old plan count listing = record {
  on_course = λ on. record { is_course = course_relisted old.last_proposer old.eras plan (entries_in old.marks) count listing on.is_course; later = on.later; none_beyond = on.none_beyond };
  in_era = in_era;
}
  where
    in_era : (id : ℕ) (desk : DeskView V) → IsInEra m (course old.last_proposer old.eras (Some plan) (entries_in old.marks)) id desk
        → IsInEra m (course old.last_proposer old.eras (Some (record plan { rescanned = count; listing = listing })) (entries_in old.marks)) id desk
    in_era id desk (inside within) = inside within
    in_era id desk (torn other next is_plan is_next in_base down none idle within) =
        torn (record plan { rescanned = count; listing = listing }) next refl is_next (in_base ∙ ap (λ (p : PlanView). p.progress.era) (sym (some_is is_plan))) down none idle within

-- its first step, which is to settle, is done
steps_on : {S V : Type 0} (m : Meaning S V) (cluster : Cluster) (old : View S V) (plan : PlanView) → next_of plan.progress.left ≡ Settle → Carries m cluster old plan (stepped plan)
steps_on {S} {V} m cluster old plan settles = record {
  on_course = λ on. record {
    is_course = course_stepped old.last_proposer old.eras plan (entries_in old.marks) settles on.is_course;
    later = λ era among. on.later era (subst (λ (l : List Era). Contains l era) (same_eras plan.progress.left settles) among);
    none_beyond = λ number far. on.none_beyond number (subst (λ (l : List Era). plan.progress.era.number + length l < number) (same_eras plan.progress.left settles) far);
  };
  in_era = in_era;
}
  where
    same_eras : (left : List PlanStep) → next_of left ≡ Settle → eras_in (drop 1 left) ≡ eras_in left
    same_eras [] is = absurd (cc is)
    same_eras (Settle ∷ left) is = refl
    same_eras (Enter era ∷ left) is = absurd (cc is)
    same_eras (Finished ∷ left) is = absurd (cc is)

    in_era : (id : ℕ) (desk : DeskView V) → IsInEra m (course old.last_proposer old.eras (Some plan) (entries_in old.marks)) id desk
        → IsInEra m (course old.last_proposer old.eras (Some (stepped plan)) (entries_in old.marks)) id desk
    in_era id desk (inside within) = inside within
    in_era id desk (torn other next is_plan is_next in_base down none idle within) = absurd (cc (is_next, settle_enters plan.progress.left settles))

lists_on : {S V : Type 0} (m : Meaning S V) (cluster : Cluster) (old : View S V) (plan : PlanView) (listing : ListingView) → next_of plan.progress.left ≡ Settle
    → Carries m cluster old plan (with_listing plan listing)
lists_on {S} {V} m cluster old plan listing settles = by_test (listing.complete && (length listing.keys == 0))
  where
    by_test : (b : Bool) → Carries m cluster old plan (if b then stepped plan else record plan { listing = Some listing })
    by_test true = steps_on m cluster old plan settles
    by_test false = relists m cluster old plan plan.rescanned (Some listing)

-- the call is over
over : {S V : Type 0} (m : Meaning S V) (old : View S V) (asked : Asked) (answer : OpAnswer) → IsFollowed m old → IsFollowed m (told_over old asked answer)
over {S} {V} m old asked answer is = by_plan old.council.plan refl
  where
    log : IsLogged m is.cluster (told_over old asked answer)
    log = council.ends_told m old asked answer is.logged

    by_plan : (plan : Option PlanView) → old.council.plan ≡ plan → IsFollowed m (told_over old asked answer)
    by_plan None none =
        same_course m old (told_over old asked answer)
        (told_course old asked answer ∙ ap (λ (p : Option PlanView). course old.last_proposer old.eras (option_map without_partial p) (entries_in old.marks)) none
        ∙ sym (ap (λ (p : Option PlanView). course old.last_proposer old.eras p (entries_in old.marks)) none)) log is.course is.in_eras
    by_plan (Some plan) is_plan = carried m old (told_over old asked answer) plan (without_partial plan) is_plan
        (told_course old asked answer ∙ ap (λ (p : Option PlanView). course old.last_proposer old.eras (option_map without_partial p) (entries_in old.marks)) is_plan)
        (relists m is.cluster old plan plan.rescanned (complete_only plan.listing)) log is.course is.in_eras

-- ---- an era is settled
-- what is so of the cluster then
settling : {S V : Type 0} (m : Meaning S V) (old : View S V) (plan : PlanView) → IsFollowed m old → old.council.plan ≡ Some plan → next_of plan.progress.left ≡ Settle
    → AtSettle old.last_proposer old.eras plan (entries_in old.marks)
settling m old plan is is_plan settles =
    at_settle old.last_proposer old.eras plan (entries_in old.marks) settles
    (subst (λ (p : Option PlanView). IsCourse (course old.last_proposer old.eras p (entries_in old.marks))) is_plan is.course.is_course)

-- all are asked for their next keys
asks_keys : {S V : Type 0} (m : Meaning S V) (old : View S V) (places : List MemberPlace) (new : View S V) → m.disks.tells → IsFollowed m old → StepAskAll m old (NextKeys places) new
    → IsFollowed m new
asks_keys {S} {V} m old places new disks is by = by_case by.asks
  where
    due : told_by.IsDueToList (told_by.everyone old) old.council by.may.order.asked places
    due = by.may.is_for.1

    ready : (plan : PlanView) → old.council.plan ≡ Some plan → next_of plan.progress.left ≡ Settle → council.IsReadyToList is.cluster is.logged.global.log old plan
    ready plan is_plan settles =
        let at = settling m old plan is is_plan settles in
        record {
          in_base = ap (λ (e : Era). e.number) (at.in_base 0 (omega arith));
          entered = λ proposer known. subst (Stands (EraEntered proposer plan.progress.era.number)) (sym is.logged.agrees.marks)
              (entry_stands old.marks proposer plan.progress.era.number (at.all proposer (omega (arith, known, is.logged.agrees.last_proposer))));
        }

    log : IsLogged m is.cluster new
    log = council.asks_all m old (NextKeys places) new disks is.logged ready by

    desks : AreIn m (course_of old) new.desks
    desks = ask_in m (course_of old) old new (NextKeys places) disks by is.in_eras

    by_case : told_by.AsksAll m old (NextKeys places) by.desk new → IsFollowed m new
    by_case (told_by.asks now tag flow up room tagged now_is sends view) =
        carried m old new due.plan (told_by.listing_begun places tag due.plan) due.is_plan
        (ap course_of view ∙ ap (λ (p : Option PlanView). course old.last_proposer old.eras (option_map (told_by.listing_begun places tag) p) (entries_in old.marks)) due.is_plan)
        (relists m is.cluster old due.plan due.plan.rescanned (Some (told_by.begun_listing places tag due.plan.listing))) log is.course desks
    by_case (told_by.is_down down view) = same_course m old new (ap course_of view) log is.course desks
    by_case (told_by.is_full up full view) = same_course m old new (ap course_of view) log is.course desks
    by_case (told_by.is_spent now up spent kept now_is view) = same_course m old new (ap course_of view) log is.course desks
    by_case (told_by.fails now up fails view) = same_course m old new (ap course_of view) log is.course desks
    by_case (told_by.no_memory now tag up loses view) = same_course m old new (ap course_of view) log is.course desks

-- what they told is gathered
gathers : {S V : Type 0} (m : Meaning S V) (old : View S V) (new : View S V) → IsFollowed m old → StepGather old new → IsFollowed m new
gathers {S} {V} m old new is by = by_case by.gathers
  where
    known : council.ListsKnown is.cluster is.logged.global.log old by.at.exchange
    known of listing on =
        let plan_known = subst (IsPlanTrue is.cluster is.logged.global.log) of.is_plan is.logged.agrees.council.1 in
        let at = settling m old of.plan is of.is_plan of.settles in
        let exchange = is.logged.agrees.council.0 by.at.exchange by.at.is_open in
        known_listed is.cluster is.logged.global.log of.plan listing plan_known
        (listing_on is.cluster is.logged.global.log of.plan.progress.era.number (era_at old 0) by.at.exchange.told by.at.exchange.tag by.at.exchange.question of.listing listing is.logged.history.orderly
        (λ members holds. subst (λ (e : Era). is.cluster.accepts e.number members ≡ true) (at.in_base 0 (omega arith)) ((is.logged.agrees.eras 0 (omega arith)).accepts members ∙ holds))
        exchange.told of.tag of.question on (plan_known.listing of.listing of.is_listing))

    log : IsLogged m is.cluster new
    log = council.gathers m old new is.logged by known

    desks : AreIn m (course_of old) new.desks
    desks = gather_in m (course_of old) old new by is.in_eras

    by_case : told_by.Gathers old by.at.exchange new → IsFollowed m new
    by_case (told_by.crashed down view) = same_course m old new (ap course_of view) log is.course desks
    by_case (told_by.probed key found up question plain keeps view) = same_course m old new (ap course_of view) log is.course desks
    by_case (told_by.read key era found marks up question reads keeps counts view) =
        same_course m old new
        (ap course_of view ∙ quiet (told_by.gathered old (Probed key found)) marks (read_quietly era key by.at.exchange.told (reverse old.marks) marks counts)) log is.course desks
    by_case (told_by.lists of listing up enough on view) =
        carried m old new of.plan (with_listing of.plan listing) of.is_plan (ap course_of view) (lists_on m is.cluster old of.plan listing of.settles) log is.course desks
    by_case (told_by.is_short of short up missing view) = same_course m old new (ap course_of view) log is.course desks
    by_case (told_by.no_memory up view) = same_course m old new (ap course_of view) log is.course desks

-- a key is proposed anew
is_done_true : (log : List Happening) (all : List Made) (id number : ℕ) (told : Answer) → is_done told ≡ true → IsToldTrue log all id number told
    → (state : State) × (took : Took) × (ballot : Ballot) × IsDoneTrue log all id number state took ballot
is_done_true log all id number (answer.Done state took ballot) done is = (state, took, ballot, is)
is_done_true log all id number told done is = absurd (cc done)

ends : {S V : Type 0} (m : Meaning S V) (old : View S V) (id : ℕ) (told : Answer) (new : View S V) → m.disks.tells → IsFollowed m old → StepEnd m old id told new → IsFollowed m new
ends {S} {V} m old id told new disks is by = by_case by.ends.rescans
  where
    at : OpenCallAt old id
    at = by.of_call

    mark : Happening
    mark = Marked (Ended id at.caller.number at.call.rounds told)

    desks : AreIn m (course_of old) new.desks
    desks = end_in m (course_of old) old new id told disks by is.in_eras

    later : (plan : Option PlanView) → IsPlanTrue is.cluster is.logged.global.log plan → IsPlanTrue is.cluster (mark ∷ is.logged.global.log) plan
    later plan known = plan_still is.cluster mark is.logged.global.log plan (λ key floor state now. absurd (cc now)) known

    logged_with : (plan : Option PlanView) → by.ends.council.plan ≡ plan → by.ends.council.exchange ≡ old.council.exchange → IsPlanTrue is.cluster is.logged.global.log plan → IsLogged m is.cluster new
    logged_with plan same exchange known = ends_logged m old id told new disks is.logged by (subst (IsPlanTrue is.cluster (mark ∷ is.logged.global.log)) (sym same) (later plan known)) exchange

    anew : (of : IsRescan old.council id at.call.key) → is_done told ≡ true → IsRescanned is.cluster of.plan.progress.era.number at.call.key (marks_of is.logged.global.log)
    anew of is_done_now =
        let caller_true = is.logged.agrees.callers id at.caller at.at_caller in
        let call_true = caller_true.call at.call at.is_open in
        let done = is_done_true is.logged.global.log is.logged.global.made id at.caller.number told is_done_now (call_true.told told by.ends.told) in
        let settle = settling m old of.plan is of.is_plan of.settles in
        let known = subst (IsPlanTrue is.cluster is.logged.global.log) of.is_plan is.logged.agrees.council.1 in
        let desk = is.logged.agrees.desks id by.ends.desk at.caller by.ends.at_desk at.at_caller in
        let beyond : Stands (Entered 0 (suc of.plan.progress.era.number)) is.logged.global.log → ⊥ =
        subst (λ (e : Era). Stands (Entered 0 (suc e.number)) is.logged.global.log → ⊥) (settle.in_base 0 (omega arith)) (subst (λ (n : ℕ). Stands (Entered n (suc (era_at old n).number)) is.logged.global.log → ⊥) of.by_operator desk.vault.not_beyond) in
        rescan_of is.cluster is.logged.global of.plan.progress.era.number at.caller.number at.call done.0 done.1 done.2 of.listing is.logged.history
        (subst (λ (n : ℕ). IsCallTrue is.logged.global.log is.logged.global.made n at.caller.number at.call) of.by_operator call_true)
        (subst (λ (n : ℕ). IsDoneTrue is.logged.global.log is.logged.global.made n at.caller.number done.0 done.1 done.2) of.by_operator done.3)
        (known.listing of.listing of.is_listing) beyond

    by_case : Rescans old.council id at.call.key told by.ends.council → IsFollowed m new
    by_case (calls.is_none none same) = same_course m old new (end_course m old new id told by ∙ ap (λ (c : Council). course old.last_proposer old.eras c.plan (entries_in old.marks)) same)
        (logged_with old.council.plan (ap (λ (c : Council). c.plan) same) (ap (λ (c : Council). c.exchange) same) is.logged.agrees.council.1) is.course desks
    by_case (calls.stops of undone same) = same_course m old new (end_course m old new id told by ∙ ap (λ (c : Council). course old.last_proposer old.eras c.plan (entries_in old.marks)) same)
        (logged_with old.council.plan (ap (λ (c : Council). c.plan) same) (ap (λ (c : Council). c.exchange) same) is.logged.agrees.council.1) is.course desks
    by_case (calls.rescans of done same) =
        let known = subst (IsPlanTrue is.cluster is.logged.global.log) of.is_plan is.logged.agrees.council.1 in
        let counted : PlanView = record of.plan { rescanned = one_more of.plan.rescanned } in
        let listing : ListingView = record of.listing { keys = drop 1 of.listing.keys } in
        let first = relists m is.cluster old of.plan (one_more of.plan.rescanned) of.plan.listing in
        let then_ = lists_on m is.cluster old counted listing of.settles in
        carried m old new of.plan (rescanned_by of.plan of.listing) of.is_plan
        (end_course m old new id told by ∙ ap (λ (c : Council). course old.last_proposer old.eras c.plan (entries_in old.marks)) same)
        (record { on_course = λ on. then_.on_course (first.on_course on); in_era = λ p desk in_it. then_.in_era p desk (first.in_era p desk in_it) })
        (logged_with (Some (rescanned_by of.plan of.listing)) (ap (λ (c : Council). c.plan) same) (ap (λ (c : Council). c.exchange) same)
        (known_listed is.cluster is.logged.global.log counted listing (record { settled = known.settled; listing = known.listing })
        (listing_rescanned is.cluster is.logged.global.log of.plan.progress.era.number of.listing at.call.key of.first (anew of done) (known.listing of.listing of.is_listing)))) is.course desks

tells : {S V : Type 0} (m : Meaning S V) (old : View S V) (answer : OpAnswer) (new : View S V) → IsFollowed m old → StepTell old answer new → IsFollowed m new
tells {S} {V} m old answer new is (told_by.tells order said is_open told same view) = subst (IsFollowed m) (sym view) (over m old order.asked answer is)
tells {S} {V} m old answer new is (told_by.collects order is_open by view) = subst (IsFollowed m) (sym view) (over m old order.asked answer is)
tells {S} {V} m old answer new is (told_by.finishes order is_open by view) =
    subst (IsFollowed m) (sym view) (over m _ order.asked answer (finishes m old order.asked answer by.plan is by.is_plan by.none_left))

-- ---- calls that do not lead on
quietly : {S V : Type 0} (m : Meaning S V) (old : View S V) (event : Event) (new : View S V) → m.shelves.tells → m.disks.tells → IsPlain event → AreRenewed m old → IsFollowed m old
    → Step m old event new → Leads event ⊎ IsFollowed m new
quietly m old event new shelves disks plain renewed is by = elim (keeps_log m old event new shelves disks plain renewed is.logged by) [
  | inl leads ↦ inl leads
  | inr log ↦ elim (on_course m old new event by) [
    | inl leads ↦ inl leads
    | inr same ↦ elim (desks_in m (course_of old) old new event disks plain by is.in_eras) [
      | inl leads ↦ inl leads
      | inr desks ↦ inr (same_course m old new same log is.course desks)
    ]
  ]
]

-- ---- a change of membership begins
-- an acceptor that joins is started, or stays down
welcomed : {S V : Type 0} (m : Meaning S V) (old middle : View S V) (asked : Asked) → m.shelves.tells → m.disks.tells → AreRenewed m old → IsFollowed m old → Welcomes m old asked middle
    → IsFollowed m middle
welcomed {S} {V} m old middle asked shelves disks renewed is by = by_case by
  where
    restarted : (id : ℕ) → Step m old (step.RestartAcceptor id) middle → IsFollowed m middle
    restarted id by = elim (quietly m old (step.RestartAcceptor id) middle shelves disks tt renewed is by) [
      | inl none ↦ absurd none
      | inr done ↦ done
    ]

    by_case : Welcomes m old asked middle → IsFollowed m middle
    by_case (plans.starts id acceptor now joins at starts view) = restarted id (step.starts acceptor now at starts view)
    by_case (plans.fails id acceptor now joins at fails view) = restarted id (step.fails acceptor now at fails view)
    by_case (plans.is_up id acceptor joins at up view) = subst (IsFollowed m) (sym view) is
    by_case (plans.stays joins_none view) = subst (IsFollowed m) (sym view) is

welcome_council : {S V : Type 0} (m : Meaning S V) (old middle : View S V) (asked : Asked) → Welcomes m old asked middle → middle.council ≡ old.council
welcome_council {S} {V} m old middle asked (plans.starts id acceptor now joins at starts view) = ap (λ (w : View S V). w.council) view
welcome_council {S} {V} m old middle asked (plans.fails id acceptor now joins at fails view) = ap (λ (w : View S V). w.council) view
welcome_council {S} {V} m old middle asked (plans.is_up id acceptor joins at up view) = ap (λ (w : View S V). w.council) view
welcome_council {S} {V} m old middle asked (plans.stays joins_none view) = ap (λ (w : View S V). w.council) view

opens : {S V : Type 0} (m : Meaning S V) (old : View S V) (new : View S V) → m.shelves.tells → m.disks.tells → AreRenewed m old → IsFollowed m old → StepOpenPlan m old new → IsFollowed m new
opens {S} {V} m old new shelves disks renewed is by = by_case by.opens
  where
    by_case : OpensPlan m old by.order.asked by.desk new → IsFollowed m new
    by_case (plans.is_down down view) = subst (IsFollowed m) (sym view) (tells_remembered m old _ is)
    by_case (plans.is_busy plan up busy view) = subst (IsFollowed m) (sym view) (tells_remembered m old _ is)
    by_case (plans.refuses fault up none planned view) = subst (IsFollowed m) (sym view) (tells_remembered m old _ is)
    by_case (plans.opens progress middle up none planned welcomes view) = subst (IsFollowed m) (sym view)
        (plan_opened m middle by.order.asked progress (record (hushed middle.council) { plan = Some (plans.new_plan by.order.asked progress); used = plans.used_with by.order.asked middle.council.used })
        refl refl refl (ap (λ (c : Council). c.collection) (welcome_council m old middle by.order.asked welcomes) ∙ by.none_collected)
        (ap (λ (c : Council). c.plan) (welcome_council m old middle by.order.asked welcomes) ∙ none)
        (subst (λ (c : Council). IsPlanned (era_at middle 0) c.used by.order.asked (Ok progress)) (sym (welcome_council m old middle by.order.asked welcomes))
        (subst (λ (c : Course). IsPlanned (era_in c.eras 0) old.council.used by.order.asked (Ok progress)) (sym (welcome_course m old middle by.order.asked welcomes)) planned))
        (welcomed m old middle by.order.asked shelves disks renewed is welcomes))
    by_case (plans.no_memory progress middle up none planned welcomes view) =
        subst (IsFollowed m) (sym view) (tells_remembered m middle _ (welcomed m old middle by.order.asked shelves disks renewed is welcomes))

-- ---- all of them
led : {S V : Type 0} (m : Meaning S V) (old : View S V) (event : Event) (new : View S V) → m.shelves.tells → m.disks.tells → IsPlain event → AreRenewed m old → IsFollowed m old → Leads event
    → Step m old event new → IsFollowed m new
led m old (step.RestartProposer id) new shelves disks plain renewed is leads by = restarts m old id new disks is by
led m old (step.End id told) new shelves disks plain renewed is leads by = ends m old id told new disks is by
led m old (step.AskAll (NextKeys places)) new shelves disks plain renewed is leads by = asks_keys m old places new disks is by
led m old step.Gather new shelves disks plain renewed is leads by = gathers m old new is by
led m old (step.Tell answer) new shelves disks plain renewed is leads by = tells m old answer new is by
led m old step.OpenPlan new shelves disks plain renewed is leads by = opens m old new shelves disks renewed is by
led m old (step.EnterEra id) new shelves disks plain renewed is leads by = enters m old id new disks is by
led m old (step.EndCollect answer) new shelves disks plain renewed is leads by = absurd plain
led m old event new shelves disks plain renewed is none by = absurd none

-- whatever is called but what belongs to a collection
pub follows : {S V : Type 0} (m : Meaning S V) (old : View S V) (event : Event) (new : View S V) → m.shelves.tells → m.disks.tells → IsPlain event → AreRenewed m old → IsFollowed m old
    → Step m old event new → IsFollowed m new
follows m old event new shelves disks plain renewed is by = elim (quietly m old event new shelves disks plain renewed is by) [
  | inl leads ↦ led m old event new shelves disks plain renewed is leads by
  | inr done ↦ done
]

pub plainly : {S V : Type 0} (m : Meaning S V) (old : View S V) (event : Event) (new : View S V) → m.shelves.tells → m.disks.tells → IsPlain event → IsRemembered m old → Step m old event new
    → IsRemembered m new
plainly m old event new shelves disks plain is by = record {
  followed = follows m old event new shelves disks plain is.renewed is.followed by;
  renewed = renews_on m old event new disks plain by is.renewed;
}

-- ---- parts of calls
-- a desk crashes
crashed_followed : {S V : Type 0} (m : Meaning S V) (old : View S V) (id : ℕ) (new : View S V) → m.disks.tells → IsFollowed m old → CrashesDesk m old id new → IsFollowed m new
crashed_followed m old id new disks is by =
    same_course m old new (left_course (Crashes m.disks) closed_by_crash old new id by)
    (crashed_logged m old id (Crashes m.disks) new (λ desk now crash. (crash.crashed, lasts disks crash.goes_on)) is.logged by) is.course
    (left_in m (course_of old) (Crashes m.disks) closed_by_crash old new id (λ desk now at crash. kept_in m (course_of old) id (crash_kept m.disks disks crash) (is.in_eras id desk at).1) by is.in_eras)

-- an exchange, if one is open, is broken off
broken_followed : {S V : Type 0} (m : Meaning S V) (old : View S V) → IsFollowed m old → IsFollowed m (broken_off_view old)
broken_followed m old is = same_course m old (broken_off_view old) refl (council.breaks_off m old is.logged) is.course is.in_eras

pub crashed_desk : {S V : Type 0} (m : Meaning S V) (old : View S V) (id : ℕ) (new : View S V) → m.disks.tells → IsRemembered m old → CrashesDesk m old id new → IsRemembered m new
crashed_desk m old id new disks is by = record {
  followed = crashed_followed m old id new disks is.followed by;
  renewed = left_renewed m old new id (Crashes m.disks) closed_by_crash (λ desk now crash. crash_above m.disks desk now disks crash) by is.renewed;
}

pub broken_off : {S V : Type 0} (m : Meaning S V) (old : View S V) → IsRemembered m old → IsRemembered m (broken_off_view old)
broken_off m old is = record { followed = broken_followed m old is.followed; renewed = is.renewed }

pub told_remembered : {S V : Type 0} (m : Meaning S V) (old : View S V) (answer : OpAnswer) → IsRemembered m old → IsRemembered m (told_view old answer)
told_remembered m old answer is = record { followed = tells_remembered m old answer is.followed; renewed = is.renewed }
