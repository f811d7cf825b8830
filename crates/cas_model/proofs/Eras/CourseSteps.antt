-- A cluster stays on its course, whatever is called on it.
use Rattle.std.proofs.Common.{◌≡◌, ℕ, List, [], ◌∷◌, ◌++◌, Option, None, Some, sym, ap, subst, ◌∙◌, inl, inr}
use Rattle.std.specs.Prelude.{drop, option_map, Bool, true, false, if◌then◌else◌, slice_set, reverse}
use Rattle.cas_quorum.specs.declared.era.Era.{Era}
use Rattle.cas_vault.specs.Vault.{kept_of}
use Rattle.cas_record.specs.declared.answer.Answer.{Answer}
use Rattle.cas_record.specs.declared.answer.Answer.TheVariants as answer
use Rattle.cas_record.specs.declared.answer.Cause.TheVariants as cause
use Rattle.cas_record.specs.declared.mark.Mark.TheVariants.{EraEntered}
use Rattle.cas_record.specs.declared.operator.Asked.{Asked}
use Rattle.cas_record.specs.declared.operator.OpAnswer.{OpAnswer}
use Rattle.cas_record.specs.declared.operator.OpAnswer.TheVariants.{Probed}
use Rattle.cas_model.specs.Council.{MemberPlace, NextKeys, PlanView, Council, complete_only, without_partial}
use Rattle.cas_model.specs.Eras.Course.{EraEntry, Course, course_of, entries_in, next_era, era_shown, IsCourse}
use Rattle.cas_model.specs.Step as step
use Rattle.cas_model.specs.Step.{Event, Step, StepEnd, StepRestartProposer}
use Rattle.cas_model.specs.Calls.Step as calls
use Rattle.cas_model.specs.Calls.Step.{one_more}
use Rattle.cas_model.specs.Exchanges.Step as told_by
use Rattle.cas_model.specs.Exchanges.Step.{StepTell, StepAskAll, StepGather, told_over, with_council}
use Rattle.cas_model.specs.Calls.Desks.{EntersEra, FailsToEnter}
use Rattle.cas_model.specs.Eras.Step as plans
use Rattle.cas_model.specs.Eras.Step.{StepOpenPlan, OpensPlan, StepEnterEra, EntersNext, Welcomes, plan_after, entered_view}
use Rattle.cas_model.specs.Stops.Step.{closed_by, LeavesRound}
use Rattle.cas_model.specs.View.{Meaning, View, era_at, with_desk}
use Rattle.cas_model.proofs.Eras.Courses.{course, course_shown, course_opened, course_finished, course_entered, course_relisted, course_listed}
use Rattle.cas_model.proofs.Eras.OnCourse.{Leads, on_course, left_course, down_course, told_course, end_course, entries_joined, quiet, read_quietly}
use Rattle.cas_model.proofs.Eras.Plans.{planned_starts, planned_meets}

-- ---- calls that lead on
restart_on : {S V : Type 0} (m : Meaning S V) (old new : View S V) (id : ℕ) → StepRestartProposer m old id new → IsCourse (course_of old) → IsCourse (course_of new)
restart_on {S} {V} m old new id (step.was_up_already desk at up view) was = subst IsCourse (sym (ap course_of view)) was
restart_on {S} {V} m old new id (step.restarts desk now caller at at_c down by view) was = subst IsCourse (sym (ap course_of view)) (by_down now.down)
  where
    by_down : (b : Bool)
        → IsCourse (course_of (record (with_desk old id now) { eras = if b then old.eras else slice_set old.eras id (era_shown old.council.plan (era_at old id) (kept_of now.vault).era) }))
    by_down true = was
    by_down false = course_shown old.last_proposer old.eras old.council.plan (entries_in old.marks) id (kept_of now.vault).era was

finish_on : {S V : Type 0} (old : View S V) (plan : PlanView) → old.council.plan ≡ Some plan → plan.progress.left ≡ [] → IsCourse (course_of old)
    → IsCourse (course_of (with_council old (record old.council { plan = None })))
finish_on old plan is_plan none was =
    course_finished old.last_proposer old.eras (entries_in old.marks) plan none (subst (λ (p : Option PlanView). IsCourse (course old.last_proposer old.eras p (entries_in old.marks))) is_plan was)

-- a listing that is not complete is dropped
over_on : {S V : Type 0} (old : View S V) (asked : Asked) (answer : OpAnswer) → IsCourse (course_of old) → IsCourse (course_of (told_over old asked answer))
over_on {S} {V} old asked answer was = subst IsCourse (sym (told_course old asked answer)) (by_plan old.council.plan was)
  where
    by_plan : (plan : Option PlanView) → IsCourse (course old.last_proposer old.eras plan (entries_in old.marks))
        → IsCourse (course old.last_proposer old.eras (option_map without_partial plan) (entries_in old.marks))
    by_plan None was = was
    by_plan (Some plan) was = course_relisted old.last_proposer old.eras plan (entries_in old.marks) plan.rescanned (complete_only plan.listing) was

tell_on : {S V : Type 0} (old new : View S V) (answer : OpAnswer) → StepTell old answer new → IsCourse (course_of old) → IsCourse (course_of new)
tell_on {S} {V} old new answer (told_by.tells order said is_open told same view) was = subst IsCourse (sym (ap course_of view)) (over_on old order.asked answer was)
tell_on {S} {V} old new answer (told_by.collects order is_open by view) was = subst IsCourse (sym (ap course_of view)) (over_on old order.asked answer was)
tell_on {S} {V} old new answer (told_by.finishes order is_open by view) was =
    subst IsCourse (sym (ap course_of view)) (over_on (with_council old (record old.council { plan = None })) order.asked answer (finish_on old by.plan by.is_plan by.none_left was))

-- ---- listings
-- with another plan
planned_on : {S V : Type 0} (old : View S V) (plan : PlanView) → old.council.plan ≡ Some plan → IsCourse (course_of old)
    → IsCourse (course old.last_proposer old.eras (Some plan) (entries_in old.marks))
planned_on old plan is was = subst (λ (p : Option PlanView). IsCourse (course old.last_proposer old.eras p (entries_in old.marks))) is was

-- all are asked for their next keys
ask_on : {S V : Type 0} (m : Meaning S V) (old new : View S V) (places : List MemberPlace) → StepAskAll m old (NextKeys places) new → IsCourse (course_of old) → IsCourse (course_of new)
ask_on {S} {V} m old new places by was = in_case by.asks
  where
    due : told_by.IsDueToList (told_by.everyone old) old.council by.may.order.asked places
    due = by.may.is_for.1

    in_case : told_by.AsksAll m old (NextKeys places) by.desk new → IsCourse (course_of new)
    in_case (told_by.asks now tag flow up room tagged now_is sends view) =
        subst IsCourse (sym (ap course_of view ∙ ap (λ (p : Option PlanView). course old.last_proposer old.eras (option_map (told_by.listing_begun places tag) p) (entries_in old.marks)) due.is_plan))
        (course_relisted old.last_proposer old.eras due.plan (entries_in old.marks) due.plan.rescanned (Some (told_by.begun_listing places tag due.plan.listing)) (planned_on old due.plan due.is_plan was))
    in_case (told_by.is_down down view) = subst IsCourse (sym (ap course_of view)) was
    in_case (told_by.is_full up full view) = subst IsCourse (sym (ap course_of view)) was
    in_case (told_by.is_spent now up spent kept now_is view) = subst IsCourse (sym (ap course_of view)) was
    in_case (told_by.fails now up fails view) = subst IsCourse (sym (ap course_of view)) was
    in_case (told_by.no_memory now tag up loses view) = subst IsCourse (sym (ap course_of view)) was

gather_on : {S V : Type 0} (old new : View S V) → StepGather old new → IsCourse (course_of old) → IsCourse (course_of new)
gather_on {S} {V} old new by was = in_case by.gathers
  where
    in_case : told_by.Gathers old by.at.exchange new → IsCourse (course_of new)
    in_case (told_by.crashed down view) = subst IsCourse (sym (ap course_of view)) was
    in_case (told_by.probed key found up question plain keeps view) = subst IsCourse (sym (ap course_of view)) was
    in_case (told_by.read key era found marks up question reads keeps counts view) =
        subst IsCourse (sym (ap course_of view ∙ quiet (told_by.gathered old (Probed key found)) marks (read_quietly era key by.at.exchange.told (reverse old.marks) marks counts))) was
    in_case (told_by.lists of listing up enough on view) =
        subst IsCourse (sym (ap course_of view)) (course_listed old.last_proposer old.eras of.plan (entries_in old.marks) listing of.settles (planned_on old of.plan of.is_plan was))
    in_case (told_by.is_short of short up missing view) = subst IsCourse (sym (ap course_of view)) was
    in_case (told_by.no_memory up view) = subst IsCourse (sym (ap course_of view)) was

-- a key is proposed anew
end_on : {S V : Type 0} (m : Meaning S V) (old new : View S V) (id : ℕ) (told : Answer) → StepEnd m old id told new → IsCourse (course_of old) → IsCourse (course_of new)
end_on {S} {V} m old new id told by was = subst IsCourse (sym (end_course m old new id told by)) (in_case by.ends.rescans)
  where
    in_case : calls.Rescans old.council id by.of_call.call.key told by.ends.council → IsCourse (course old.last_proposer old.eras by.ends.council.plan (entries_in old.marks))
    in_case (calls.is_none none same) = subst (λ (c : Council). IsCourse (course old.last_proposer old.eras c.plan (entries_in old.marks))) (sym same) was
    in_case (calls.stops of undone same) = subst (λ (c : Council). IsCourse (course old.last_proposer old.eras c.plan (entries_in old.marks))) (sym same) was
    in_case (calls.rescans of done same) =
        let counted : PlanView = record of.plan { rescanned = one_more of.plan.rescanned } in
        subst (λ (c : Council). IsCourse (course old.last_proposer old.eras c.plan (entries_in old.marks))) (sym same)
        (course_listed old.last_proposer old.eras counted (entries_in old.marks) (record of.listing { keys = drop 1 of.listing.keys }) of.settles
        (course_relisted old.last_proposer old.eras of.plan (entries_in old.marks) (one_more of.plan.rescanned) of.plan.listing (planned_on old of.plan of.is_plan was)))

-- an acceptor that joins changes no era
pub welcome_course : {S V : Type 0} (m : Meaning S V) (old middle : View S V) (asked : Asked) → Welcomes m old asked middle → course_of middle ≡ course_of old
welcome_course m old middle asked (plans.starts id acceptor now joins at starts view) = ap course_of view
welcome_course m old middle asked (plans.fails id acceptor now joins at fails view) = ap course_of view
welcome_course m old middle asked (plans.is_up id acceptor joins at up view) = ap course_of view
welcome_course m old middle asked (plans.stays joins_none view) = ap course_of view

open_on : {S V : Type 0} (m : Meaning S V) (old new : View S V) → StepOpenPlan m old new → IsCourse (course_of old) → IsCourse (course_of new)
open_on {S} {V} m old new by was = by_case by.opens
  where
    by_case : OpensPlan m old by.order.asked by.desk new → IsCourse (course_of new)
    by_case (plans.is_down down view) = subst IsCourse (sym (ap course_of view)) was
    by_case (plans.is_busy plan up busy view) = subst IsCourse (sym (ap course_of view)) was
    by_case (plans.refuses fault up none planned view) = subst IsCourse (sym (ap course_of view)) was
    by_case (plans.opens progress middle up none planned welcomes view) =
        let settled = subst (λ (p : Option PlanView). IsCourse (course old.last_proposer old.eras p (entries_in old.marks))) none was in
        let begins = planned_starts (era_at old 0) old.council.used by.order.asked progress settled.under_way.whole planned in
        subst IsCourse
        (sym (ap course_of view ∙ ap (λ (c : Course). course c.last_proposer c.eras (Some (plans.new_plan by.order.asked progress)) c.entries) (welcome_course m old middle by.order.asked welcomes)))
        (course_opened old.last_proposer old.eras (entries_in old.marks) by.order.asked progress begins.era begins.start begins.leads (planned_meets (era_at old 0) old.council.used by.order.asked progress settled.under_way.whole planned) settled)
    by_case (plans.no_memory progress middle up none planned welcomes view) = subst IsCourse (sym (ap course_of view ∙ welcome_course m old middle by.order.asked welcomes)) was

-- a proposer enters the next era
pub enters_course : {S V : Type 0} (m : Meaning S V) (old middle : View S V) (plan : PlanView) (next : Era)
    → LeavesRound (EntersEra m.disks next) (closed_by (answer.Moved next.number) (cause.Moved next.number)) old plan.entered middle
    → course_of (entered_view middle plan next) ≡ course old.last_proposer (slice_set old.eras plan.entered next) (Some (plan_after old.last_proposer plan next)) (entries_in old.marks ++ record { proposer = plan.entered; era = next.number } ∷ [])
enters_course {S} {V} m old middle plan next leaves =
    let same = left_course (EntersEra m.disks next) (closed_by (answer.Moved next.number) (cause.Moved next.number)) old middle plan.entered leaves in
    ap (λ (l : List EraEntry). course middle.last_proposer (slice_set middle.eras plan.entered next) (Some (plan_after middle.last_proposer plan next)) l)
    (entries_joined middle.marks (EraEntered plan.entered next.number ∷ []))
    ∙ ap (λ (c : Course). course c.last_proposer (slice_set c.eras plan.entered next) (Some (plan_after c.last_proposer plan next)) (c.entries ++ record { proposer = plan.entered; era = next.number } ∷ [])) same

enter_on : {S V : Type 0} (m : Meaning S V) (old new : View S V) (id : ℕ) → StepEnterEra m old id new → IsCourse (course_of old) → IsCourse (course_of new)
enter_on {S} {V} m old new id by was = by_case by.enters
  where
    planned : IsCourse (course old.last_proposer old.eras (Some by.plan) (entries_in old.marks))
    planned = subst (λ (p : Option PlanView). IsCourse (course old.last_proposer old.eras p (entries_in old.marks))) by.may.is_plan was

    by_case : EntersNext m old by.plan by.next by.desk new → IsCourse (course_of new)
    by_case (plans.enters middle room leaves view) = subst IsCourse (sym (ap course_of view ∙ enters_course m old middle by.plan by.next leaves))
        (course_entered old.last_proposer old.eras by.plan (entries_in old.marks) by.next (ap next_era (sym by.may.is_plan) ∙ by.may.is_next) planned)
    by_case (plans.is_full full view) = subst IsCourse (sym (ap course_of view)) was
    by_case (plans.is_down room down view) = subst IsCourse (sym (ap course_of view)) was
    by_case (plans.fails middle room down view) = subst IsCourse (sym (ap course_of view ∙ down_course (FailsToEnter m.disks by.next) old middle by.plan.entered down)) was
    by_case (plans.no_memory now room up kept now_is view) = subst IsCourse (sym (ap course_of view)) was

-- ---- all of them
led_on : {S V : Type 0} (m : Meaning S V) (old new : View S V) (event : Event) → Leads event → Step m old event new → IsCourse (course_of old) → IsCourse (course_of new)
led_on m old new (step.RestartProposer id) leads by was = restart_on m old new id by was
led_on m old new (step.End id told) leads by was = end_on m old new id told by was
led_on m old new (step.AskAll (NextKeys places)) leads by was = ask_on m old new places by was
led_on m old new step.Gather leads by was = gather_on old new by was
led_on m old new (step.Tell answer) leads by was = tell_on old new answer by was
led_on m old new step.OpenPlan leads by was = open_on m old new by was
led_on m old new (step.EnterEra id) leads by was = enter_on m old new id by was
led_on {S} {V} m old new (step.EndCollect told) leads by was = subst IsCourse (sym (ap course_of by.view)) (end_on m old by.middle 0 told by.ends was)
led_on m old new event none by was = absurd none

pub stays_on_course : {S V : Type 0} (m : Meaning S V) (old new : View S V) (event : Event) → Step m old event new → IsCourse (course_of old) → IsCourse (course_of new)
stays_on_course m old new event by was = elim (on_course m old new event by) [
  | inl leads ↦ led_on m old new event leads by was
  | inr same ↦ subst IsCourse (sym same) was
]
