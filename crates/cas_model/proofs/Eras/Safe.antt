-- A cluster stays safe as a change of membership begins, and as proposers enter the eras that it leads to.
use Rattle.std.proofs.Common.{◌≡◌, ℕ, List, [], ◌∷◌, ◌++◌, length, Option, None, Some, refl, sym, ap, subst, ◌∙◌, arith, length-append}
use Rattle.std.specs.Prelude.{◌+◌, ◌<◌, slice_set}
use Rattle.cas_ballot.specs.Members.{IsMemberSet}
use Rattle.cas_flow.specs.Flow.{queue_at}
use Rattle.cas_proposer.specs.Desk.{DeskView}
use Rattle.cas_quorum.specs.declared.era.Era.{Era}
use Rattle.cas_record.specs.declared.answer.Answer.TheVariants as answer
use Rattle.cas_record.specs.declared.answer.Cause.TheVariants as cause
use Rattle.cas_record.specs.declared.mark.Mark.TheVariants.{EraEntered}
use Rattle.cas_record.specs.declared.operator.Asked.{Asked}
use Rattle.cas_model.specs.Council.{PlanView, hushed}
use Rattle.cas_model.specs.Safe.{AreListingsSafe, IsAskingOf, IsPartySafe, IsSound}
use Rattle.cas_model.specs.Step as step
use Rattle.cas_model.specs.Exchanges.Step.{with_council}
use Rattle.cas_model.specs.Calls.Step.{most_marks}
use Rattle.cas_model.specs.Calls.Desks.{EntersEra, FailsToEnter}
use Rattle.cas_model.specs.Eras.Step as plans
use Rattle.cas_model.specs.Eras.Step.{StepOpenPlan, OpensPlan, Welcomes, StepEnterEra, EntersNext, plan_after, entered_view}
use Rattle.cas_model.specs.Stops.Step as stops
use Rattle.cas_model.specs.Stops.Step.{closed_by, LeavesRound}
use Rattle.cas_model.specs.View.{Meaning, View, IsAt, era_at, reserved_in_all, with_desk}
use Rattle.cas_model.proofs.Stops.Leaving.{left_marks}
use Rattle.cas_model.proofs.Places.{own_set}
use Rattle.cas_model.proofs.Exchanges.Safe.{hushed_reserves, told_view_safe}
use Rattle.cas_model.specs.Eras.Course.{Course, HasFewMembers, entering, next_era}
use Rattle.cas_model.proofs.Eras.CourseSteps.{welcome_course}
use Rattle.cas_model.proofs.Eras.OnCourse.{left_course}
use Rattle.cas_model.proofs.Eras.SafeListings.{begun_safe, enters_safe}
use Rattle.cas_model.proofs.Safety.Parts.{council_safe, more_by, safe_but, desk_low, changes_desk}
use Rattle.cas_model.proofs.Stops.Safe.{restarts_acceptor_safe, crashed_fit, left_safe, left_reserves, down_safe, era_safe}

-- another change of membership is under way, and the open call is told nothing
planned_safe : {S V : Type 0} (old : View S V) (plan : Option PlanView) (used : List ℕ) → IsSound old → AreListingsSafe plan × IsAskingOf plan old.council.exchange → IsSound (with_council old (record (hushed old.council) { plan = plan; used = used }))
planned_safe old plan used was listings =
    council_safe old old.flow (record (hushed old.council) { plan = plan; used = used }) old.marks was refl (λ p other. refl) (omega arith) was.asking listings (omega (arith, was.room, hushed_reserves old.council.order))

-- ---- a change of membership begins
welcome_safe : {S V : Type 0} (m : Meaning S V) (old middle : View S V) (asked : Asked) → IsSound old → Welcomes m old asked middle → IsSound middle
welcome_safe m old middle asked was (plans.starts id acceptor now joins at starts view) = restarts_acceptor_safe m old id middle was (step.starts acceptor now at starts view)
welcome_safe m old middle asked was (plans.fails id acceptor now joins at fails view) = restarts_acceptor_safe m old id middle was (step.fails acceptor now at fails view)
welcome_safe m old middle asked was (plans.is_up id acceptor joins at up view) = subst IsSound (sym view) was
welcome_safe m old middle asked was (plans.stays joins_none view) = subst IsSound (sym view) was

pub open_safe : {S V : Type 0} (m : Meaning S V) (old new : View S V) → IsSound old → StepOpenPlan m old new → IsSound new
open_safe {S} {V} m old new was by = by_case by.opens
  where
    by_case : OpensPlan m old by.order.asked by.desk new → IsSound new
    by_case (plans.is_down down view) = subst IsSound (sym view) (told_view_safe old _ was)
    by_case (plans.is_busy plan up busy view) = subst IsSound (sym view) (told_view_safe old _ was)
    by_case (plans.refuses fault up none planned view) = subst IsSound (sym view) (told_view_safe old _ was)
    by_case (plans.opens progress middle up none planned welcomes view) = subst IsSound (sym view) (let safe = welcome_safe m old middle by.order.asked was welcomes in
        planned_safe middle _ _ safe (begun_safe middle.council.plan middle.council.exchange (plans.new_plan by.order.asked progress) (ap (λ (c : Course). c.plan) (welcome_course m old middle by.order.asked welcomes) ∙ none) refl safe.council.1))
    by_case (plans.no_memory progress middle up none planned welcomes view) = subst IsSound (sym view) (told_view_safe middle _ (welcome_safe m old middle by.order.asked was welcomes))

-- ---- a proposer enters the next era
-- its desk has no open round then
entered_idle : {S V : Type 0} (m : Meaning S V) (next : Era) (closed : _) (old middle : View S V) (id : ℕ) → LeavesRound (EntersEra m.disks next) closed old id middle → (desk : DeskView V) → IsAt middle.desks id desk → desk.round ≡ None
entered_idle {S} {V} m next closed old middle id (stops.idle desk now at none by view) d at_d = ap (λ (x : DeskView V). x.round) (own_set old.desks id now d (subst (λ (w : View S V). IsAt w.desks id d) view at_d) ∙ by.desk)
entered_idle {S} {V} m next closed old middle id (stops.closes desk now round of at some by view) d at_d = ap (λ (x : DeskView V). x.round) (own_set old.desks id now d (subst (λ (w : View S V). IsAt w.desks id d) view at_d) ∙ by.desk)

enters_next : {S V : Type 0} (m : Meaning S V) (old middle : View S V) (plan : PlanView) (next : Era) → IsSound old → IsMemberSet next.prep → IsMemberSet next.acc → HasFewMembers next → length old.marks + reserved_in_all old < most_marks → entering plan.progress.left ≡ Some next → old.council.plan ≡ Some plan
    → LeavesRound (EntersEra m.disks next) (closed_by (answer.Moved next.number) (cause.Moved next.number)) old plan.entered middle → IsSound (entered_view middle plan next)
enters_next {S} {V} m old middle plan next was prep acc few room is_next is_plan leaves =
    council_safe (record middle { eras = slice_set middle.eras plan.entered next }) middle.flow (record (hushed middle.council) { plan = Some (plan_after middle.last_proposer plan next) }) (middle.marks ++ EraEntered plan.entered next.number ∷ [])
    (era_safe middle plan.entered next left prep acc few (entered_idle m next (closed_by (answer.Moved next.number) (cause.Moved next.number)) old middle plan.entered leaves)) refl (λ p other. refl) (more_by middle.marks _) left.asking
    (enters_safe middle.council.plan middle.council.exchange middle.last_proposer plan next
    (ap (λ (c : Course). c.plan) (left_course (EntersEra m.disks next) (closed_by (answer.Moved next.number) (cause.Moved next.number)) old middle plan.entered leaves) ∙ is_plan) is_next left.council.0 left.council.1)
    (omega (
      arith,
      room,
      length-append middle.marks (EraEntered plan.entered next.number ∷ []),
      hushed_reserves middle.council.order,
      ap length (left_marks (EntersEra m.disks next) (closed_by (answer.Moved next.number) (cause.Moved next.number)) old middle plan.entered leaves),
      left_reserves old plan.entered (EntersEra m.disks next) (answer.Moved next.number) (cause.Moved next.number) middle was leaves,
    ))
  where
    left : IsSound middle
    left = left_safe old plan.entered (EntersEra m.disks next) (answer.Moved next.number) (cause.Moved next.number) middle
        (λ desk now enters. (ap (λ (d : DeskView V). d.id) enters.desk, ap (λ (d : DeskView V). d.round) enters.desk, crashed_fit desk now (ap (λ (d : DeskView V). d.cache) enters.desk))) was leaves

-- a desk whose vault shows something else goes on with its round
pub revault_safe : {S V : Type 0} (old : View S V) (id : ℕ) (desk now : DeskView V) → IsSound old → IsAt old.desks id desk → now ≡ record desk { vault = now.vault } → IsSound (with_desk old id now)
revault_safe {S} {V} old id desk now was at is_now =
    safe_but old (with_desk old id now) id was (desk_low old id desk was at) (changes_desk old id now old.flow was refl (λ p other. refl))
    (λ d caller at_d at_caller. subst (λ (x : DeskView V). IsPartySafe (era_at old id) (length old.marks) id x caller (queue_at old.flow id)) (sym (own_set old.desks id now d at_d ∙ is_now))
    (let party = was.parties id desk caller at at_caller in
    record { same_id = party.same_id; idle = party.idle; number = party.number; few = party.few; cached = party.cached; round = party.round; room = party.room }))
    was.room

pub enter_safe : {S V : Type 0} (m : Meaning S V) (old new : View S V) (id : ℕ) → IsSound old → (by : StepEnterEra m old id new) → IsMemberSet by.next.prep → IsMemberSet by.next.acc → HasFewMembers by.next → IsSound new
enter_safe {S} {V} m old new id was by prep acc few = by_case by.enters
  where
    by_case : EntersNext m old by.plan by.next by.desk new → IsSound new
    by_case (plans.enters middle room leaves view) = subst IsSound (sym view) (enters_next m old middle by.plan by.next was prep acc few room (ap next_era (sym by.may.is_plan) ∙ by.may.is_next) by.may.is_plan leaves)
    by_case (plans.is_full full view) = subst IsSound (sym view) (told_view_safe old _ was)
    by_case (plans.is_down room down view) = subst IsSound (sym view) (told_view_safe old _ was)
    by_case (plans.fails middle room down view) = subst IsSound (sym view) (told_view_safe middle _ (down_safe old by.plan.entered (FailsToEnter m.disks by.next) middle (λ desk now fails. fails.crashed) was down))
    by_case (plans.no_memory now room up kept now_is view) = subst IsSound (sym view) (told_view_safe (with_desk old by.plan.entered now) _ (revault_safe old by.plan.entered by.desk now was by.may.at_desk now_is))
