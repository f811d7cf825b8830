-- That all proposers have entered the era of a change of membership that is at its end.
use Rattle.std.proofs.Common.{◌≡◌, ◌<◌, List, [], Option, Some, sym, ap, subst, reverse, arith}
use Rattle.cas_members.specs.declared.plan.PlanStep.{PlanStep}
use Rattle.cas_members.specs.Plan.{eras_in}
use Rattle.cas_quorum.specs.declared.era.Era.{Era}
use Rattle.cas_record.specs.declared.operator.Asked.{Asked}
use Rattle.cas_record.specs.declared.operator.Asked.TheVariants as asked
use Rattle.cas_record.specs.declared.operator.OpAnswer.{OpAnswer}
use Rattle.cas_model.specs.Council.{PlanView, OrderView}
use Rattle.cas_model.specs.Eras.Course.{AreEntries, EraIsMoving, IsAskedEra, IsStart, WorksIn, not_yet, entered, CourseIsUnderWay as IsOnCourse, course_of, entering, entries_in, last_era}
use Rattle.cas_model.specs.Safe.{IsSafe}
use Rattle.cas_model.specs.SafeLaws.{HaveAllEntered, HaveEnteredIts, IsEraTold}
use Rattle.cas_model.specs.Exchanges.Step.{IsFinishedBy, finished}
use Rattle.cas_model.specs.View.{View, era_at}
use Rattle.cas_model.proofs.Eras.Courses.{course}
use Rattle.cas_model.proofs.Eras.Steps.{entry_stands}

all_entered : {S V : Type 0} (view : View S V) (plan : PlanView) → IsSafe view → view.council.plan ≡ Some plan → plan.progress.left ≡ [] → HaveAllEntered view.last_proposer plan.progress.era.number (reverse view.marks)
all_entered {S} {V} view plan safe is none = λ proposer low. entry_stands view.marks proposer plan.progress.era.number (entries.all positive proposer low)
  where
    entries : AreEntries (course view.last_proposer view.eras (Some plan) (entries_in view.marks))
    entries = subst (λ (p : Option PlanView). AreEntries (course view.last_proposer view.eras p (entries_in view.marks))) is safe.course.entries

    moves : EraIsMoving (course_of view) plan
    moves = subst (λ (p : Option PlanView). IsOnCourse (course_of view) p) is safe.course.under_way

    positive : 0 < plan.progress.era.number
    positive = (subst (IsStart plan.progress.era) none moves.start).0

pub finished_have_entered : {S V : Type 0} (view : View S V) (order : OrderView) (answer : OpAnswer) → IsSafe view → IsFinishedBy view.council order answer → HaveEnteredIts view.last_proposer answer (reverse view.marks)
finished_have_entered {S} {V} view order answer safe by = by_asked order.asked by.tells
  where
    entered : HaveAllEntered view.last_proposer by.plan.progress.era.number (reverse view.marks)
    entered = all_entered view by.plan safe by.is_plan by.none_left

    by_asked : (asks : Asked) → finished asks by.plan.progress.era.number by.plan.rescanned answer → HaveEnteredIts view.last_proposer answer (reverse view.marks)
    by_asked (asked.Join id) is = subst (λ (a : OpAnswer). HaveEnteredIts view.last_proposer a (reverse view.marks)) (sym is) entered
    by_asked (asked.Leave id) is = subst (λ (a : OpAnswer). HaveEnteredIts view.last_proposer a (reverse view.marks)) (sym is) entered
    by_asked (asked.Resize need_prep need_acc) is = subst (λ (a : OpAnswer). HaveEnteredIts view.last_proposer a (reverse view.marks)) (sym is) entered
    by_asked (asked.Collect key) is = absurd is
    by_asked (asked.Probe key) is = absurd is
    by_asked (asked.Read key) is = absurd is

-- proposer 0 works in the last era of the change, which is as it was asked for
pub finished_as_asked : {S V : Type 0} (view : View S V) (order : OrderView) (answer : OpAnswer) → IsSafe view → IsFinishedBy view.council order answer → IsEraTold answer (era_at view 0)
finished_as_asked {S} {V} view order answer safe by = by_asked order.asked by.tells (subst (λ (of : Asked). IsAskedEra of (era_at view 0)) by.is_for leads)
  where
    moves : EraIsMoving (course_of view) by.plan
    moves = subst (λ (p : Option PlanView). IsOnCourse (course_of view) p) by.is_plan safe.course.under_way

    in_last : (era : Era) → WorksIn by.plan 0 era → era ≡ by.plan.progress.era
    in_last era (not_yet few is) = is
    in_last era (entered is) = absurd (cc (is, ap entering by.none_left))

    works : era_at view 0 ≡ by.plan.progress.era
    works = in_last (era_at view 0) (moves.each 0 (omega arith))

    leads : IsAskedEra by.plan.asked (era_at view 0)
    leads = subst (IsAskedEra by.plan.asked) (sym works)
        (subst (λ (left : List PlanStep). IsAskedEra by.plan.asked (last_era by.plan.progress.era (eras_in left))) by.none_left moves.leads)

    same : (era_at view 0).number ≡ by.plan.progress.era.number
    same = ap (λ (e : Era). e.number) works

    by_asked : (asks : Asked) → finished asks by.plan.progress.era.number by.plan.rescanned answer → IsAskedEra asks (era_at view 0) → IsEraTold answer (era_at view 0)
    by_asked (asked.Join id) is so = subst (λ (a : OpAnswer). IsEraTold a (era_at view 0)) (sym is) (same, so)
    by_asked (asked.Leave id) is so = subst (λ (a : OpAnswer). IsEraTold a (era_at view 0)) (sym is) (same, so)
    by_asked (asked.Resize need_prep need_acc) is so = subst (λ (a : OpAnswer). IsEraTold a (era_at view 0)) (sym is) (same, so)
    by_asked (asked.Collect key) is so = absurd is
    by_asked (asked.Probe key) is so = absurd is
    by_asked (asked.Read key) is so = absurd is
