-- What a change of membership leaves true of a cluster that nobody stops.
use Rattle.std.proofs.Common.{◌≡◌, ◌<◌, ℕ, suc, Bool, true, false, List, [], ◌∷◌, Option, None, Some, Ok, refl, sym, ap, subst, ◌∙◌, inl, inr}
use Rattle.std.specs.Prelude.{◌⊎◌, ◌==◌, ◌||◌, slice_set, Contains, if◌then◌else◌}
use Rattle.cas_base.proofs.Bools.{or_cases, or_left, or_right}
use Rattle.cas_ballot.specs.Members.{has_member, with_member, union_of, IsMemberSet}
use Rattle.cas_ballot.proofs.MemberLemmas.{has-members_where, members_where_tells, IsMemberSet-members_where}
use Rattle.cas_acceptor.specs.Acceptor.{AcceptorView}
use Rattle.cas_members.specs.Plan.{eras_in}
use Rattle.cas_members.specs.Steps.{Progress}
use Rattle.cas_members.specs.declared.plan.PlanStep.{PlanStep}
use Rattle.cas_members.specs.declared.plan.PlanStep.TheVariants.{Settle, Enter, Finished}
use Rattle.cas_proposer.specs.Desk.{DeskView}
use Rattle.cas_quorum.specs.declared.era.Era.{Era}
use Rattle.cas_record.proofs.Tests.{nat_same, nat_is}
use Rattle.cas_record.specs.declared.answer.Answer.TheVariants as answer
use Rattle.cas_record.specs.declared.answer.Cause.TheVariants as cause
use Rattle.cas_record.specs.declared.mark.Mark.TheVariants.{EraEntered}
use Rattle.cas_record.specs.declared.operator.Asked.{Asked}
use Rattle.cas_record.specs.declared.operator.Asked.TheVariants as asked
use Rattle.cas_record.specs.declared.operator.OpAnswer.TheVariants as told
use Rattle.cas_round.proofs.Lists.{Has, has}
use Rattle.cas_model.specs.Council.{Council, PlanView, hushed}
use Rattle.cas_model.specs.Eras.Course.{IsSettled, CourseIsUnderWay, course_of, entering, later_of, next_era}
use Rattle.cas_model.specs.Safe.{IsSafe}
use Rattle.cas_model.specs.Calls.Desks.{EntersEra, FailsToEnter}
use Rattle.cas_model.specs.Eras.Step as plans
use Rattle.cas_model.specs.Eras.Step.{FailsByFaults, IsPlanned, OpensPlan, StepOpenPlan, Welcomes, EntersNext, StepEnterEra, new_plan, opened_plan, used_with, plan_after, rest_of, entered_view}
use Rattle.cas_model.specs.Stops.Step as stops
use Rattle.cas_model.specs.Stops.Step.{LeavesRound, closed_by}
use Rattle.cas_model.specs.View.{Meaning, View, CallView, IsAt, era_at}
use Rattle.cas_model.proofs.Frames.Harms.{member_low}
use Rattle.cas_model.proofs.Places.{some_is, own_set, at_one, contains_new, contains_older}
use Rattle.cas_model.proofs.Eras.Plans as laws
use Rattle.cas_model.proofs.Eras.Plans.{IsMemberOfOne, IsMemberThen, planned_members}
use Rattle.cas_board_world.specs.Steady.{IsBlamed, IsBlamedSince, acceptor_faults}
use Rattle.cas_board_world.proofs.Parts.{rose_above, stays_above, acceptor_up, on_acceptors, desk_goes_on, on_mark, on_eras, on_council, on_telling, hushed_order}
use Rattle.cas_board_world.proofs.Stops.{left_blamed, moved_fair, down_blamed}

-- ---- an acceptor that joins
welcome_blamed : {S V : Type 0} {were : List ℕ} (m : Meaning S V) (old middle : View S V) (of : Asked) → IsBlamedSince m were old → Welcomes m old of middle → IsBlamedSince m were middle
welcome_blamed {S} {V} {were} m old middle of is (plans.starts id acceptor now joins at by view) =
    subst (IsBlamedSince m were) (sym view) (acceptor_up m is id acceptor now at (stays_above by.never_falls) (ap (λ (a : AcceptorView S). a.down) by.acceptor))
welcome_blamed {S} {V} {were} m old middle of is (plans.fails id acceptor now joins at by view) =
    subst (IsBlamedSince m were) (sym view) (on_acceptors m is id acceptor now at (stays_above by.never_falls) (λ down. elim (is.excused id acceptor at by.was_down) [
      | inl failed ↦ inl (stays_above by.never_falls failed)
      | inr unused ↦ inr (ap (λ (a : AcceptorView S). a.started) by.acceptor ∙ unused.0, unused.1)
    ]))
welcome_blamed {S} {V} {were} m old middle of is (plans.is_up id acceptor joins at up view) = subst (IsBlamedSince m were) (sym view) is
welcome_blamed {S} {V} {were} m old middle of is (plans.stays joins_none view) = subst (IsBlamedSince m were) (sym view) is

abbrev joined_of : Asked → ℕ
joined_of (asked.Join id) = id
joined_of other = 0

-- one that joins, never started and is down has failed
joined_failed : {S V : Type 0} (m : Meaning S V) (old middle : View S V) (of : Asked) (id : ℕ) (acceptor : AcceptorView S) → Welcomes m old of middle → FailsByFaults m old of middle → of ≡ asked.Join id → IsAt middle.acceptors id acceptor
    → acceptor.started ≡ false → acceptor.down ≡ true → 0 < acceptor_faults m acceptor
joined_failed {S} {V} m old middle of id acceptor (plans.starts other was now joins at by view) faulted is_join there fresh down =
    let same : other ≡ id = ap joined_of (sym joins ∙ is_join) in
    let is : acceptor ≡ now = own_set old.acceptors other now acceptor (subst (λ (n : ℕ). IsAt (slice_set old.acceptors other now) n acceptor) (sym same) (subst (λ (v : View S V). IsAt v.acceptors id acceptor) view there)) in
    absurd (cc (sym (ap (λ (a : AcceptorView S). a.down) (is ∙ by.acceptor)) ∙ down))
joined_failed {S} {V} m old middle of id acceptor (plans.fails other was now joins at by view) faulted is_join there fresh down =
    let same : other ≡ id = ap joined_of (sym joins ∙ is_join) in
    let is : acceptor ≡ now = own_set old.acceptors other now acceptor (subst (λ (n : ℕ). IsAt (slice_set old.acceptors other now) n acceptor) (sym same) (subst (λ (v : View S V). IsAt v.acceptors id acceptor) view there)) in
    rose_above (faulted id was acceptor is_join (subst (λ (n : ℕ). IsAt old.acceptors n was) same at) there (sym (ap (λ (a : AcceptorView S). a.started) (is ∙ by.acceptor)) ∙ fresh) down)
joined_failed {S} {V} m old middle of id acceptor (plans.is_up other was joins at up view) faulted is_join there fresh down =
    let same : other ≡ id = ap joined_of (sym joins ∙ is_join) in
    let is : was ≡ acceptor = at_one old.acceptors id (subst (λ (n : ℕ). IsAt old.acceptors n was) same at) (subst (λ (v : View S V). IsAt v.acceptors id acceptor) view there) in
    absurd (cc (sym up ∙ ap (λ (a : AcceptorView S). a.down) is ∙ down))
joined_failed {S} {V} m old middle of id acceptor (plans.stays joins_none view) faulted is_join there fresh down = absurd (cc (sym joins_none ∙ ap plans.is_join is_join))

-- ---- who was a member then
used_more : (of : Asked) (used : List ℕ) (acceptor : ℕ) → IsMemberSet used → has_member used acceptor ≡ true → has_member (used_with of used) acceptor ≡ true
used_more (asked.Join id) used acceptor set member =
    has-members_where (λ n. n == id || has_member used n) acceptor (member_low used acceptor set member) ∙ or_right (acceptor == id) (has_member used acceptor) member
used_more other used acceptor set member = member

used_join : (of : Asked) (used : List ℕ) (acceptor : ℕ) → of ≡ asked.Join acceptor → acceptor < 64 → has_member (used_with of used) acceptor ≡ true
used_join of used acceptor joins low =
    subst (λ (a : Asked). has_member (used_with a used) acceptor ≡ true) (sym joins)
    (has-members_where (λ n. n == acceptor || has_member used n) acceptor low ∙ or_left (acceptor == acceptor) (has_member used acceptor) (nat_is refl))

-- nobody else
used_else : (of : Asked) (used : List ℕ) (acceptor : ℕ) → has_member used acceptor ≡ false → (of ≡ asked.Join acceptor) ⊎ (has_member (used_with of used) acceptor ≡ false)
used_else (asked.Join id) used acceptor unused = by_test (has_member (with_member used id) acceptor) refl
  where
    by_test : (b : Bool) → has_member (with_member used id) acceptor ≡ b → (asked.Join id ≡ asked.Join acceptor) ⊎ (has_member (with_member used id) acceptor ≡ false)
    by_test false is = inr is
    by_test true is = elim (or_cases (acceptor == id) (has_member used acceptor) (members_where_tells (λ n. n == id || has_member used n) acceptor is)) [
      | inl same ↦ inl (ap (λ (n : ℕ). asked.Join n) (sym (nat_same same)))
      | inr before ↦ absurd (cc (sym before ∙ unused))
    ]
used_else other used acceptor unused = inr unused

used_set : (of : Asked) (used : List ℕ) → IsMemberSet used → IsMemberSet (used_with of used)
used_set (asked.Join id) used set = IsMemberSet-members_where (λ n. n == id || has_member used n)
used_set other used set = set

member_of_one : (eras : List Era) (era : Era) (acceptor : ℕ) → Has era eras → has_member (union_of era.prep era.acc) acceptor ≡ true → IsMemberOfOne eras acceptor
member_of_one [] era acceptor none member = absurd none
member_of_one (e ∷ eras) era acceptor (inl same) member = inl (subst (λ (x : Era). has_member (union_of x.prep x.acc) acceptor ≡ true) (sym same) member)
member_of_one (e ∷ eras) era acceptor (inr there) member = inr (member_of_one eras era acceptor there member)

-- ---- a change begins
opened_blamed : {S V : Type 0} {were : List ℕ} (m : Meaning S V) (old middle : View S V) (of : Asked) (progress : Progress) → IsSafe old → IsBlamedSince m were old → old.council.plan ≡ None → IsPlanned (era_at old 0) old.council.used of (Ok progress) → Welcomes m old of middle → FailsByFaults m old of middle
    → IsBlamedSince m (used_with of were) (opened_plan middle of progress)
opened_blamed {S} {V} {were} m old middle of progress safe is none planned welcomes faulted = record {
  excused = λ id acceptor at down. elim (mid.excused id acceptor at down) [
    | inl failed ↦ inl failed
    | inr unused ↦ elim (used_else of were id unused.1) [
      | inl joins ↦ inl (joined_failed m old middle of id acceptor welcomes faulted joins at unused.0 down)
      | inr still ↦ inr (unused.0, still)
    ]
  ];
  failed = mid.failed;
  calls = mid.calls;
  order = hushed_order m middle.acceptors middle.desks middle.council.order;
  exchange = mid.exchange;
  were_set = used_set of were mid.were_set;
  in_eras = λ id acceptor member. used_more of were acceptor mid.were_set (mid.in_eras id acceptor member);
  later = λ era there acceptor member. by_member acceptor (planned_members (era_at old 0) old.council.used of progress settled.whole planned acceptor (member_of_one (eras_in progress.left) era acceptor (has era (eras_in progress.left) there) member));
  asked = λ exchange is_open acceptor member. used_more of were acceptor mid.were_set (mid.asked exchange is_open acceptor member);
  marked = mid.marked;
}
  where
    mid : IsBlamedSince m were middle
    mid = welcome_blamed m old middle of is welcomes

    settled : IsSettled (course_of old)
    settled = subst (λ (p : Option PlanView). CourseIsUnderWay (course_of old) p) none safe.course.under_way

    in_era : (acceptor : ℕ) → has_member (era_at old 0).prep acceptor ≡ true → has_member (union_of (era_at old 0).prep (era_at old 0).acc) acceptor ≡ true
    in_era acceptor member =
        has-members_where (λ n. has_member (era_at old 0).prep n || has_member (era_at old 0).acc n) acceptor (member_low (era_at old 0).prep acceptor (safe.sound.prep_sets 0) member)
        ∙ or_left (has_member (era_at old 0).prep acceptor) (has_member (era_at old 0).acc acceptor) member

    by_member : (acceptor : ℕ) → IsMemberThen (era_at old 0) old.council.used of acceptor → has_member (used_with of were) acceptor ≡ true
    by_member acceptor (laws.already member) = used_more of were acceptor is.were_set (is.in_eras 0 acceptor (in_era acceptor member))
    by_member acceptor (laws.joins joins unused low) = used_join of were acceptor joins low

pub open_blamed : {S V : Type 0} {were : List ℕ} (m : Meaning S V) (old new : View S V) → IsSafe old → IsBlamedSince m were old → StepOpenPlan m old new → IsBlamed m new
open_blamed {S} {V} {were} m old new safe is by = by_case by.opens
  where
    by_case : OpensPlan m old by.order.asked by.desk new → IsBlamed m new
    by_case (plans.is_down down view) = (were, subst (IsBlamedSince m were) (sym view) (on_telling m is (told.Stopped answer.Down) (record { one = by.desk; at = by.at_desk; failed = is.failed 0 by.desk by.at_desk down })))
    by_case (plans.is_busy plan up busy view) = (were, subst (IsBlamedSince m were) (sym view) (on_telling m is (told.Busy (era_at old 0).number) tt))
    by_case (plans.refuses fault up none planned view) = (were, subst (IsBlamedSince m were) (sym view) (on_telling m is (told.Refused fault) tt))
    by_case (plans.opens progress middle up none planned welcomes view) = (
      used_with by.order.asked were,
      subst (IsBlamedSince m (used_with by.order.asked were)) (sym view) (opened_blamed m old middle by.order.asked progress safe is none planned welcomes
          (λ id was now joins at_was at_now fresh down. by.faulted (new_plan by.order.asked progress) none (ap (λ (v : View S V). v.council.plan) view) id was now joins at_was (subst (λ (v : View S V). IsAt v.acceptors id now) (sym view) at_now) fresh down)),
    )
    by_case (plans.no_memory progress middle up none planned welcomes view) = (were, subst (IsBlamedSince m were) (sym view) (on_telling m (welcome_blamed m old middle by.order.asked is welcomes) (told.Stopped (answer.NoMemory false)) tt))

-- ---- a proposer enters the next era
left_council : {S V : Type 0} (DeskTurns : DeskView V → DeskView V → Type 0) (closed : CallView → CallView) (old : View S V) (id : ℕ) (new : View S V) → LeavesRound DeskTurns closed old id new → new.council ≡ old.council
left_council {S} {V} DeskTurns closed old id new (stops.idle desk now at none turns view) = ap (λ (v : View S V). v.council) view
left_council {S} {V} DeskTurns closed old id new (stops.closes desk now round of_call at some turns view) = ap (λ (v : View S V). v.council) view

next_later : (left : List PlanStep) (next : Era) → entering left ≡ Some next → Contains (eras_in left) next
next_later [] next none = absurd (cc none)
next_later (Settle ∷ left) next none = absurd (cc none)
next_later (Enter era ∷ left) next is = subst (λ (e : Era). Contains (era ∷ eras_in left) e) (some_is is) (contains_new era (eras_in left))
next_later (Finished ∷ left) next none = absurd (cc none)

next_in : (plan : Option PlanView) (next : Era) → next_era plan ≡ Some next → Contains (later_of plan) next
next_in None next none = absurd (cc none)
next_in (Some plan) next is = next_later plan.progress.left next is

rest_later : (left : List PlanStep) (era : Era) → Contains (eras_in (rest_of left)) era → Contains (eras_in left) era
rest_later [] era there = there
rest_later (Settle ∷ left) era there = there
rest_later (Enter next ∷ left) era there = contains_older (eras_in left) there
rest_later (Finished ∷ left) era there = there

later_entered : (last_proposer : ℕ) (plan : PlanView) (next era : Era) → Contains (later_of (Some (plan_after last_proposer plan next))) era → Contains (later_of (Some plan)) era
later_entered last_proposer plan next era = by_last (plan.entered == last_proposer)
  where
    by_last : (b : Bool) → Contains (later_of (Some (if b then record plan { progress = record { era = next; left = rest_of plan.progress.left }; entered = 0; listing = None } else record plan { entered = suc plan.entered }))) era → Contains (later_of (Some plan)) era
    by_last true there = rest_later plan.progress.left era there
    by_last false there = there

enters_blamed : {S V : Type 0} {were : List ℕ} (m : Meaning S V) (old middle : View S V) (plan : PlanView) (next : Era) → IsBlamedSince m were old → old.council.plan ≡ Some plan → next_era old.council.plan ≡ Some next
    → LeavesRound (EntersEra m.disks next) (closed_by (answer.Moved next.number) (cause.Moved next.number)) old plan.entered middle → IsBlamedSince m were (entered_view middle plan next)
enters_blamed {S} {V} {were} m old middle plan next is is_plan is_next leaves =
    on_mark m (on_eras m (on_council m left (record (hushed middle.council) { plan = Some (plan_after middle.last_proposer plan next) }) (hushed_order m middle.acceptors middle.desks middle.council.order) left.exchange
    (λ era there. left.later era (subst (λ (p : Option PlanView). Contains (later_of p) era) (sym (ap (λ (c : Council). c.plan) same ∙ is_plan)) (later_entered middle.last_proposer plan next era there)))
    left.asked) plan.entered next (left.later next (subst (λ (c : Council). Contains (later_of c.plan) next) (sym same) (next_in old.council.plan next is_next)))) (EraEntered plan.entered next.number) tt
  where
    same : middle.council ≡ old.council
    same = left_council (EntersEra m.disks next) (closed_by (answer.Moved next.number) (cause.Moved next.number)) old plan.entered middle leaves

    left : IsBlamedSince m were middle
    left = left_blamed m (EntersEra m.disks next) (closed_by (answer.Moved next.number) (cause.Moved next.number)) old plan.entered middle is (λ desk now at enters. record {
      stays = stays_above enters.never_falls;
      failed = λ down. absurd (cc (sym (ap (λ (d : DeskView V). d.down) enters.desk ∙ enters.up) ∙ down));
      call = moved_fair m old plan.entered (answer.Moved next.number) (cause.Moved next.number) now refl refl;
    }) leaves

pub enter_blamed : {S V : Type 0} {were : List ℕ} (m : Meaning S V) (old : View S V) (id : ℕ) (new : View S V) → IsBlamedSince m were old → StepEnterEra m old id new → IsBlamedSince m were new
enter_blamed {S} {V} {were} m old id new is by = by_case by.enters
  where
    by_case : EntersNext m old by.plan by.next by.desk new → IsBlamedSince m were new
    by_case (plans.enters middle room leaves view) = subst (IsBlamedSince m were) (sym view) (enters_blamed m old middle by.plan by.next is by.may.is_plan by.may.is_next leaves)
    by_case (plans.is_full full view) = subst (IsBlamedSince m were) (sym view) (on_telling m is (told.Stopped answer.RecordFull) tt)
    by_case (plans.is_down room down view) =
        subst (IsBlamedSince m were) (sym view) (on_telling m is (told.ProposerDown by.plan.entered) (record { one = by.desk; at = by.may.at_desk; failed = is.failed by.plan.entered by.desk by.may.at_desk down }))
    by_case (plans.fails middle room down view) =
        let failed = down_blamed m (FailsToEnter m.disks by.next) old by.plan.entered middle is (λ desk now fails. fails.faulted) down in
        subst (IsBlamedSince m were) (sym view) (on_telling m failed.0 (told.ProposerDown by.plan.entered) failed.1)
    by_case (plans.no_memory now room up kept now_is view) =
        subst (IsBlamedSince m were) (sym view) (on_telling m (desk_goes_on m is by.plan.entered by.desk now by.may.at_desk (stays_above kept.goes_on.never_falls) (ap (λ (d : DeskView V). d.down) now_is)) (told.Stopped (answer.NoMemory false)) tt)
