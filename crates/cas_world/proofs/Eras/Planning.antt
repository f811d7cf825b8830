-- How a change of membership begins, and what is read of it.
use Rattle.std.proofs.Common.{◌≡◌, ◌+◌, ◌<◌, ◌≤◌, ◌∷◌, ℕ, Bool, true, false, List, [], Option, None, Some, Result, Ok, Err, refl, sym, ap, subst, ◌∙◌, arith, length}
use Rattle.std.specs.Prelude.{⊤, IfNone, ◌^◌, is_some, is_err, IsSome, OnOk, slice_get, if◌then◌else◌, option_map}
use Rattle.cas_base.specs.Faults.{Rose}
use Rattle.cas_slot.specs.declared.fault.ShelfFault.{ShelfFault}
use Rattle.cas_slot.specs.declared.fault.ShelfFault.TheVariants as shelf_fault
use Rattle.cas_acceptor.specs.Acceptor.{AcceptorView}
use Rattle.cas_quorum.specs.declared.era.Era.{Era}
use Rattle.cas_quorum.specs.declared.fault.PlanFault.{PlanFault}
use Rattle.cas_members.specs.Steps.{Progress}
use Rattle.cas_members.specs.declared.plan.PlanStep.{PlanStep}
use Rattle.cas_members.specs.declared.plan.PlanStep.TheVariants.{Settle, Enter, Finished}
use Rattle.cas_members.specs.Plan.{next_of}
use Rattle.cas_proposer.specs.Desk.{DeskView}
use Rattle.cas_record.specs.declared.mark.Mark.{Mark}
use Rattle.cas_record.specs.declared.mark.Mark.TheVariants as mark
use Rattle.cas_record.specs.declared.operator.Asked.{Asked}
use Rattle.cas_record.specs.declared.operator.OpAnswer.{OpAnswer}
use Rattle.cas_record.specs.declared.operator.OpAnswer.TheVariants as op
use Rattle.cas_model.specs.Collection.State.{CollectionView}
use Rattle.cas_model.specs.Council.{Council, ListingView, OrderView, PlanView, silent_order, told_so}
use Rattle.cas_model.specs.Eras.Course as course
use Rattle.cas_model.specs.Eras.Course.{EraIsMoving, IsSettled, IsStart, IsWhole, WorksIn, base_of, course_of, entering, entries_in}
use Rattle.cas_model.specs.Eras.Course.{CourseIsUnderWay as IsOnCourse}
use Rattle.cas_model.specs.Safe.{IsListingSafe, IsRoundSafe, IsSafe}
use Rattle.cas_model.specs.Step as step
use Rattle.cas_model.specs.Step.{Step}
use Rattle.cas_model.specs.Exchanges.Step.{SaysTheSame, told_view}
use Rattle.cas_model.specs.Eras.Step as plans
use Rattle.cas_model.specs.Eras.Step.{EntersNext, FailsByFaults, IsPlanned, OpensPlan, StepEnterEra, StepOpenPlan, Welcomes, new_plan, opened_plan}
use Rattle.cas_model.specs.View.{Meaning, ShelfMeaning, View, CallView, CallerView, IsAt, era_at}
use Rattle.cas_model.proofs.Places.{some_is}
use Rattle.cas_flow.specs.Flow.{queue_at}
use Rattle.cas_proposer.specs.declared.round.Round.{Round}
use Rattle.cas_world.specs.World.{call_view, caller_view}
use Rattle.cas_world_calls.specs.declared.call.Caller.{Caller}
use Rattle.cas_world_calls.specs.declared.call.OpenCall.{OpenCall}
use Rattle.cas_record.specs.declared.operator.Asked.TheVariants as to_do
use Rattle.cas_world_calls.specs.Council.{due_key, first_of, first_where}
use Rattle.cas_world.specs.Exchanges.Exchange.{WasToldOrder}
use Rattle.cas_world.specs.Stops.Restarting.{TellsOfAcceptor}
use Rattle.cas_world.specs.Eras.Plans.{IsAtEnd, IsUnderWay, MayEnterNext, MayOpenPlan, asked_of, planned_of, step_of}
use Rattle.cas_world.specs.declared.plans.Target.{Target}
use Rattle.cas_world.specs.declared.plans.Target.TheVariants as target

-- ---- a listing that is not complete
some_first : {A : Type 0} (xs : List A) → 0 < length xs → slice_get xs 0 ≡ None → ⊥
some_first [] some none = omega (arith, some)
some_first (x ∷ xs) some none = cc none

not_whole : (listing : ListingView) (whole : Bool) → listing.complete ≡ whole → (whole ≡ true → 0 < length listing.keys) → (if whole then slice_get listing.keys 0 else None) ≡ None → listing.complete ≡ false
not_whole listing true is some none = absurd (some_first listing.keys (some refl) none)
not_whole listing false is some none = is

pub none_due : (plan : PlanView) (listing : ListingView) → plan.listing ≡ Some listing → IsListingSafe plan listing → due_key plan ≡ None → listing.complete ≡ false
none_due plan listing is_listing safe none =
    not_whole listing listing.complete refl (λ whole. safe.some_left whole)
    (subst (λ (o : Option ListingView). first_of o ≡ None) is_listing (subst (λ (s : PlanStep). first_where s plan.listing ≡ None) safe.settles none))

pub if_none : {A B : Type 0} (copied : Option A → Option B) (result : Option A) (P : Type 0) → copied None ≡ None → (copied result ≡ None → P) → IfNone result P
if_none copied None P same then_ = then_ same
if_none copied (Some x) P same then_ = tt

-- ---- what is told
pub says_itself : (answer : OpAnswer) → SaysTheSame answer answer
says_itself (op.Probed key found) = (refl, refl)
says_itself (op.Joined id era rescanned) = refl
says_itself (op.Left id era rescanned) = refl
says_itself (op.Resized need_prep need_acc era rescanned) = refl
says_itself (op.Refused fault) = refl
says_itself (op.Busy era) = refl
says_itself (op.Collected key ballot removed kept) = refl
says_itself (op.NotEmpty version) = refl
says_itself (op.Absent acceptor) = refl
says_itself (op.ProposerDown proposer) = refl
says_itself (op.Stopped answer) = refl

-- the open call was told so
pub told_last : {S V : Type 0} (old new : View S V) (order : OrderView) (answer said : OpAnswer) → old.council.order ≡ Some order → new ≡ told_view old answer → said ≡ answer → WasToldOrder new said
told_last {S} {V} old new order answer said is_open is same = record {
  order = told_so answer order;
  is_open = ap (λ (v : View S V). v.council.order) is ∙ ap (option_map (told_so answer)) is_open;
  said = answer;
  was_said = refl;
  same = subst (λ (a : OpAnswer). SaysTheSame answer a) (sym same) (says_itself answer);
}

-- ---- a change begins
pub planned : (to : Target) (era : Era) (used : List ℕ) → IsPlanned era used (asked_of to) (planned_of to era used)
planned (target.Join id) era used = plans.joins id refl refl
planned (target.Leave id) era used = plans.leaves id refl refl
planned (target.Resize need_prep need_acc) era used = plans.resizes need_prep need_acc refl refl

pub welcomed : {S V : Type 0} (m : Meaning S V) (old middle : View S V) (id : ℕ) → Step m old (step.RestartAcceptor id) middle → Welcomes m old (to_do.Join id) middle
welcomed m old middle id (step.was_up acceptor at up same) = plans.is_up id acceptor refl at up same
welcomed m old middle id (step.starts acceptor now at by is) = plans.starts id acceptor now refl at by is
welcomed m old middle id (step.fails acceptor now at by is) = plans.fails id acceptor now refl at by is

-- beside a call for that no collection is under way
pub none_collected : {S V : Type 0} (view : View S V) (to : Target) → IsSafe view → MayOpenPlan view (asked_of to) → view.council.collection ≡ None
none_collected {S} {V} view to safe may = by_option view.council.collection refl
  where
    other : (to : Target) (key : List ℕ) → to_do.Collect key ≡ asked_of to → ⊥
    other (target.Join id) key is = cc is
    other (target.Leave id) key is = cc is
    other (target.Resize need_prep need_acc) key is = cc is

    by_option : (o : Option CollectionView) → view.council.collection ≡ o → view.council.collection ≡ None
    by_option None is = is
    by_option (Some c) is =
        let of = safe.collection.each c is in
        absurd (other to c.course.key (sym of.is_for ∙ ap (λ (o : OrderView). o.asked) (some_is (sym of.is_open ∙ may.is_open)) ∙ may.is_for))

pub opens_plan : {S V : Type 0} (m : Meaning S V) (old new : View S V) (to : Target) (desk : DeskView V) → IsSafe old → MayOpenPlan old (asked_of to) → IsAt old.desks 0 desk → OpensPlan m old (asked_of to) desk new
    → ((plan : PlanView) → old.council.plan ≡ None → new.council.plan ≡ Some plan → FailsByFaults m old (asked_of to) new) → StepOpenPlan m old new
opens_plan m old new to desk safe may at by faulted = record {
  order = may.order;
  is_open = may.is_open;
  none_collected = none_collected old to safe may;
  desk = desk;
  at_desk = at;
  opens = subst (λ (a : Asked). OpensPlan m old a desk new) (sym may.is_for) by;
  faulted = λ plan none opened. subst (λ (a : Asked). FailsByFaults m old a new) (sym may.is_for) (faulted plan none opened);
}

-- it failed by one fault
pub one_fault : (result : Result ⊤ ShelfFault) {p q : ShelfFault} → result ≡ Err p → result ≡ Err q → p ≡ q
one_fault result {p} {q} first second = ap fault_of (sym first ∙ second)
  where
    fault_of : Result ⊤ ShelfFault → ShelfFault
    fault_of (Ok done) = q
    fault_of (Err fault) = fault

-- who joins
abbrev pub joined_of : Asked → ℕ
joined_of (to_do.Join id) = id
joined_of other = 0

-- where the open call is told something no change begins
pub none_begins : {S V : Type 0} (m : Meaning S V) (old middle new : View S V) (asked : Asked) (answer : OpAnswer) → middle.council ≡ old.council → new ≡ told_view middle answer
    → (plan : PlanView) → old.council.plan ≡ None → new.council.plan ≡ Some plan → FailsByFaults m old asked new
none_begins {S} {V} m old middle new asked answer same is plan none some = absurd (cc (sym none ∙ sym (ap (λ (c : Council). c.plan) same) ∙ sym (ap (λ (v : View S V). v.council.plan) is) ∙ some))

-- a shelf that was to start for the first time did not, and not for want of memory: its count of faults rose
pub start_faulted : {S : Type 0} (m : ShelfMeaning S) (was now : AcceptorView S) (result : Result ⊤ ShelfFault) → TellsOfAcceptor m was now result → (result ≡ Err shelf_fault.NoMemory → ⊥) → was.started ≡ false → now.down ≡ true
    → Rose (m.faults was.shelf) (m.faults now.shelf)
start_faulted {S} m was now (Ok done) tells not_that fresh down = absurd (cc (sym tells.up ∙ down))
start_faulted {S} m was now (Err shelf_fault.DiskFault) tells not_that fresh down = tells.cause.failed refl
start_faulted {S} m was now (Err (shelf_fault.Foreign at)) tells not_that fresh down = absurd (tells.start_not_foreign fresh at refl)
start_faulted {S} m was now (Err shelf_fault.Full) tells not_that fresh down = absurd (tells.not_full refl)
start_faulted {S} m was now (Err shelf_fault.NoMemory) tells not_that fresh down = absurd (not_that refl)

-- an era's number is at most that of the marks
pub few_entries : (marks : List Mark) → length (entries_in marks) ≤ length marks
few_entries [] = omega arith
few_entries (mark.EraEntered proposer era ∷ marks) = let rest : length (entries_in marks) ≤ length marks = few_entries marks in omega (arith, rest)
few_entries (mark.Begun caller call key program ∷ marks) = let rest : length (entries_in marks) ≤ length marks = few_entries marks in omega (arith, rest)
few_entries (mark.Proposed p ∷ marks) = let rest : length (entries_in marks) ≤ length marks = few_entries marks in omega (arith, rest)
few_entries (mark.Voted acceptor key ballot ∷ marks) = let rest : length (entries_in marks) ≤ length marks = few_entries marks in omega (arith, rest)
few_entries (mark.Acked a ∷ marks) = let rest : length (entries_in marks) ≤ length marks = few_entries marks in omega (arith, rest)
few_entries (mark.Floor key ballot state ∷ marks) = let rest : length (entries_in marks) ≤ length marks = few_entries marks in omega (arith, rest)
few_entries (mark.Ended caller call rounds answer ∷ marks) = let rest : length (entries_in marks) ≤ length marks = few_entries marks in omega (arith, rest)
few_entries (mark.Harmed caller call down ∷ marks) = let rest : length (entries_in marks) ≤ length marks = few_entries marks in omega (arith, rest)
few_entries (mark.Told asked answer ∷ marks) = let rest : length (entries_in marks) ≤ length marks = few_entries marks in omega (arith, rest)

-- only an acceptor changes with that
pub welcome_council : {S V : Type 0} (m : Meaning S V) (old middle : View S V) (asked : Asked) → Welcomes m old asked middle → middle.council ≡ old.council
welcome_council {S} {V} m old middle asked (plans.starts id acceptor now joins at by is) = ap (λ (v : View S V). v.council) is
welcome_council {S} {V} m old middle asked (plans.fails id acceptor now joins at by is) = ap (λ (v : View S V). v.council) is
welcome_council {S} {V} m old middle asked (plans.is_up id acceptor joins at up is) = ap (λ (v : View S V). v.council) is
welcome_council {S} {V} m old middle asked (plans.stays joins_none is) = ap (λ (v : View S V). v.council) is

-- with no change under way the era is whole, and its number is small
pub settled_era : {S V : Type 0} (view : View S V) → IsSafe view → view.council.plan ≡ None → IsWhole (era_at view 0)
settled_era {S} {V} view safe none = let settled : IsSettled (course_of view) = subst (λ (o : Option PlanView). IsOnCourse (course_of view) o) none safe.course.under_way in settled.whole

pub few_eras : {S V : Type 0} (view : View S V) → IsSafe view → view.council.plan ≡ None → (era_at view 0).number + 2 < 2 ^ 32
few_eras {S} {V} view safe none =
    omega (arith, safe.course.entries.counted, few_entries view.marks, safe.sound.room, ap (λ (o : Option PlanView). (base_of o view.eras).number) none)

pub none_there : {A : Type 0} (o : Option A) → is_some o ≡ false → o ≡ None
none_there None is = refl
none_there (Some x) is = absurd (cc is)

pub planned_from : (to : Target) (era e : Era) (used u : List ℕ) (result : Result Progress PlanFault) → e ≡ era → u ≡ used → planned_of to e u ≡ result → IsPlanned era used (asked_of to) result
planned_from to era e used u result e_is u_is is = subst (IsPlanned era used (asked_of to)) ((λ i. planned_of to (sym e_is i) (sym u_is i)) ∙ is) (planned to era used)

pub is_under_way : {S V : Type 0} (middle new : View S V) (asked : Asked) (progress : Progress) (order : OrderView) → new ≡ opened_plan middle asked progress → middle.council.order ≡ Some order → order.asked ≡ asked → IsUnderWay new asked
is_under_way {S} {V} middle new asked progress order is is_open is_for = record {
  order = silent_order order;
  is_open = ap (λ (v : View S V). v.council.order) is ∙ ap (option_map silent_order) is_open;
  is_for = is_for;
  untold = refl;
  plan = record { open_plan = new_plan asked progress; is_open = ap (λ (v : View S V). v.council.plan) is; same = refl };
}

-- ---- a proposer that has to enter the next era
-- it is one of the proposers
pub entrant_known : {S V : Type 0} (view : View S V) (proposer : ℕ) → IsSafe view → MayEnterNext view proposer → proposer ≤ view.last_proposer
entrant_known {S} {V} view proposer safe may =
    let moves : EraIsMoving (course_of view) may.plan = subst (λ (o : Option PlanView). IsOnCourse (course_of view) o) may.is_plan safe.course.under_way in omega (arith, moves.some_left, may.is_due)

entered_low : {S V : Type 0} (view : View S V) (plan : PlanView) → IsSafe view → view.council.plan ≡ Some plan → EraIsMoving (course_of view) plan
entered_low {S} {V} view plan safe is = subst (λ (o : Option PlanView). IsOnCourse (course_of view) o) is safe.course.under_way

-- ---- the end of a change
pub at_end : {S V : Type 0} (view : View S V) → IsSafe view → step_of view.council.plan ≡ Some Finished → IsAtEnd view
at_end {S} {V} view safe finished = by_plan view.council.plan refl finished
  where
    works_in : (plan : PlanView) (era : Era) → plan.progress.left ≡ [] → WorksIn plan 0 era → plan.progress.era ≡ era
    works_in plan era none (course.not_yet low is) = sym is
    works_in plan era none (course.entered is) = absurd (cc (sym (ap entering none) ∙ is))

    by_left : (plan : PlanView) → view.council.plan ≡ Some plan → (left : List PlanStep) → plan.progress.left ≡ left → IsStart plan.progress.era left → next_of left ≡ Finished → IsAtEnd view
    by_left plan is [] none start end = record { plan = plan; is_plan = is; none_left = none; era = works_in plan (era_at view 0) none ((entered_low view plan safe is).each 0 (omega arith)) }
    by_left plan is (Settle ∷ later) some start end = absurd (cc end)
    by_left plan is (Enter era ∷ later) some start end = absurd (cc end)
    by_left plan is (Finished ∷ later) some start end = absurd start

    by_plan : (plan : Option PlanView) → view.council.plan ≡ plan → step_of plan ≡ Some Finished → IsAtEnd view
    by_plan None is end = absurd (cc end)
    by_plan (Some plan) is end = by_left plan is plan.progress.left refl (entered_low view plan safe is).start (some_is end)

pub enters_next : {S V : Type 0} (m : Meaning S V) (old new : View S V) (proposer : ℕ) (desk : DeskView V) (caller : CallerView) (may : MayEnterNext old proposer) → IsAt old.desks proposer desk → IsAt old.callers proposer caller → EntersNext m old may.plan may.next desk new → StepEnterEra m old proposer new
enters_next {S} {V} m old new proposer desk caller may at at_caller by = record {
  plan = may.plan;
  next = may.next;
  desk = desk;
  may = record {
    is_due = may.is_due;
    order = may.order;
    is_open = may.is_order;
    is_plan = may.is_plan;
    is_for = may.is_for;
    is_next = may.is_next;
    at_desk = subst (λ (i : ℕ). IsAt old.desks i desk) (sym may.is_due) at;
    caller = caller;
    at_caller = subst (λ (i : ℕ). IsAt old.callers i caller) (sym may.is_due) at_caller;
  };
  enters = by;
}

seen_some : (call : Option OpenCall) (view : CallView) → option_map call_view call ≡ Some view → IsSome call
seen_some None view is = absurd (cc is)
seen_some (Some call) view is = refl

-- where its round is open its caller has an open call
pub open_call : {S V : Type 0} (view : View S V) (id : ℕ) (desk : DeskView V) (caller : Caller) → IsSafe view → IsAt view.desks id desk → IsAt view.callers id (caller_view caller) → (round : Option Round) → desk.round ≡ round → IsSome round → IsSome caller.call
open_call view id desk caller safe at at_caller None is some = absurd (cc some)
open_call {S} {V} view id desk caller safe at at_caller (Some round) is some =
    let open_ : IsRoundSafe (era_at view id) (caller_view caller) (queue_at view.flow id) (Some round) = subst (IsRoundSafe (era_at view id) (caller_view caller) (queue_at view.flow id)) is (safe.sound.parties id desk (caller_view caller) at at_caller).round in
    seen_some caller.call open_.call open_.is_open

pub ok_there : {A B : Type 0} (result : Result A B) (P : Type 0) → is_err result ≡ false → OnOk result P → P
ok_there (Ok x) P is has = has
ok_there (Err e) P is has = absurd (cc is)

-- what is so of the order that is there is so of each
pub by_order : {A B : Type 0} (result : Result A B) (order : OrderView) (P : OrderView → Type 0) {now : Option OrderView} → now ≡ Some order → OnOk result (P order) → OnOk result ((o : OrderView) → now ≡ Some o → P o)
by_order (Ok x) order P is has = λ o other. subst P (some_is (sym is ∙ other)) has
by_order (Err e) order P is has = tt
