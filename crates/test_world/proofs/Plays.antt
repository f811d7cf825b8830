-- What the calls of a player leave of its play.
use Rattle.std.proofs.Common.{◌≡◌, ◌≤◌, ℕ, Bool, true, false, List, Option, None, Some, Ok, Err, slice_get, slice_set, refl, sym, ap, subst, ◌∙◌, inl, inr, arith}
use Rattle.std.specs.Prelude.{Result, OnOk, OnErr, is_some}
use Rattle.cas_change.specs.declared.program.Clause.{Clause}
use Rattle.cas_fate.specs.declared.fate.Verdict.{Verdict}
use Rattle.cas_flow.specs.declared.message.Message.{Message}
use Rattle.cas_record.specs.declared.answer.Answer.{Answer}
use Rattle.cas_collect.specs.declared.collect.CollectStep.{CollectStep}
use Rattle.cas_collect.specs.declared.collect.CollectStep.TheVariants as due
use Rattle.cas_record.specs.declared.operator.OpAnswer.{OpAnswer}
use Rattle.cas_model.specs.Council.{Council, IsAtRest}
use Rattle.cas_model.specs.Safe.{IsSafe}
use Rattle.cas_model.specs.Step as step
use Rattle.cas_model.specs.Step.{Step, Event, StepBegin, StepEnd, StepStray, StepRestartProposer}
use Rattle.cas_model.specs.Calls.Step as calls
use Rattle.cas_model.specs.Calls.Step.{Rescans, RefusesCall}
use Rattle.cas_model.specs.Exchanges.Step as council
use Rattle.cas_model.specs.Exchanges.Step.{StepTell}
use Rattle.cas_model.specs.Frames.Step as frames
use Rattle.cas_model.specs.Eras.Step.{StepEnterEra}
use Rattle.cas_model.specs.Stops.Step as stops
use Rattle.cas_model.specs.Stops.Step.{CrashesDesk, StepCrashProposer}
use Rattle.cas_model.specs.View.{Meaning, View, CallerView}
use Rattle.cas_model.proofs.Places.{at_one, some_is, same_or_not, own_set, other_set}
use Rattle.cas_model.proofs.Safety.Steps.{steps_are_safe}
use Rattle.cas_world.specs.Calls.Beginning.{HasNoCall}
use Rattle.cas_world.specs.Exchanges.Exchange.{turn_of, refusal_of}
use Rattle.cas_world.specs.Eras.Plans.{IsFor, IsUnderWay, asked_to}
use Rattle.casreg_script.specs.Exchanges.Orders.{KeepsIdle}
use Rattle.casreg_script.proofs.Exchanges.Asking.{keeps_idle, tell_keeps}
use Rattle.casreg_script.proofs.Eras.Entering.{enter_idle, enters_so}
use Rattle.casreg_script.proofs.Calls.Keeping.{KeepsOthers, begin_keeps, turn_keeps, refuse_keeps, crash_keeps}
use Rattle.casreg_script.proofs.Others.{get_other}
use Rattle.casreg_script.proofs.Calls.Playing.{end_closes}
use Rattle.casreg_script.proofs.Calls.Turns.{as_turn, as_refusal}
use Rattle.casreg_script.specs.Collection.Collecting.{IsDue}
use Rattle.test_world.specs.Play.{Goes, IsOrder, IsPlay, IsRenewing, StandsStill, renews, renewed}
use Rattle.test_world.specs.Tasks.{is_change, is_collection}
use Rattle.test_world.specs.declared.task.Plan.{Plan}
use Rattle.test_world.specs.declared.task.Task.{Task}
use Rattle.test_world.specs.declared.task.Task.TheVariants.{Change, Collection}

-- ---- parts of a play
due_then : {S V : Type 0} (old new : View S V) (key : List ℕ) (step : CollectStep) → new.council ≡ old.council → HasNoCall new 0 → IsDue old key step → IsDue new key step
due_then old new key step same own was = record {
  order = was.order;
  is_open = ap (λ (c : Council). c.order) same ∙ was.is_open;
  is_for = was.is_for;
  untold = was.untold;
  collection = was.collection;
  is_collection = ap (λ (c : Council). c.collection) same ∙ was.is_collection;
  same_key = was.same_key;
  is_due = was.is_due;
  quiet = ap (λ (c : Council). c.exchange) same ∙ was.quiet;
  idle = own;
}

renewing_then : {S V : Type 0} (old new : View S V) (key : List ℕ) → new.council ≡ old.council → HasNoCall new 0 → IsRenewing old key → IsRenewing new key
renewing_then old new key same own (renews proposer was) = renews proposer (due_then old new key (due.Renew proposer) same own was)
renewing_then old new key same own (renewed was) = renewed (due_then old new key due.Ages same own was)

order_then : {S V : Type 0} (old new : View S V) (calls : List Bool) (task : Option Task) → new.council ≡ old.council → StandsStill calls task → (slice_get calls 0 ≡ Some false → HasNoCall new 0) → IsOrder old task → IsOrder new task
order_then old new calls None same still own is = ap (λ (c : Council). c.order) same ∙ is
order_then old new calls (Some (Change plan)) same still own is = record {
  order = is.order;
  is_open = ap (λ (c : Council). c.order) same ∙ is.is_open;
  is_for = is.is_for;
  untold = is.untold;
  plan = subst (λ (c : Council). IsFor c.plan (asked_to plan.kind plan.id)) (sym same) is.plan;
}
order_then old new calls (Some (Collection key)) same still own is = renewing_then old new key same (own still) is

-- another caller's call begins or ends
still_set : (opened : List Bool) (id : ℕ) (now : Bool) (task : Option Task) → (id ≡ 0 → task ≡ None) → StandsStill opened task → StandsStill (slice_set opened id now) task
still_set opened id now None free was = tt
still_set opened id now (Some (Change plan)) free was = tt
still_set opened id now (Some (Collection key)) free was = get_other opened id now 0 (λ is. absurd (cc (free (sym is)))) ∙ was

-- a caller that is as it was
same_idle : {S V : Type 0} (old new : View S V) (id : ℕ) → slice_get new.callers id ≡ slice_get old.callers id → HasNoCall old id → HasNoCall new id
same_idle old new id same was = record { caller = was.caller; at_caller = same ∙ was.at_caller; none_open = was.none_open }

-- nothing of the operator's changes
goes : {S V : Type 0} (old new : View S V) (proposers : ℕ) (opened after : List Bool) (task : Option Task) → IsPlay old proposers opened task → IsSafe new → new.last_proposer ≡ old.last_proposer → new.council ≡ old.council
    → ((id : ℕ) → id ≤ proposers → slice_get after id ≡ Some false → HasNoCall new id) → StandsStill after task → IsPlay new proposers after task
goes old new proposers opened after task was safe last_proposer same idle still = record {
  known = last_proposer ∙ was.known;
  few = was.few;
  safe = safe;
  idle = idle;
  quiet = ap (λ (c : Council). c.exchange) same ∙ was.quiet;
  order = order_then old new after task same still (λ closed. idle 0 (omega arith) closed) was.order;
  still = still;
}

-- ---- a caller's open call goes on
pub goes_on : {S V : Type 0} (m : Meaning S V) (old new : View S V) (event : Event) (id proposers : ℕ) (opened : List Bool) (change : Option Task) → IsPlay old proposers opened change → slice_get opened id ≡ Some true
    → Step m old event new → KeepsOthers old new id → IsPlay new proposers opened change
goes_on {S} {V} m old new event id proposers opened change was is_open by keeps =
    goes old new proposers opened opened change was (steps_are_safe m old event new was.safe by) keeps.last_proposer (keeps.council was.quiet) (λ p low closed. idle p low closed) was.still
  where
    idle : (p : ℕ) → p ≤ proposers → slice_get opened p ≡ Some false → HasNoCall new p
    idle p low closed = elim (same_or_not p id) [
      | inl same ↦ absurd (cc (some_is (sym closed ∙ ap (λ (n : ℕ). slice_get opened n) same ∙ is_open)))
      | inr other ↦ same_idle old new p (keeps.others p other) (was.idle p low closed)
    ]

-- its first frame has its turn
pub turns : {S V T E : Type 0} (m : Meaning S V) (old new : View S V) (id proposers : ℕ) (verdict : Verdict) (opened : List Bool) (change : Option Task) (result : Result T E) → IsPlay old proposers opened change → slice_get opened id ≡ Some true
    → OnOk result (Step m old (turn_of old id verdict) new) → OnErr result (Step m old (refusal_of old id) new) → IsPlay new proposers opened change
turns m old new id proposers verdict opened change (Ok done) was is_open ok err =
    let by = as_turn m old new id verdict was.quiet ok in
    goes_on m old new (step.Turn id verdict) id proposers opened change was is_open by (turn_keeps m old new id verdict by)
turns m old new id proposers verdict opened change (Err error) was is_open ok err =
    let by = as_refusal m old new id was.quiet err in
    goes_on m old new (step.RefuseTurn id) id proposers opened change was is_open by (refuse_keeps m old new id by)

-- it begins
pub begins : {S V : Type 0} (m : Meaning S V) (old new : View S V) (id proposers : ℕ) (key : List ℕ) (program : List Clause) (opened after : List Bool) (change : Option Task) → IsPlay old proposers opened change → after ≡ slice_set opened id true → (id ≡ 0 → change ≡ None)
    → StepBegin m old id key program new → IsPlay new proposers after change
begins {S} {V} m old new id proposers key program opened after change was after_is free by =
    subst (λ (l : List Bool). IsPlay new proposers l change) (sym after_is)
    (goes old new proposers opened (slice_set opened id true) change was (steps_are_safe m old (step.Begin id key program) new was.safe by) keeps.last_proposer (keeps.council was.quiet) idle (still_set opened id true change free was.still))
  where
    keeps : KeepsOthers old new id
    keeps = begin_keeps m old new id key program by

    idle : (p : ℕ) → p ≤ proposers → slice_get (slice_set opened id true) p ≡ Some false → HasNoCall new p
    idle p low closed = elim (same_or_not p id) [
      | inl same ↦ absurd (cc (own_set opened id true false (subst (λ (n : ℕ). slice_get (slice_set opened id true) n ≡ Some false) same closed)))
      | inr other ↦ same_idle old new p (keeps.others p other) (was.idle p low (other_set opened id true p false other closed))
    ]

-- ---- it ends
rescans_same : {old new : Council} {id : ℕ} {key : List ℕ} {answer : Answer} → Rescans old id key answer new → (id ≡ 0 → old.order ≡ None) → new ≡ old
rescans_same (calls.rescans of done is) none = absurd (cc (sym (none of.by_operator) ∙ of.is_open))
rescans_same (calls.stops of not_done is) none = absurd (cc (sym (none of.by_operator) ∙ of.is_open))
rescans_same (calls.is_none other is) none = is

none_ordered : {S V : Type 0} (view : View S V) (proposers : ℕ) (opened : List Bool) (change : Option Task) → IsPlay view proposers opened change → change ≡ None → view.council.order ≡ None
none_ordered view proposers opened change was none = subst (IsOrder view) none was.order

-- a step of its round was the last before
pub record EndsByStep {S V : Type 0} (m : Meaning S V) (old new : View S V) (id : ℕ) : Type 0 where
  pub mid : View S V
  pub safe : IsSafe mid
  pub keeps : KeepsOthers old mid id
  pub told : Answer
  pub ends : StepEnd m mid id told new

pub ends_after : {S V : Type 0} (m : Meaning S V) (old mid new : View S V) (event : Event) (id : ℕ) (told : Answer) → IsSafe old → Step m old event mid → KeepsOthers old mid id → StepEnd m mid id told new → EndsByStep m old new id
ends_after m old mid new event id told safe by keeps ends = record { mid = mid; safe = steps_are_safe m old event mid safe by; keeps = keeps; told = told; ends = ends }

-- it was closed by another
pub ends_so : {S V : Type 0} (m : Meaning S V) (old new : View S V) (id : ℕ) (told : Answer) → IsSafe old → StepEnd m old id told new → EndsByStep m old new id
ends_so m old new id told safe ends = record { mid = old; safe = safe; keeps = record { last_proposer = refl; others = λ p other. refl; council = λ quiet. refl }; told = told; ends = ends }

ended : {S V : Type 0} (m : Meaning S V) (old new : View S V) (id proposers : ℕ) (opened after : List Bool) (change : Option Task) → IsPlay old proposers opened change → (id ≡ 0 → change ≡ None)
    → ((p : ℕ) → (p ≡ id → ⊥) → slice_get after p ≡ Some false → slice_get opened p ≡ Some false) → StandsStill after change → EndsByStep m old new id → IsPlay new proposers after change
ended {S} {V} m old new id proposers opened after change was free others still by =
    goes old new proposers opened after change was (steps_are_safe m by.mid (step.End id by.told) new by.safe by.ends) (ap (λ (w : View S V). w.last_proposer) by.ends.ends.view ∙ by.keeps.last_proposer) (same ∙ before) idle still
  where
    before : by.mid.council ≡ old.council
    before = by.keeps.council was.quiet

    same : new.council ≡ by.mid.council
    same = ap (λ (w : View S V). w.council) by.ends.ends.view
        ∙ rescans_same by.ends.ends.rescans (λ operator. ap (λ (c : Council). c.order) before ∙ none_ordered old proposers opened change was (free operator))

    idle : (p : ℕ) → p ≤ proposers → slice_get after p ≡ Some false → HasNoCall new p
    idle p low closed = elim (same_or_not p id) [
      | inl is ↦ subst (HasNoCall new) (sym is) (end_closes m by.mid new id by.told by.ends)
      | inr other ↦ same_idle old new p (ap (λ (w : View S V). slice_get w.callers p) by.ends.ends.view ∙ get_other by.mid.callers id _ p other ∙ by.keeps.others p other) (was.idle p low (others p other closed))
    ]

pub ends : {S V : Type 0} (m : Meaning S V) (old new : View S V) (id proposers : ℕ) (opened after : List Bool) (change : Option Task) → IsPlay old proposers opened change → after ≡ slice_set opened id false → (id ≡ 0 → change ≡ None)
    → EndsByStep m old new id → IsPlay new proposers after change
ends m old new id proposers opened after change was after_is free by =
    subst (λ (l : List Bool). IsPlay new proposers l change) (sym after_is) (ended m old new id proposers opened (slice_set opened id false) change was free (λ p other closed. other_set opened id false p false other closed) (still_set opened id false change free was.still) by)

-- one that was begun and ended at once
pub ends_at_once : {S V : Type 0} (m : Meaning S V) (old new : View S V) (id proposers : ℕ) (opened : List Bool) (change : Option Task) → IsPlay old proposers opened change → (id ≡ 0 → change ≡ None) → EndsByStep m old new id → IsPlay new proposers opened change
ends_at_once m old new id proposers opened change was free by = ended m old new id proposers opened opened change was free (λ p other closed. closed) was.still by

-- ---- callers stay
pub record Unchanged {S V : Type 0} (old new : View S V) : Type 0 where
  pub idle : KeepsIdle old new
  pub council : new.council ≡ old.council

unchanged_by : {S V : Type 0} (old changed new : View S V) → new ≡ changed → changed.last_proposer ≡ old.last_proposer → changed.callers ≡ old.callers → changed.council ≡ old.council → Unchanged old new
unchanged_by {S} {V} old changed new is last_proposer callers council = record {
  idle = record {
    last_proposer = ap (λ (w : View S V). w.last_proposer) is ∙ last_proposer;
    idle = λ id was. same_idle old new id (ap (λ (w : View S V). slice_get w.callers id) is ∙ ap (λ (l : List CallerView). slice_get l id) callers) was;
  };
  council = ap (λ (w : View S V). w.council) is ∙ council;
}

pub stays : {S V : Type 0} (m : Meaning S V) (old new : View S V) (event : Event) (proposers : ℕ) (opened : List Bool) (change : Option Task) → IsPlay old proposers opened change → Step m old event new → Unchanged old new → IsPlay new proposers opened change
stays m old new event proposers opened change was by same =
    goes old new proposers opened opened change was (steps_are_safe m old event new was.safe by) same.idle.last_proposer same.council (λ id low closed. same.idle.idle id (was.idle id low closed)) was.still

-- a call is not begun
pub refused : {S V : Type 0} (m : Meaning S V) (old new : View S V) (id proposers : ℕ) (key : List ℕ) (opened : List Bool) (change : Option Task) → IsPlay old proposers opened change → (id ≡ 0 → change ≡ None) → RefusesCall m old id key new
    → Unchanged old new
refused m old new id proposers key opened change was free (calls.stays told council refusal anew is) =
    unchanged_by old _ new is refl refl (rescans_same anew (λ operator. none_ordered old proposers opened change was (free operator)))
refused m old new id proposers key opened change was free (calls.loses caller desk now ballot council at_caller at_desk none up loses anew is) =
    unchanged_by old _ new is refl refl (rescans_same anew (λ operator. none_ordered old proposers opened change was (free operator)))

-- a proposer stops and is up again
pub proposer_restarts : {S V : Type 0} (m : Meaning S V) (old new : View S V) (id : ℕ) → StepRestartProposer m old id new → Unchanged old new
proposer_restarts m old new id (step.was_up_already desk at up is) = unchanged_by old old new is refl refl refl
proposer_restarts m old new id (step.restarts desk now caller at at_caller down restarts is) = unchanged_by old _ new is refl refl refl

desk_idle : {S V : Type 0} (m : Meaning S V) (old new : View S V) (id : ℕ) → CrashesDesk m old id new → KeepsIdle old new
desk_idle m old new id (stops.idle desk now at none crashes is) = (unchanged_by old _ new is refl refl refl).idle
desk_idle {S} {V} m old new id (stops.closes desk now round at there is_round crashes is) = record { last_proposer = ap (λ (w : View S V). w.last_proposer) is; idle = still }
  where
    still : (p : ℕ) → HasNoCall old p → HasNoCall new p
    still p was = elim (same_or_not p id) [
      | inl same ↦
          absurd (cc (sym was.none_open ∙ ap (λ (c : CallerView). c.call) (at_one old.callers id (subst (λ (n : ℕ). slice_get old.callers n ≡ Some was.caller) same was.at_caller) at.at_caller) ∙ at.is_open))
      | inr other ↦ same_idle old new p (ap (λ (w : View S V). slice_get w.callers p) is ∙ get_other old.callers id _ p other) was
    ]

pub proposer_crashes : {S V : Type 0} (m : Meaning S V) (old new : View S V) (id : ℕ) → old.council.exchange ≡ None → StepCrashProposer m old id new → Unchanged old new
proposer_crashes {S} {V} m old new id quiet by = record { idle = by_who by; council = (crash_keeps m old new id by).council quiet }
  where
    by_who : StepCrashProposer m old id new → KeepsIdle old new
    by_who (stops.of_client client crashes) = desk_idle m old new id crashes
    by_who (stops.of_operator middle operator crashes is) =
        let before = desk_idle m old middle id crashes in
        record {
          last_proposer = ap (λ (w : View S V). w.last_proposer) is ∙ before.last_proposer;
          idle = λ p was. same_idle middle new p (ap (λ (w : View S V). slice_get w.callers p) is) (before.idle p was);
        }

-- a late frame strays in
pub strays_in : {S V : Type 0} (m : Meaning S V) (old new : View S V) (index : ℕ) → StepStray m old index new → Unchanged old new
strays_in m old new index by = by_case by.late by.strays
  where
    by_case : (late : Message) → frames.Strays m old index late new → Unchanged old new
    by_case late (frames.answers request acceptor now reply late_is at table is) = unchanged_by old _ new is refl refl refl
    by_case late (frames.brings_down request acceptor now late_is at stops is) = unchanged_by old _ new is refl refl refl
    by_case late (frames.arrives reply desk now round heard late_is at is_round hears is) = unchanged_by old _ new is refl refl refl
    by_case late (frames.drops ignored is) = unchanged_by old _ new is refl refl refl

pub strays_not : {S V : Type 0} (m : Meaning S V) (old new : View S V) → frames.FindsNoRoom m old new → Unchanged old new
strays_not m old new (frames.stays is) = unchanged_by old old new is refl refl refl
strays_not m old new (frames.kept id acceptor now there finds is) = unchanged_by old _ new is refl refl refl

pub strays : {S V T E : Type 0} (m : Meaning S V) (old new : View S V) (index proposers : ℕ) (opened : List Bool) (change : Option Task) (result : Result T E) → IsPlay old proposers opened change → OnOk result (StepStray m old index new)
    → OnErr result (frames.FindsNoRoom m old new) → IsPlay new proposers opened change
strays m old new index proposers opened change (Ok peer) was ok err = stays m old new (step.Stray index) proposers opened change was ok (strays_in m old new index ok)
strays m old new index proposers opened change (Err fault) was ok err = stays m old new step.RefuseStray proposers opened change was err (strays_not m old new err)

-- ---- the operator's call
-- it is told its answer
pub is_told : {S V : Type 0} (m : Meaning S V) (old mid new : View S V) (told : OpAnswer) (proposers : ℕ) (opened : List Bool) (change : Option Task) → IsPlay old proposers opened change → KeepsIdle old mid → IsSafe mid → StepTell mid told new
    → IsPlay new proposers opened None
is_told {S} {V} m old mid new told proposers opened change was before safe by =
    let after = keeps_idle mid new (tell_keeps mid new told by) in
    record {
      known = after.last_proposer ∙ before.last_proposer ∙ was.known;
      few = was.few;
      safe = steps_are_safe m mid (step.Tell told) new safe by;
      idle = λ id low closed. after.idle id (before.idle id (was.idle id low closed));
      quiet = none_asks by;
      order = none_told by;
      still = tt;
    }
  where
    none_asks : StepTell mid told new → new.council.exchange ≡ None
    none_asks (council.tells order said is_open was_told same is) = ap (λ (w : View S V). w.council.exchange) is
    none_asks (council.finishes order is_open by is) = ap (λ (w : View S V). w.council.exchange) is
    none_asks (council.collects order is_open by is) = ap (λ (w : View S V). w.council.exchange) is

    none_told : StepTell mid told new → new.council.order ≡ None
    none_told (council.tells order said is_open was_told same is) = ap (λ (w : View S V). w.council.order) is
    none_told (council.finishes order is_open by is) = ap (λ (w : View S V). w.council.order) is
    none_told (council.collects order is_open by is) = ap (λ (w : View S V). w.council.order) is

-- the next proposer enters the era
pub enters : {S V : Type 0} (m : Meaning S V) (old new : View S V) (id : ℕ) (plan : Plan) (proposers : ℕ) (opened : List Bool) → IsPlay old proposers opened (Some (Change plan)) → id ≤ old.last_proposer → IsUnderWay new (asked_to plan.kind plan.id) → StepEnterEra m old id new
    → IsPlay new proposers opened (Some (Change plan))
enters m old new id plan proposers opened was low now by =
    let keeps = enter_idle m old new id by in
    record {
      known = keeps.last_proposer ∙ was.known;
      few = was.few;
      safe = steps_are_safe m old (step.EnterEra id) new was.safe by;
      idle = λ p known closed. keeps.idle p (was.idle p known closed);
      quiet = (enters_so m old new id (asked_to plan.kind plan.id) low now by).exchange ∙ was.quiet;
      order = now;
      still = tt;
    }

-- ---- a collection
-- it is led on, or began
pub collects : {S V : Type 0} (old new : View S V) (key : List ℕ) (proposers : ℕ) (opened : List Bool) (task : Option Task) → IsPlay old proposers opened task → slice_get opened 0 ≡ Some false → Goes old new → IsRenewing new key
    → new.council.exchange ≡ None → IsPlay new proposers opened (Some (Collection key))
collects old new key proposers opened task was closed by now quiet = record {
  known = by.idle.last_proposer ∙ was.known;
  few = was.few;
  safe = by.safe was.safe;
  idle = λ id low none. by.idle.idle id (was.idle id low none);
  quiet = quiet;
  order = now;
  still = closed;
}

-- none is under way after it
pub rests : {S V : Type 0} (old new : View S V) (proposers : ℕ) (opened : List Bool) (task : Option Task) → IsPlay old proposers opened task → Goes old new → IsAtRest new.council → IsPlay new proposers opened None
rests old new proposers opened task was by rest = record {
  known = by.idle.last_proposer ∙ was.known;
  few = was.few;
  safe = by.safe was.safe;
  idle = λ id low none. by.idle.idle id (was.idle id low none);
  quiet = rest.exchange;
  order = rest.order;
  still = tt;
}

-- ---- what is not under way
pub none_of : {A : Type 0} (o : Option A) → is_some o ≡ false → o ≡ None
none_of None none = refl
none_of (Some there) none = absurd (cc none)

-- a play without a task is at rest
pub at_rest : {S V : Type 0} (view : View S V) (proposers : ℕ) (opened : List Bool) (task : Option Task) → IsPlay view proposers opened task → is_some task ≡ false → IsAtRest view.council
at_rest view proposers opened task was none = record { order = none_ordered view proposers opened task was (none_of task none); exchange = was.quiet }

-- ---- what is under way
pub change_of : (task : Option Task) → is_change task ≡ true → (plan : Plan) × (task ≡ Some (Change plan))
change_of None is = absurd (cc is)
change_of (Some (Change plan)) is = (plan, refl)
change_of (Some (Collection key)) is = absurd (cc is)

pub collection_of : (task : Option Task) → is_collection task ≡ true → (key : List ℕ) × (task ≡ Some (Collection key))
collection_of None is = absurd (cc is)
collection_of (Some (Change plan)) is = absurd (cc is)
collection_of (Some (Collection key)) is = (key, refl)
