-- What the calls of a collection's rounds do to how far it has come.
use Rattle.std.proofs.Common.{◌≡◌, ℕ, Bool, true, false, List, None, Some, slice_get, slice_set, inl, inr, refl, sym, ap, subst, ◌∙◌}
use Rattle.std.specs.Prelude.{◌⊎◌, ◌↔◌, Result, Ok, Err, IfErr, OnErr}
use Rattle.cas_base.proofs.Bools.{true_or_false}
use Rattle.cas_change.specs.declared.program.Clause.{Clause}
use Rattle.cas_collect.specs.Order.{Collection}
use Rattle.cas_collect.specs.declared.collect.CollectStep.TheVariants.{Round}
use Rattle.cas_proposer.specs.Desk.{DeskView}
use Rattle.cas_proposer.specs.declared.round.Round as rounds
use Rattle.cas_record.specs.declared.answer.Answer.{Answer}
use Rattle.cas_record.specs.declared.answer.Answer.TheVariants as answer
use Rattle.cas_record.specs.declared.operator.Asked.TheVariants as operators
use Rattle.cas_record.specs.declared.operator.OpAnswer.{OpAnswer}
use Rattle.cas_record.specs.declared.operator.OpAnswer.TheVariants as op
use Rattle.cas_round.specs.declared.verdict.RoundVerdict.{RoundVerdict}
use Rattle.cas_round.specs.declared.verdict.RoundVerdict.TheVariants as verdict
use Rattle.cas_world_calls.specs.Collecting.{is_sought}
use Rattle.cas_model.specs.Collection.State.{CollectionView, FoundHeld, called}
use Rattle.cas_model.specs.Council.{Council, OrderView}
use Rattle.cas_protocol.specs.Protocol.{is_done}
use Rattle.cas_model.specs.Step.{Step, StepBegin, StepPropose, StepCount, BeginCollect, CountCollect, EndCollect}
use Rattle.cas_model.specs.Calls.Step as calls
use Rattle.cas_model.specs.Calls.Step.{refusal_by}
use Rattle.cas_model.specs.Collection.Step as collects
use Rattle.cas_model.specs.Collection.Step.{IsCollecting, BeginsCollection, CountedAs, StepReadHeld, collecting, keep_always, stopped_by}
use Rattle.cas_model.specs.Stops.Step.{OpenCallAt}
use Rattle.cas_model.specs.View.{Meaning, View, CallView, CallerView, IsAt}
use Rattle.cas_model.proofs.Places.{at_one, at_set, some_is}
use Rattle.cas_world.specs.Calls.Beginning.{HasNoCall, MayBegin, first, another}
use Rattle.cas_world.specs.Collection.Collect.{MayCollectKey, HasCollected, CollectsNot, IsCollectingCall, CountsTombstone, FindsHeld, is_refused, is_told, leaves_no_call}
use Rattle.cas_world.specs.Exchanges.Exchange.{WasToldOrder}
use Rattle.cas_world.specs.Calls.Reading.{HasProposed}
use Rattle.cas_world.specs.World.{WasTold}
use Rattle.cas_world.specs.declared.collect.Reading.{Reading}
use Rattle.cas_world.specs.declared.collect.Reading.TheVariants as reading
use Rattle.casreg_script.specs.Calls.Changes.{IsMet}
use Rattle.casreg_script.specs.Collection.Collecting.{IsSeeking, IsRunning, IsInRound, HasStopped, IsTombstoneSet}
use Rattle.casreg_script.specs.Collection.Collections.{EndsReading, proposes, reads_held, EndsVoting, acknowledges, leaves_open, IsUnsettled}
use Rattle.casreg_script.specs.Exchanges.Orders.{IsFree, IsOrdered}
use Rattle.casreg_script.specs.Calls.Playing.{AskedCall, IsCallFor, HasBegun, IsPlaying, IsOver}
use Rattle.casreg_script.proofs.Calls.Keeping.{begin_keeps, propose_keeps, count_keeps}
use Rattle.casreg_script.proofs.Calls.Playing.{same_call, told_in, has_begun, begun_over, begun_not_met, propose_plays, propose_over, count_over, end_closes}

-- ---- the same callers and desks
module _ {S V : Type 0} (old new : View S V) (callers : new.callers ≡ old.callers) where
  call_same : (id : ℕ) (asked : AskedCall) (call : CallView) → IsCallFor old id asked call → IsCallFor new id asked call
  call_same id asked call was = record { caller = was.caller; at_caller = ap (λ (l : List CallerView). slice_get l id) callers ∙ was.at_caller; number = was.number; is_call = was.is_call; key = was.key; program = was.program }

  told_same : (id number : ℕ) (told : Answer) → WasTold old id number told → WasTold new id number told
  told_same id number told was = record { caller = was.caller; at_caller = ap (λ (l : List CallerView). slice_get l id) callers ∙ was.at_caller; same_number = was.same_number; call = was.call; is_open = was.is_open; told = was.told }

  met_same : (id : ℕ) → IsMet old id → IsMet new id
  met_same id was = record { of_call = record { caller = was.of_call.caller; at_caller = ap (λ (l : List CallerView). slice_get l id) callers ∙ was.of_call.at_caller; call = was.of_call.call; is_open = was.of_call.is_open }; met = was.met }

  may_same : (id number : ℕ) (key : List ℕ) (program : List Clause) → new.desks ≡ old.desks → MayBegin old id number key program → MayBegin new id number key program
  may_same id number key program desks (first caller at none is) = first caller (ap (λ (l : List CallerView). slice_get l id) callers ∙ at) none is
  may_same id number key program desks (another caller call at is_call is same_key same_program none met no_round) =
      another caller call (ap (λ (l : List CallerView). slice_get l id) callers ∙ at) is_call is same_key same_program none met (λ desk at_desk. no_round desk (sym (ap (λ (l : List (DeskView V)). slice_get l id) desks) ∙ at_desk))

  begun_same : (id : ℕ) (asked : AskedCall) → new.desks ≡ old.desks → new.council.exchange ≡ None → HasBegun old id asked → HasBegun new id asked
  begun_same id asked desks quiet was = record {
    call = was.call;
    is_for = call_same id asked was.call was.is_for;
    desk = was.desk;
    at_desk = ap (λ (l : List (DeskView V)). slice_get l id) desks ∙ was.at_desk;
    is_open = was.is_open;
    quiet = quiet;
  }

  over_same : (id : ℕ) (asked : AskedCall) (told : Answer) → new.desks ≡ old.desks → new.council.exchange ≡ None → IsOver old id asked told → IsOver new id asked told
  over_same id asked told desks quiet was = record {
    call = was.call;
    is_for = call_same id asked was.call was.is_for;
    was_told = told_same id asked.number told was.was_told;
    quiet = quiet;
    again = λ met conflict. may_same id asked.number asked.key asked.program desks (was.again met conflict);
  }

-- ---- what the operator's call seeks
seeks_by : (council : Council) (key : List ℕ) (order : OrderView) (collection : CollectionView) → council.order ≡ Some (record order { told = None }) → council.collection ≡ Some collection → order.asked ≡ operators.Collect collection.course.key
    → collection.course.key ≡ key → collection.course.step ≡ Round → collection.calling ≡ true → council.plan ≡ None → IsSeeking council key
seeks_by council key order collection is_open is_collection is_for same_key is_due calling none_planned = record {
  is = record {
    at = record { order = record order { told = None }; is_open = is_open; collection = collection; is_collection = is_collection; is_for = is_for };
    is_due = is_due;
    calling = calling;
    same_key = same_key;
  };
  untold = refl;
  none_planned = none_planned;
}

pub seeks_on : {S V : Type 0} (old new : View S V) (key : List ℕ) → new.council ≡ old.council → IsSeeking old.council key → IsSeeking new.council key
seeks_on old new key same was = subst (λ (c : Council). IsSeeking c key) (sym same) was

-- the call that is open is that of the collection
pub collecting_call : {S V : Type 0} (view : View S V) (asked : AskedCall) (call : CallView) → IsCallFor view 0 asked call → IsSeeking view.council asked.key → IsCollectingCall view
collecting_call view asked call is seeks = record {
  of_call = record { caller = is.caller; at_caller = is.at_caller; call = call; is_open = is.is_call };
  is = subst (IsCollecting view.council) (sym is.key) seeks.is;
}

-- ---- its call begins
pub may_collect_first : {S V : Type 0} (view : View S V) (key : List ℕ) → IsOrdered view (operators.Collect key) → IsFree view → MayCollectKey view key
may_collect_first {S} {V} view key was free = record {
  order = was.order;
  is_open = was.is_open;
  is_for = was.is_for;
  none_asked = free.quiet;
  goes_on = λ caller call at is. absurd (cc (sym is ∙ ap (λ (c : CallerView). c.call) (at_one view.callers 0 at free.idle.at_caller) ∙ free.idle.none_open));
}

pub may_collect_again : {S V : Type 0} (view : View S V) (asked : AskedCall) (told : Answer) → HasStopped view asked told → MayCollectKey view asked.key
may_collect_again view asked told was = record {
  order = was.seeks.is.at.order;
  is_open = was.seeks.is.at.is_open;
  is_for = was.seeks.is.at.is_for ∙ ap operators.Collect was.seeks.is.same_key;
  none_asked = was.over.quiet;
  goes_on = λ caller call at is. was.seeks.is;
}

-- a call of it that is open began as any other
record BegunSo {S V : Type 0} (m : Meaning S V) (old : View S V) (key : List ℕ) (new : View S V) : Type 0 where
  middle : View S V
  begins : StepBegin m old 0 key keep_always middle
  order : OrderView
  collection : CollectionView
  is : new ≡ collecting middle order None collection

-- no call of the caller is open where none was before
not_open : {S V A : Type 0} (old new : View S V) (caller : CallerView) → new.callers ≡ old.callers → IsAt old.callers 0 caller → caller.call ≡ None → OpenCallAt new 0 → A
not_open old new caller callers at none open_call =
    absurd (cc (sym open_call.is_open ∙ ap (λ (c : CallerView). c.call) (at_one old.callers 0 (ap (λ (l : List CallerView). slice_get l 0) (sym callers) ∙ open_call.at_caller) at) ∙ none))

refused_callers : {S V : Type 0} (m : Meaning S V) (old middle : View S V) (key : List ℕ) → calls.RefusesCall m old 0 key middle → middle.callers ≡ old.callers
refused_callers {S} {V} m old middle key (calls.stays told council refusal anew is) = ap (λ (w : View S V). w.callers) is
refused_callers {S} {V} m old middle key (calls.loses caller desk now ballot council at_caller at_desk none up loses anew is) = ap (λ (w : View S V). w.callers) is

module _ {S V : Type 0} (m : Meaning S V) (old new : View S V) (key : List ℕ) (by : Step m old (BeginCollect key) new) where
  begun_so : OpenCallAt new 0 → BegunSo m old key new
  begun_so open_call = by_case by.begins
    where
      by_case : BeginsCollection m (λ before after. StepBegin m before 0 key keep_always after) old key by.may.order by.desk by.caller new → BegunSo m old key new
      by_case (collects.is_down none down is) = not_open old new by.caller (ap (λ (w : View S V). w.callers) is) by.may.at_caller none open_call
      by_case (collects.is_busy plan none up is_plan is) = not_open old new by.caller (ap (λ (w : View S V). w.callers) is) by.may.at_caller none open_call
      by_case (collects.is_full none up no_plan full is) = not_open old new by.caller (ap (λ (w : View S V). w.callers) is) by.may.at_caller none open_call
      by_case (collects.no_memory middle none up no_plan refuses is) = not_open old new by.caller (ap (λ (w : View S V). w.callers) is ∙ refused_callers m old middle key refuses) by.may.at_caller none open_call
      by_case (collects.begins middle none no_plan begins is) = record { middle = middle; begins = begins; order = by.may.order; collection = _; is = is }
      by_case (collects.goes_on middle call is_c is_call begins is) = record { middle = middle; begins = begins; order = by.may.order; collection = is_c.at.collection; is = is }

  -- it is not told of a conflict
  pub collect_not_met : {A : Type 0} → IsMet new 0 → A
  collect_not_met {A} met = let so = begun_so met.of_call in begun_not_met m old so.middle 0 key keep_always A so.begins (met_same new so.middle (sym (ap (λ (w : View S V). w.callers) so.is)) 0 met)

  planned_none : OpenCallAt new 0 → HasNoCall old 0 ⊎ (old.council.plan ≡ None) → old.council.plan ≡ None
  planned_none open_call before = by_case by.begins
    where
      by_case : BeginsCollection m (λ before after. StepBegin m before 0 key keep_always after) old key by.may.order by.desk by.caller new → old.council.plan ≡ None
      by_case (collects.is_down none down is) = not_open old new by.caller (ap (λ (w : View S V). w.callers) is) by.may.at_caller none open_call
      by_case (collects.is_busy plan none up is_plan is) = not_open old new by.caller (ap (λ (w : View S V). w.callers) is) by.may.at_caller none open_call
      by_case (collects.is_full none up no_plan full is) = no_plan
      by_case (collects.no_memory middle none up no_plan refuses is) = no_plan
      by_case (collects.begins middle none no_plan begins is) = no_plan
      by_case (collects.goes_on middle call is_c is_call begins is) = elim before [
        | inl no_call ↦ absurd (cc (sym is_call ∙ ap (λ (c : CallerView). c.call) (at_one old.callers 0 by.may.at_caller no_call.at_caller) ∙ no_call.none_open))
        | inr no_plan ↦ no_plan
      ]

  begun_seeks : OpenCallAt new 0 → HasNoCall old 0 ⊎ (old.council.plan ≡ None) → old.council.exchange ≡ None → IsCollecting new.council key → IsSeeking new.council key
  begun_seeks open_call before quiet is =
      let so = begun_so open_call in
      record {
        is = is;
        untold = ap (λ (o : OrderView). o.told) (some_is (sym is.at.is_open ∙ ap (λ (w : View S V). w.council.order) so.is));
        none_planned = ap (λ (w : View S V). w.council.plan) so.is ∙ ap (λ (c : Council). c.plan) ((begin_keeps m old so.middle 0 key keep_always so.begins).council quiet) ∙ planned_none open_call before;
      }

  -- its round is open
  pub is_running : (call : ℕ) → old.council.exchange ≡ None → HasNoCall old 0 ⊎ (old.council.plan ≡ None) → HasCollected new call key → IsRunning new (record { number = call; key = key; program = keep_always })
  is_running call quiet before has =
      let at = has.of_round in
      let so = begun_so (record { caller = at.caller; at_caller = at.at_caller; call = at.call; is_open = at.is_call }) in
      let callers : so.middle.callers ≡ new.callers = sym (ap (λ (w : View S V). w.callers) so.is) in
      let desks : so.middle.desks ≡ new.desks = sym (ap (λ (w : View S V). w.desks) so.is) in
      let begun = has_begun m old so.middle 0 call key keep_always quiet so.begins (record {
        caller = at.caller;
        at_caller = ap (λ (l : List CallerView). slice_get l 0) callers ∙ at.at_caller;
        same_number = at.same_number;
        call = at.call;
        is_call = at.is_call;
        desk = at.desk;
        at_desk = ap (λ (l : List (DeskView V)). slice_get l 0) desks ∙ at.at_desk;
        is_open = at.is_open;
      }) in
      record {
        begun = begun_same so.middle new (sym callers) 0 _ (sym desks) (ap (λ (w : View S V). w.council.exchange) so.is ∙ begun.quiet) begun;
        seeks = begun_seeks (record { caller = at.caller; at_caller = at.at_caller; call = at.call; is_open = at.is_call }) before quiet has.is;
      }

  -- or it was told why none is
  pub begun_stopped : (call : ℕ) (told : Answer) → old.council.exchange ≡ None → HasNoCall old 0 ⊎ (old.council.plan ≡ None) → is_done told ≡ false → WasTold new 0 call told → IsCollecting new.council key → HasStopped new (record { number = call; key = key; program = keep_always }) told
  begun_stopped call told quiet before not_done was is =
      let so = begun_so (record { caller = was.caller; at_caller = was.at_caller; call = was.call; is_open = was.is_open }) in
      let callers : so.middle.callers ≡ new.callers = sym (ap (λ (w : View S V). w.callers) so.is) in
      let over = begun_over m old so.middle 0 call key keep_always told quiet so.begins (told_same new so.middle callers 0 call told was) in
      record {
        over = over_same so.middle new (sym callers) 0 _ told (ap (λ (w : View S V). w.desks) so.is) (ap (λ (w : View S V). w.council.exchange) so.is ∙ over.quiet) over;
        seeks = begun_seeks (record { caller = was.caller; at_caller = was.at_caller; call = was.call; is_open = was.is_open }) before quiet is;
        known = λ done. absurd (cc (done, not_done));
      }

-- ---- its round
-- it has begun, and is in the phase that its call says
pub is_in_round : {S V : Type 0} (view : View S V) (asked : AskedCall) (proposed : Bool) → IsRunning view asked → IsPlaying view 0 asked proposed → IsInRound view asked proposed
is_in_round view asked proposed was plays = record { plays = plays; seeks = was.seeks }

-- a held state was read
pub held_tombstone_set : {S V : Type 0} (m : Meaning S V) (old new : View S V) (asked : AskedCall) (proposed : Bool) → IsInRound old asked proposed → StepReadHeld m old new → IsTombstoneSet new asked.key
held_tombstone_set {S} {V} m old new asked proposed was by =
    let of_key : by.of_call.call.key ≡ asked.key = ap (λ (c : CallView). c.key) (same_call old 0 asked was.plays.call was.plays.is_for by.of_call) ∙ was.plays.is_for.key in
    record {
      due = record {
        order = record by.is.at.order { told = None };
        is_open = ap (λ (w : View S V). w.council.order) by.view;
        is_for = by.is.at.is_for ∙ ap operators.Collect (by.is.same_key ∙ of_key);
        untold = refl;
        collection = record (called by.is.at.collection) { tombstone = FoundHeld by.version };
        is_collection = ap (λ (w : View S V). w.council.collection) by.view;
        same_key = by.is.same_key ∙ of_key;
        is_due = by.is.is_due;
        quiet = ap (λ (w : View S V). w.council.exchange) by.view ∙ was.plays.quiet;
        idle = record {
          caller = record by.of_call.caller { call = None };
          at_caller = ap (λ (w : View S V). slice_get w.callers 0) by.view ∙ at_set old.callers 0 by.of_call.caller (record by.of_call.caller { call = None }) by.of_call.at_caller;
          none_open = refl;
        };
      };
      over = refl;
      known = refl;
    }

-- the empty state is proposed
pub empty_plays : {S V : Type 0} (m : Meaning S V) (old new : View S V) (asked : AskedCall) → IsInRound old asked false → HasProposed new 0 → StepPropose m old 0 new → IsInRound new asked true
empty_plays m old new asked was has by = record {
  plays = propose_plays m old new 0 asked false was.plays has by;
  seeks = seeks_on old new asked.key ((propose_keeps m old new 0 by).council was.plays.quiet) was.seeks;
}

-- what the caller's call was told is what it says now
told_now : {S V : Type 0} (old new : View S V) (id : ℕ) (at : OpenCallAt old id) (next : CallView) (told : Answer) → new.callers ≡ slice_set old.callers id (record at.caller { call = Some next })
    → ((caller : CallerView) → slice_get old.callers id ≡ Some caller → WasTold new id caller.number told) → next.told ≡ Some told
told_now old new id at next told callers tells =
    told_in new id at.caller.number told (tells at.caller at.at_caller) (record at.caller { call = Some next }) next (subst (λ (l : List CallerView). IsAt l id (record at.caller { call = Some next })) (sym callers) (at_set old.callers id at.caller (record at.caller { call = Some next }) at.at_caller)) refl

refused_not_done : (met : RoundVerdict) (told : Answer) → refusal_by met ≡ Some told → is_done told ≡ false
refused_not_done verdict.Quorum told is = absurd (cc is)
refused_not_done (verdict.Met ballot) told is = sym (ap is_done (some_is is))
refused_not_done (verdict.Aged least) told is = sym (ap is_done (some_is is))
refused_not_done (verdict.Full acceptor) told is = sym (ap is_done (some_is is))
refused_not_done (verdict.Short got need) told is = sym (ap is_done (some_is is))

propose_not_done : {S V : Type 0} (m : Meaning S V) (old new : View S V) (told : Answer) → StepPropose m old 0 new → ((caller : CallerView) → slice_get old.callers 0 ≡ Some caller → WasTold new 0 caller.number told) → is_done told ≡ false
propose_not_done {S} {V} m old new told by tells = in_phase by.at_round.of_call by.at_round.desk by.at_round.round by.proposes
  where
    in_phase : (of_call : OpenCallAt old 0) (desk : DeskView V) (round : rounds.Round) → calls.ProposesOrEnds m old 0 desk round of_call.caller of_call.call new → is_done told ≡ false
    in_phase at desk round (calls.proposes now turned read by_ ride outcome flow quorum confirmers reads turns made sends same) = absurd (cc (told_now old new 0 at (calls.proposing at.call outcome) told (ap (λ (w : View S V). w.callers) same) tells))
    in_phase at desk round (calls.ends now met one is refuses ends same) = sym (ap is_done (some_is (told_now old new 0 at (calls.over at.call one) told (ap (λ (w : View S V). w.callers) same) tells))) ∙ refused_not_done met one refuses
    in_phase at desk round (calls.fails now fails same) = sym (ap is_done (some_is (told_now old new 0 at (calls.over at.call answer.VaultFault) told (ap (λ (w : View S V). w.callers) same) tells)))
    in_phase at desk round (calls.loses now ballot loses same) = sym (ap is_done (some_is (told_now old new 0 at (calls.over at.call (answer.NoMemory false)) told (ap (λ (w : View S V). w.callers) same) tells)))

-- nothing is proposed
pub propose_stops : {S V : Type 0} (m : Meaning S V) (old new : View S V) (asked : AskedCall) (told : Answer) → IsInRound old asked false → StepPropose m old 0 new → ((caller : CallerView) → slice_get old.callers 0 ≡ Some caller → WasTold new 0 caller.number told) → HasStopped new asked told
propose_stops m old new asked told was by tells = record {
  over = propose_over m old new 0 asked told was.plays by tells;
  seeks = seeks_on old new asked.key ((propose_keeps m old new 0 by).council was.plays.quiet) was.seeks;
  known = λ done. absurd (cc (done, propose_not_done m old new told by tells));
}

-- its frames' turns cut it off
pub cut_stops : {S V : Type 0} (old new : View S V) (asked : AskedCall) (proposed : Bool) (told : Answer) → IsInRound old asked proposed → new.council ≡ old.council → IsOver new 0 asked told → is_done told ≡ false → HasStopped new asked told
cut_stops old new asked proposed told was same over not_done = record { over = over; seeks = seeks_on old new asked.key same was.seeks; known = λ done. absurd (cc (done, not_done)) }

-- ---- what was accepted is counted
counts_done : {S V : Type 0} (m : Meaning S V) (old new : View S V) (told : Answer) → is_done told ≡ true → CountsTombstone m old told new → Step m old CountCollect new
counts_done m old new (answer.Done state took ballot) done by = by
counts_done m old new told done by = absurd (cc done)

counts_other : {S V : Type 0} (m : Meaning S V) (old new : View S V) (told : Answer) → is_done told ≡ false → CountsTombstone m old told new → StepCount m old 0 new
counts_other m old new (answer.Done state took ballot) other by = absurd (cc other)
counts_other m old new told other by = by

record CountedSo (old now : CollectionView) : Type 0 where
  course : now.course ≡ old.course
  calling : now.calling ≡ old.calling
  known : is_sought now.tombstone ≡ false

counted_so : {S V : Type 0} (old middle : View S V) (call : CallView) (collection now : CollectionView) → CountedAs old middle call collection now → CountedSo collection now
counted_so old middle call collection now (collects.acknowledges took acknowledgment told marks key era is) = record { course = ap (λ (c : CollectionView). c.course) is; calling = ap (λ (c : CollectionView). c.calling) is; known = ap (λ (c : CollectionView). is_sought c.tombstone) is }
counted_so old middle call collection now (collects.finds_held version body took ballot told is) = record { course = ap (λ (c : CollectionView). c.course) is; calling = ap (λ (c : CollectionView). c.calling) is; known = ap (λ (c : CollectionView). is_sought c.tombstone) is }

done_stops : {S V : Type 0} (m : Meaning S V) (old new : View S V) (asked : AskedCall) (told : Answer) → IsInRound old asked true → Step m old CountCollect new → ((caller : CallerView) → slice_get old.callers 0 ≡ Some caller → WasTold new 0 caller.number told) → HasStopped new asked told
unfolding seeks_by
done_stops {S} {V} m old new asked told was by tells =
    let callers : new.callers ≡ by.middle.callers = ap (λ (w : View S V). w.callers) by.view in
    let over = count_over m old by.middle 0 asked told was.plays by.counts (λ caller at. told_same new by.middle (sym callers) 0 caller.number told (tells caller at)) in
    let of_key : by.of_call.call.key ≡ asked.key = ap (λ (c : CallView). c.key) (same_call by.middle 0 asked over.call over.is_for by.of_call) ∙ over.is_for.key in
    let so = counted_so old by.middle by.of_call.call by.is.at.collection by.now by.counted in
    record {
      over = over_same by.middle new callers 0 asked told (ap (λ (w : View S V). w.desks) by.view) (ap (λ (w : View S V). w.council.exchange) by.view ∙ over.quiet) over;
      seeks = seeks_by new.council asked.key by.is.at.order by.now (ap (λ (w : View S V). w.council.order) by.view) (ap (λ (w : View S V). w.council.collection) by.view)
          (by.is.at.is_for ∙ ap (λ (c : Collection). operators.Collect c.key) (sym so.course)) (ap (λ (c : Collection). c.key) so.course ∙ by.is.same_key ∙ of_key) (ap (λ (c : Collection). c.step) so.course ∙ by.is.is_due) (so.calling ∙ by.is.calling)
          (ap (λ (w : View S V). w.council.plan) by.view ∙ ap (λ (c : Council). c.plan) ((count_keeps m old by.middle 0 by.counts).council was.plays.quiet) ∙ was.seeks.none_planned);
      known = λ done. so.known;
    }

other_stops : {S V : Type 0} (m : Meaning S V) (old new : View S V) (asked : AskedCall) (told : Answer) → IsInRound old asked true → is_done told ≡ false → StepCount m old 0 new → ((caller : CallerView) → slice_get old.callers 0 ≡ Some caller → WasTold new 0 caller.number told) → HasStopped new asked told
other_stops m old new asked told was not_done by tells = record {
  over = count_over m old new 0 asked told was.plays by tells;
  seeks = seeks_on old new asked.key ((count_keeps m old new 0 by).council was.plays.quiet) was.seeks;
  known = λ done. absurd (cc (done, not_done));
}

unsettled : {S V : Type 0} (m : Meaning S V) (old new : View S V) (told : Answer) → is_done told ≡ false → StepCount m old 0 new → ((caller : CallerView) → slice_get old.callers 0 ≡ Some caller → WasTold new 0 caller.number told) → IsUnsettled new
unsettled {S} {V} m old new told not_done by tells = in_phase by.at_round.of_call by.at_round.desk by.at_round.round by.counts
  where
    in_phase : (of_call : OpenCallAt old 0) (desk : DeskView V) (round : rounds.Round) → calls.CountsOrEnds m old 0 desk round of_call.caller of_call.call new → IsUnsettled new
    in_phase at desk round (calls.counts now by_ outcome quorum confirmers proposed ends same) = absurd (cc (ap is_done (some_is (told_now old new 0 at _ told (ap (λ (w : View S V). w.callers) same) tells)), not_done))
    in_phase at desk round (calls.ends now met why is cause ends same) =
        let next : CallView = calls.over at.call (answer.Unsettled why) in
        record {
          of_call = record {
            caller = record at.caller { call = Some next };
            at_caller = ap (λ (w : View S V). slice_get w.callers 0) same ∙ at_set old.callers 0 at.caller (record at.caller { call = Some next }) at.at_caller;
            call = next;
            is_open = refl;
          };
          why = why;
          told = refl;
        }

pub counted_stops : {S V : Type 0} (m : Meaning S V) (old new : View S V) (asked : AskedCall) (told : Answer) → IsInRound old asked true → CountsTombstone m old told new → ((caller : CallerView) → slice_get old.callers 0 ≡ Some caller → WasTold new 0 caller.number told) → HasStopped new asked told
counted_stops m old new asked told was by tells = elim (true_or_false (is_done told)) [
  | inl done ↦ done_stops m old new asked told was (counts_done m old new told done by) tells
  | inr other ↦ other_stops m old new asked told was other (counts_other m old new told other by) tells
]

pub ends_voting : {S V : Type 0} (m : Meaning S V) (old new : View S V) (told : Answer) → CountsTombstone m old told new → ((caller : CallerView) → slice_get old.callers 0 ≡ Some caller → WasTold new 0 caller.number told) → EndsVoting m old new
ends_voting m old new told by tells = elim (true_or_false (is_done told)) [
  | inl done ↦ acknowledges (counts_done m old new told done by)
  | inr other ↦ leaves_open (counts_other m old new told other by) (unsettled m old new told other (counts_other m old new told other by) tells)
]

-- ---- its call ends
stopped_done : (told : Answer) → is_done told ≡ true → stopped_by told ≡ None
stopped_done (answer.Done state took ballot) done = refl
stopped_done told done = absurd (cc done)

stopped_other : (told : Answer) → is_done told ≡ false → stopped_by told ≡ Some (op.Stopped told)
stopped_other (answer.Done state took ballot) other = absurd (cc other)
stopped_other told other = refl

-- nothing is proposed anew where no change of membership is under way
none_anew : {old new : Council} {id : ℕ} {key : List ℕ} {told : Answer} → old.plan ≡ None → calls.Rescans old id key told new → new ≡ old
none_anew none (calls.rescans of done is) = absurd (cc (sym none ∙ of.is_plan))
none_anew none (calls.stops of not_done is) = absurd (cc (sym none ∙ of.is_plan))
none_anew none (calls.is_none other is) = is

module _ {S V : Type 0} (m : Meaning S V) (old new : View S V) (asked : AskedCall) (told : Answer) (was : HasStopped old asked told) (by : Step m old (EndCollect told) new) where
  pub end_idle : HasNoCall new 0
  end_idle =
      let none = end_closes m old by.middle 0 told by.ends in
      record { caller = none.caller; at_caller = ap (λ (w : View S V). slice_get w.callers 0) by.view ∙ none.at_caller; none_open = none.none_open }

  pub end_tombstone_set : is_done told ≡ true → IsTombstoneSet new asked.key
  end_tombstone_set done =
      let of_key : by.of_call.call.key ≡ asked.key = ap (λ (c : CallView). c.key) (same_call old 0 asked was.over.call was.over.is_for by.of_call) ∙ was.over.is_for.key in
      let same : by.middle.council ≡ old.council = ap (λ (w : View S V). w.council) by.ends.ends.view ∙ none_anew was.seeks.none_planned by.ends.ends.rescans in
      record {
        due = record {
          order = record by.is.at.order { told = stopped_by told };
          is_open = ap (λ (w : View S V). w.council.order) by.view;
          is_for = by.is.at.is_for ∙ ap operators.Collect (by.is.same_key ∙ of_key);
          untold = stopped_done told done;
          collection = called by.is.at.collection;
          is_collection = ap (λ (w : View S V). w.council.collection) by.view;
          same_key = by.is.same_key ∙ of_key;
          is_due = by.is.is_due;
          quiet = ap (λ (w : View S V). w.council.exchange) by.view ∙ ap (λ (c : Council). c.exchange) same ∙ was.over.quiet;
          idle = end_idle;
        };
        over = refl;
        known = ap (λ (c : CollectionView). is_sought c.tombstone) (some_is (sym by.is.at.is_collection ∙ was.seeks.is.at.is_collection)) ∙ was.known done;
      }

  pub end_told : is_done told ≡ false → WasToldOrder new (op.Stopped told)
  end_told other = record {
    order = record by.is.at.order { told = stopped_by told };
    is_open = ap (λ (w : View S V). w.council.order) by.view;
    said = op.Stopped told;
    was_said = stopped_other told other;
    same = refl;
  }

-- ---- a call that is told as it begins
-- it was begun, and was told this
pub record CallWasBegun {S V : Type 0} (new : View S V) (number : ℕ) (key : List ℕ) (said : Answer) : Type 0 where
  pub not_done : is_done said ≡ false
  pub was_told : WasTold new 0 number said
  pub is : IsCollecting new.council key

-- it was not begun
pub refused_call : {S V : Type 0} (old new : View S V) (number : ℕ) (key : List ℕ) (told : OpAnswer) → HasNoCall old 0 → leaves_no_call told ≡ true → CollectsNot old new number key told → HasNoCall new 0 × WasToldOrder new told
refused_call old new number key told none leaves (is_refused before after why same) = (after, why)
refused_call old new number key told none leaves (is_told said is not_done open_then was collects_now) = absurd (cc (leaves, open_then none))

-- it was, and this answers it
pub told_call : {S V : Type 0} (old new : View S V) (number : ℕ) (key : List ℕ) (told : OpAnswer) → leaves_no_call told ≡ false → CollectsNot old new number key told → (said : Answer) × (told ≡ op.Stopped said) × CallWasBegun new number key said
told_call old new number key told leaves (is_refused before after why same) = absurd (cc (leaves, same))
told_call old new number key told leaves (is_told said is not_done open_then was collects_now) = (said, is, record { not_done = not_done; was_told = was; is = collects_now })

-- another round of it
pub told_again : {S V : Type 0} (old new : View S V) (number : ℕ) (key : List ℕ) (told : OpAnswer) (asked : AskedCall) (last : Answer) → HasStopped old asked last → CollectsNot old new number key told → (said : Answer) × (told ≡ op.Stopped said) × CallWasBegun new number key said
told_again {S} {V} old new number key told asked last was (is_refused before after why same) =
    absurd (cc (sym before.none_open ∙ ap (λ (c : CallerView). c.call) (at_one old.callers 0 before.at_caller was.over.was_told.at_caller) ∙ was.over.was_told.is_open))
told_again old new number key told asked last was (is_told said is not_done open_then was_told collects_now) = (said, is, record { not_done = not_done; was_told = was_told; is = collects_now })

-- what the operator's answer says is what the call was told
pub said_so : {S V : Type 0} (new : View S V) (number : ℕ) (key : List ℕ) (told : OpAnswer) (said answered : Answer) → told ≡ op.Stopped said → told ≡ op.Stopped answered → CallWasBegun new number key said → CallWasBegun new number key answered
said_so {S} {V} new number key told said answered is says begun = let one : said ≡ answered = cc (is, says) in subst (CallWasBegun new number key) one begun

-- ---- where it stands
pub in_round_still : {S V : Type 0} (old new : View S V) (asked : AskedCall) (proposed : Bool) → IsInRound old asked proposed → new.council ≡ old.council → IsPlaying new 0 asked proposed → IsInRound new asked proposed
in_round_still old new asked proposed was same plays = record { plays = plays; seeks = seeks_on old new asked.key same was.seeks }

pub set_not_met : {S V A : Type 0} (view : View S V) (key : List ℕ) → IsTombstoneSet view key → IsMet view 0 → A
set_not_met {S} {V} view key was met =
    absurd (cc (sym met.of_call.is_open ∙ ap (λ (c : CallerView). c.call) (at_one view.callers 0 met.of_call.at_caller was.due.idle.at_caller) ∙ was.due.idle.none_open))

-- ---- what its prepare phase came to
pub ends_reading : {S V : Type 0} (m : Meaning S V) (old new : View S V) (result : Result Reading Answer) → (result ≡ Ok reading.Empty → StepPropose m old 0 new × HasProposed new 0) → ((version : ℕ) → result ≡ Ok (reading.Held version) → StepReadHeld m old new) → OnErr result (StepPropose m old 0 new)
    → ((version : ℕ) (desk : DeskView V) → IsAt old.desks 0 desk → ((result ≡ Ok (reading.Held version)) ↔ FindsHeld desk version)) → EndsReading m old new
ends_reading m old new (Ok reading.Empty) empty held err reads = proposes (λ version found. absurd (cc ((reads version found.desk found.at_desk).1 found.finds))) (empty refl).0
ends_reading m old new (Ok (reading.Held version)) empty held err reads =
    let by = held version refl in
    reads_held version (record { desk = by.desk; at_desk = by.at_desk; finds = (reads version by.desk by.at_desk).0 refl }) by
ends_reading m old new (Err told) empty held err reads = proposes (λ version found. absurd (cc ((reads version found.desk found.at_desk).1 found.finds))) err

pub reading_stops : {S V : Type 0} (m : Meaning S V) (old new : View S V) (asked : AskedCall) (result : Result Reading Answer) → IsInRound old asked false → OnErr result (StepPropose m old 0 new) → ((caller : CallerView) → slice_get old.callers 0 ≡ Some caller → IfErr result (WasTold new 0 caller.number)) → IfErr result (HasStopped new asked)
reading_stops m old new asked (Ok read) was err tells = tt
reading_stops m old new asked (Err told) was err tells = propose_stops m old new asked told was err tells
