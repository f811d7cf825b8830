-- A collection's own call, in the whole.
use Rattle.std.proofs.Common.{◌≡◌, ◌≤◌, ◌+◌, ◌++◌, ◌∷◌, ℕ, Bool, true, false, List, [], Option, None, Some, Result, Ok, Err, inl, inr, refl, sym, ap, subst, ◌∙◌, arith, slice_set}
use Rattle.std.specs.Prelude.{◌⊎◌, ◌↔◌, IfErr, IsErrOf, IsOk, OnOk, is_some, map, option_map}
use Rattle.cas_acceptor.specs.Acceptor.{AcceptorView}
use Rattle.cas_ballot.specs.declared.ballot.Ballot.{Ballot}
use Rattle.cas_change.specs.declared.outcome.Took.{Took}
use Rattle.cas_change.specs.declared.state.State.{State}
use Rattle.cas_change.specs.declared.state.State.TheVariants.{Empty, Held}
use Rattle.cas_flow.specs.Flow.{FlowView, queue_at}
use Rattle.cas_quorum.specs.declared.era.Era.{Era}
use Rattle.cas_record.specs.Book.{Book}
use Rattle.cas_record.specs.declared.answer.Answer.{Answer}
use Rattle.cas_record.specs.declared.answer.Answer.TheVariants as answer
use Rattle.cas_record.specs.declared.mark.Mark.TheVariants.{Acked}
use Rattle.cas_record.specs.declared.operator.Asked.TheVariants.{Collect}
use Rattle.cas_record.specs.declared.operator.OpAnswer.{OpAnswer}
use Rattle.cas_record.specs.declared.operator.OpAnswer.TheVariants as op
use Rattle.cas_proposer.specs.Desk.{DeskView}
use Rattle.cas_proposer.specs.Round.{confirmed_in, has_quorum, is_preparing}
use Rattle.cas_proposer.specs.declared.round.Round.{Round}
use Rattle.cas_round.specs.declared.verdict.RoundVerdict.{RoundVerdict}
use Rattle.cas_round.specs.declared.verdict.RoundVerdict.TheVariants as verdicts
use Rattle.cas_model.specs.Collection.State.{CollectionView, called, new_collection, reserved_for_collection}
use Rattle.cas_model.specs.Council as cluster
use Rattle.cas_model.specs.Council.{OrderView, reserved_by, reserved_for_order, silent_order, hushed}
use Rattle.cas_protocol.specs.Protocol.{is_done}
use Rattle.cas_model.specs.Safe.{IsSafe, IsOpenSafe, IsRoundSafe}
use Rattle.cas_model.specs.Step as step
use Rattle.cas_model.specs.Step.{Step, StepBegin, StepCount, StepEnd}
use Rattle.cas_model.specs.Calls.Step as calls
use Rattle.cas_model.specs.Calls.Step.{IsFull, RefusesCall, Rescans}
use Rattle.cas_model.specs.Collection.Step as collect
use Rattle.cas_model.specs.Collection.Step.{CountedAs, MayCollect, collecting, IsCollecting, keep_always, stopped_by}
use Rattle.cas_model.specs.Exchanges.Step.{told_view, with_council}
use Rattle.cas_model.specs.Calls.Desks.{EndsRound}
use Rattle.cas_model.specs.Stops.Step.{OpenCallAt}
use Rattle.cas_model.specs.View.{Meaning, View, CallView, CallerView, IsAt, era_at, era_in, reserved_in, reserved_of, with_caller, with_desk}
use Rattle.cas_model.proofs.Places.{at_one, at_set, own_set, some_is}
use Rattle.cas_model.proofs.Collection.SafeCollecting.{Frame, begin_frame, frame_of}
use Rattle.cas_model.proofs.Safety.Parts.{reserved_set}
use Rattle.cas_world_calls.specs.Answers.{is_plain}
use Rattle.cas_world_calls.specs.Collecting.{acknowledged_by, counted_in, ended_in, found_held, last_told, with_collection}
use Rattle.cas_world_calls.specs.Council.{council_view}
use Rattle.cas_world_calls.specs.declared.call.Caller.{Caller}
use Rattle.cas_world_calls.specs.declared.call.OpenCall.{OpenCall}
use Rattle.cas_world_calls.specs.declared.council.Council.{Council}
use Rattle.cas_world.specs.Calls.Beginning.{BeginsOrNot, HasNoCall, is_refusal}
use Rattle.cas_world.specs.Collection.Collect as collects
use Rattle.cas_model_causes.specs.Calls.Told.{BeginsBy, IsDown}
use Rattle.cas_world.specs.Collection.Collect.{CollectsNot, CountsTombstone, FindsHeld, HasCollected, IsCollectingCall, MayCollectKey, RefusesCollection, leaves_no_call}
use Rattle.cas_world.specs.Calls.Count.{Counts}
use Rattle.cas_world.specs.World.{IsInPhase, WasTold, view_of, caller_view, call_view}
use Rattle.cas_world.proofs.Calls.Callers.{at_map, map_set}
use Rattle.cas_world.proofs.Calls.Counts.{IsCounting, up_with}
use Rattle.cas_world.proofs.Exchanges.Exchanges.{hushed_reserves}
use Rattle.cas_world.proofs.Eras.Planning.{told_last}

-- ---- what is seen
-- the operator's call is told nothing, and its collection goes on so
pub hushed_so : {S V : Type 0} (view : View S V) (order : OrderView) (collection : CollectionView) → view.council.order ≡ Some order → with_council view (record (hushed view.council) { collection = Some collection }) ≡ collecting view order None collection
hushed_so view order collection is = ap (λ (o : Option OrderView). with_council view (record view.council { order = option_map silent_order o; collection = Some collection })) is

pub hushed_on : {S V : Type 0} (view : View S V) (order : OrderView) (collection : CollectionView) (next : CollectionView → CollectionView) → view.council.order ≡ Some order → view.council.collection ≡ Some collection
    → with_council view (with_collection (hushed view.council) next) ≡ collecting view order None (next collection)
hushed_on view order collection next is_open is =
    ap (λ (o : Option CollectionView). with_council view (record (hushed view.council) { collection = option_map next o })) is ∙ hushed_so view order (next collection) is_open

-- ---- what it asks
abbrev pub may_collect : {S V : Type 0} (view : View S V) (key : List ℕ) (desk : DeskView V) (caller : CallerView) → MayCollectKey view key → IsAt view.desks 0 desk → IsAt view.callers 0 caller → MayCollect view key desk caller
may_collect view key desk caller may at_desk at_caller = record { order = may.order; is_open = may.is_open; is_for = may.is_for; none_asked = may.none_asked; at_desk = at_desk; at_caller = at_caller }

-- ---- it begins
module _ {S V : Type 0} (m : Meaning S V) (old : View S V) (key : List ℕ) (desk : DeskView V) (caller : CallerView) (may : MayCollectKey old key) (at_desk : IsAt old.desks 0 desk) (at_caller : IsAt old.callers 0 caller) where
  -- the step, by how it begins
  begins_so : (new : View S V) → collect.BeginsCollection m (λ before after. StepBegin m before 0 key keep_always after) old key may.order desk caller new → Step m old (step.BeginCollect key) new
  begins_so new by = record { desk = desk; caller = caller; may = may_collect old key desk caller may at_desk at_caller; begins = by }

  -- it is refused, and the operator's call is told so
  pub refuses_collection : (new : View S V) (refusal : OpAnswer) → caller.call ≡ None → RefusesCollection old desk (Some refusal) → new ≡ told_view old refusal → Step m old (step.BeginCollect key) new
  refuses_collection new refusal none (collects.is_down down same) view = begins_so new (collect.is_down none down (view ∙ ap (told_view old) (some_is same)))
  refuses_collection new refusal none (collects.is_busy plan up busy same) view = begins_so new (collect.is_busy plan none up busy (view ∙ ap (told_view old) (some_is same)))
  refuses_collection new refusal none (collects.is_full up unplanned full same) view = begins_so new (collect.is_full none up unplanned full (view ∙ ap (told_view old) (some_is same)))
  refuses_collection new refusal none (collects.admits up unplanned fits same) view = absurd (cc same)

  -- no memory was found for it
  pub loses_memory : (middle new : View S V) → caller.call ≡ None → desk.down ≡ false → old.council.plan ≡ None → RefusesCall m old 0 key middle → new ≡ told_view middle (op.Stopped (answer.NoMemory false)) → Step m old (step.BeginCollect key) new
  loses_memory middle new none up unplanned refuses view = begins_so new (collect.no_memory middle none up unplanned refuses view)

  -- nothing was lost then
  pub finds_no_memory : (new : View S V) → caller.call ≡ None → desk.down ≡ false → old.council.plan ≡ None → new ≡ told_view old (op.Stopped (answer.NoMemory false)) → Step m old (step.BeginCollect key) new
  finds_no_memory new none up unplanned view = loses_memory old new none up unplanned (calls.stays (answer.NoMemory false) old.council (inr refl) (calls.is_none (λ is. cc (unplanned, is.is_plan)) refl) refl) view

  -- its call begins, and it is under way
  pub begins_collection : (middle new : View S V) → caller.call ≡ None → old.council.plan ≡ None → StepBegin m old 0 key keep_always middle → new ≡ with_council middle (record (hushed middle.council) { collection = Some (new_collection key (era_at middle 0) old.last_proposer) })
      → Step m old (step.BeginCollect key) new
  begins_collection middle new none unplanned by view =
      let same : frame_of middle ≡ frame_of old = begin_frame m old middle 0 key keep_always by in
      begins_so new (collect.begins middle none unplanned by
      (view ∙ ap (λ (e : Era). with_council middle (record (hushed middle.council) { collection = Some (new_collection key e old.last_proposer) })) (ap (λ (f : Frame). f.era) same)
      ∙ hushed_so middle may.order (new_collection key (era_at old 0) old.last_proposer) (ap (λ (f : Frame). f.council.order) same ∙ may.is_open)))

  -- or another round of it does
  pub collects_again : (middle new : View S V) (call : CallView) → caller.call ≡ Some call → StepBegin m old 0 key keep_always middle → new ≡ with_council middle (hushed middle.council) → Step m old (step.BeginCollect key) new
  collects_again middle new call is by view =
      let same : frame_of middle ≡ frame_of old = begin_frame m old middle 0 key keep_always by in
      let of = may.goes_on caller call at_caller is in
      begins_so new (collect.goes_on middle call of is by
      (view ∙ ap (λ (o : Option CollectionView). with_council middle (record (hushed middle.council) { collection = o })) (ap (λ (f : Frame). f.council.collection) same ∙ of.at.is_collection)
      ∙ hushed_so middle may.order of.at.collection (ap (λ (f : Frame). f.council.order) same ∙ may.is_open)))

-- a refusal that comes before its call tells the operator's call nothing that takes memory
pub refusal_plain : {S V : Type 0} (view : View S V) (desk : DeskView V) (refusal : OpAnswer) → RefusesCollection view desk (Some refusal) → (is_plain refusal ≡ true) × (leaves_no_call refusal ≡ true)
refusal_plain view desk refusal (collects.is_down down same) = (ap is_plain (some_is same), ap leaves_no_call (some_is same))
refusal_plain view desk refusal (collects.is_busy plan up busy same) = (ap is_plain (some_is same), ap leaves_no_call (some_is same))
refusal_plain view desk refusal (collects.is_full up unplanned full same) = (ap is_plain (some_is same), ap leaves_no_call (some_is same))
refusal_plain view desk refusal (collects.admits up unplanned fits same) = absurd (cc same)

-- the record is full where that is what is told
pub refusal_full : {S V : Type 0} (view : View S V) (desk : DeskView V) (refusal : OpAnswer) → RefusesCollection view desk (Some refusal) → refusal ≡ op.Stopped answer.RecordFull → IsFull view 0
refusal_full view desk refusal (collects.is_down down same) told = absurd (cc (same, told))
refusal_full view desk refusal (collects.is_busy plan up busy same) told = absurd (cc (same, told))
refusal_full view desk refusal (collects.is_full up unplanned full same) told = full
refusal_full view desk refusal (collects.admits up unplanned fits same) told = absurd (cc same)

-- and so is what is told as its round begins
pub begun_full : {A B : Type 0} (begun : Result A Answer) (result : Result B OpAnswer) → OnOk begun (IsOk result) → IfErr begun (λ told. IsErrOf result (op.Stopped told)) → result ≡ Err (op.Stopped answer.RecordFull) → begun ≡ Err answer.RecordFull
begun_full (Ok done) (Ok value) ok err told = absurd (cc told)
begun_full (Ok done) (Err other) ok err told = absurd (cc ok)
begun_full (Err said) result ok err told = let same : said ≡ answer.RecordFull = cc (err, told) in ap (λ (a : Answer). Err a) same

-- none of them keeps it from its call
pub record Admits {S V : Type 0} (view : View S V) (desk : DeskView V) : Type 0 where
  pub up : desk.down ≡ false
  pub unplanned : view.council.plan ≡ None
  pub fits : IsFull view 0 → ⊥

pub admits_it : {S V : Type 0} (view : View S V) (desk : DeskView V) (refusal : Option OpAnswer) → refusal ≡ None → RefusesCollection view desk refusal → Admits view desk
admits_it view desk refusal none (collects.is_down down same) = absurd (cc (none, same))
admits_it view desk refusal none (collects.is_busy plan up busy same) = absurd (cc (none, same))
admits_it view desk refusal none (collects.is_full up unplanned full same) = absurd (cc (none, same))
admits_it view desk refusal none (collects.admits up unplanned fits same) = record { up = up; unplanned = unplanned; fits = fits }

-- what its round may be told as it begins is no end
pub begun_not_done : {S V : Type 0} (m : Meaning S V) (old new : View S V) (key : List ℕ) (said : Answer) → BeginsBy m old 0 key said new → is_done said ≡ false
begun_not_done m old new key answer.Down by = refl
begun_not_done m old new key answer.RecordFull by = refl
begun_not_done m old new key answer.Spent by = refl
begun_not_done m old new key answer.VaultFault by = refl
begun_not_done m old new key (answer.NoMemory proposed) by = refl
begun_not_done m old new key (answer.Done state took ballot) by = absurd by
begun_not_done m old new key (answer.Conflict met) by = refl
begun_not_done m old new key (answer.Aged least) by = refl
begun_not_done m old new key (answer.Full acceptor) by = refl
begun_not_done m old new key (answer.Short got need) by = refl
begun_not_done m old new key (answer.Moved era) by = refl
begun_not_done m old new key answer.Crashed by = refl
begun_not_done m old new key (answer.Unsettled why) by = refl

-- and where nothing kept it from its call, the call is open
pub begun_leaves : {S V : Type 0} (m : Meaning S V) (old new : View S V) (key : List ℕ) (said : Answer) (desk : DeskView V) → IsAt old.desks 0 desk → Admits old desk → ((proposed : Bool) → said ≡ answer.NoMemory proposed → ⊥) → BeginsBy m old 0 key said new → leaves_no_call (op.Stopped said) ≡ false
begun_leaves {S} {V} m old new key answer.Down desk at admits not_lost by = let down : IsDown old 0 = by in absurd (cc (admits.up, down desk at))
begun_leaves m old new key answer.RecordFull desk at admits not_lost by = absurd (admits.fits by)
begun_leaves m old new key answer.Spent desk at admits not_lost by = refl
begun_leaves m old new key answer.VaultFault desk at admits not_lost by = refl
begun_leaves m old new key (answer.NoMemory proposed) desk at admits not_lost by = absurd (not_lost proposed refl)
begun_leaves m old new key (answer.Done state took ballot) desk at admits not_lost by = refl
begun_leaves m old new key (answer.Conflict met) desk at admits not_lost by = refl
begun_leaves m old new key (answer.Aged least) desk at admits not_lost by = refl
begun_leaves m old new key (answer.Full acceptor) desk at admits not_lost by = refl
begun_leaves m old new key (answer.Short got need) desk at admits not_lost by = refl
begun_leaves m old new key (answer.Moved era) desk at admits not_lost by = refl
begun_leaves m old new key answer.Crashed desk at admits not_lost by = refl
begun_leaves m old new key (answer.Unsettled why) desk at admits not_lost by = refl

-- ---- or it does not begin
-- a call that is refused leaves none open
pub refused_keeps : {S V : Type 0} (m : Meaning S V) (old middle : View S V) (key : List ℕ) → RefusesCall m old 0 key middle → HasNoCall old 0 → HasNoCall middle 0
refused_keeps {S} {V} m old middle key (calls.stays told council is rescans view) none = record { caller = none.caller; at_caller = subst (λ (v : View S V). IsAt v.callers 0 none.caller) (sym view) none.at_caller; none_open = none.none_open }
refused_keeps {S} {V} m old middle key (calls.loses caller desk now ballot council at at_desk idle up loses rescans view) none = record { caller = none.caller; at_caller = subst (λ (v : View S V). IsAt v.callers 0 none.caller) (sym view) none.at_caller; none_open = none.none_open }

-- no call is open and one is
open_and_not : {S V : Type 0} (view : View S V) (caller : CallerView) (call : CallView) → IsAt view.callers 0 caller → caller.call ≡ Some call → HasNoCall view 0 → ⊥
open_and_not view caller call at is none = cc (is, none.none_open, ap (λ (c : CallerView). c.call) (at_one view.callers 0 at none.at_caller))

-- where none is open then, it was refused
pub refused_call : {S V A : Type 0} (m : Meaning S V) (old middle : View S V) (number : ℕ) (key : List ℕ) (result : Result A Answer) → BeginsOrNot m old 0 number key keep_always result middle → HasNoCall middle 0 → RefusesCall m old 0 key middle
refused_call m old middle number key (Ok done) by none = absurd (open_and_not middle by.1.caller by.1.call by.1.at_caller by.1.is_call none)
refused_call m old middle number key (Err said) (inl by) none = absurd (open_and_not middle by.1.caller by.1.call by.1.at_caller by.1.is_open none)
refused_call m old middle number key (Err said) (inr by) none = by.0

-- and otherwise it was not
pub begun_call : {S V A : Type 0} (m : Meaning S V) (old middle : View S V) (number : ℕ) (key : List ℕ) (result : Result A Answer) → BeginsOrNot m old 0 number key keep_always result middle → (HasNoCall middle 0 → ⊥) → StepBegin m old 0 key keep_always middle
begun_call m old middle number key (Ok done) by some = by.0
begun_call m old middle number key (Err said) (inl by) some = by.0
begun_call m old middle number key (Err said) (inr by) some = absurd (some (refused_keeps m old middle key by.0 by.1))

pub not_lost : {S V A : Type 0} (m : Meaning S V) (old middle : View S V) (number : ℕ) (key : List ℕ) (result : Result A Answer) (said : Answer) → BeginsOrNot m old 0 number key keep_always result middle → (HasNoCall middle 0 → ⊥) → HasNoCall old 0 → result ≡ Err said → (proposed : Bool) → said ≡ answer.NoMemory proposed → ⊥
not_lost m old middle number key (Ok done) said by some none is proposed lost = cc is
not_lost m old middle number key (Err other) said (inl by) some none is proposed lost = let same : other ≡ said = cc is in cc (by.2 none, ap is_refusal (same ∙ lost))
not_lost m old middle number key (Err other) said (inr by) some none is proposed lost = some (refused_keeps m old middle key by.0 by.1)

-- a new call was not begun, and the operator's call was told why
pub lost_call : {S V : Type 0} (old middle new : View S V) (number : ℕ) (key : List ℕ) (said result : OpAnswer) → HasNoCall old 0 → HasNoCall middle 0 → (order : OrderView) → middle.council.order ≡ Some order → leaves_no_call said ≡ true → new ≡ told_view middle said → result ≡ said → CollectsNot old new number key result
lost_call {S} {V} old middle new number key said result none none_now order is_open leaves view same = collects.is_refused none (record { caller = none_now.caller; at_caller = subst (λ (v : View S V). IsAt v.callers 0 none_now.caller) (sym view) none_now.at_caller; none_open = none_now.none_open })
    (told_last middle new order said result is_open view same) (ap leaves_no_call same ∙ leaves)

-- as much is reserved where it begins
pub hushed_stays : (council : cluster.Council) → reserved_by (hushed council) ≡ reserved_by council
hushed_stays council = omega (arith, hushed_reserves council.order)

pub begun_reserves : (council : cluster.Council) (key : List ℕ) (era : Era) (last_proposer : ℕ) → reserved_by (record (hushed council) { collection = Some (new_collection key era last_proposer) }) ≤ reserved_by council
begun_reserves council key era last_proposer = omega (arith, hushed_reserves council.order)

-- ---- what is told of it
module _ {S V : Type 0} (m : Meaning S V) (old middle new : View S V) (number : ℕ) (key : List ℕ) (desks : new.desks ≡ middle.desks) (callers : new.callers ≡ middle.callers) (is : IsCollecting new.council key) where
  pub collected_ok : {A : Type 0} (result : Result A Answer) (told : Result A OpAnswer) → BeginsOrNot m old 0 number key keep_always result middle → IfErr result (λ said. IsErrOf told (op.Stopped said)) → OnOk told (HasCollected new number key)
  collected_ok result (Err e) begins stopped = tt
  collected_ok (Ok done) (Ok x) begins stopped = record {
    of_round = record {
      caller = begins.1.caller;
      at_caller = subst (λ (l : List CallerView). IsAt l 0 begins.1.caller) (sym callers) begins.1.at_caller;
      same_number = begins.1.same_number;
      call = begins.1.call;
      is_call = begins.1.is_call;
      desk = begins.1.desk;
      at_desk = subst (λ (l : List (DeskView V)). IsAt l 0 begins.1.desk) (sym desks) begins.1.at_desk;
      is_open = begins.1.is_open;
    };
    is = is;
  }
  collected_ok (Err said) (Ok x) begins stopped = absurd (cc stopped)

  -- the call is open, and was told why
  is_told_so : (said : Answer) → is_done said ≡ false → (HasNoCall old 0 → leaves_no_call (op.Stopped said) ≡ false) → WasTold middle 0 number said → CollectsNot old new number key (op.Stopped said)
  is_told_so said not leaves told = collects.is_told said refl not leaves (record { caller = told.caller; at_caller = subst (λ (l : List CallerView). IsAt l 0 told.caller) (sym callers) told.at_caller; same_number = told.same_number; call = told.call; is_open = told.is_open; told = told.told }) is

  pub collected_err : {A : Type 0} (result : Result A Answer) (told : Result A OpAnswer) → BeginsOrNot m old 0 number key keep_always result middle → IfErr result (λ said. BeginsBy m old 0 key said middle) → OnOk result (IsOk told) → IfErr result (λ said. IsErrOf told (op.Stopped said))
      → ((said : Answer) → result ≡ Err said → HasNoCall old 0 → leaves_no_call (op.Stopped said) ≡ false) → IfErr told (CollectsNot old new number key)
  collected_err (Ok done) (Ok x) begins by goes stopped leaves = tt
  collected_err (Ok done) (Err e) begins by goes stopped leaves = absurd (cc goes)
  collected_err {A} (Err said) told begins by goes stopped leaves = subst (λ (r : Result A OpAnswer). IfErr r (CollectsNot old new number key)) (sym stopped) (by_case begins)
    where
      by_case : BeginsOrNot {A = A} m old 0 number key keep_always (Err said) middle → CollectsNot old new number key (op.Stopped said)
      by_case (inl begun) = is_told_so said (begun_not_done m old middle key said by) (leaves said refl) begun.1
      by_case (inr not) = absurd (by_refusal (leaves said refl not.1) not.2)
        where
          by_refusal : leaves_no_call (op.Stopped said) ≡ false → (said ≡ answer.RecordFull) ⊎ (said ≡ answer.NoMemory false) → ⊥
          by_refusal none (inl full) = cc (none, ap (λ (a : Answer). leaves_no_call (op.Stopped a)) full)
          by_refusal none (inr lost) = cc (none, ap (λ (a : Answer). leaves_no_call (op.Stopped a)) lost)

-- a round that began did so, where the call was open
pub begun_again : {S V A : Type 0} (m : Meaning S V) (old middle : View S V) (number : ℕ) (key : List ℕ) (result : Result A Answer) → BeginsOrNot m old 0 number key keep_always result middle → (HasNoCall old 0 → ⊥) → StepBegin m old 0 key keep_always middle
begun_again m old middle number key (Ok done) by again = by.0
begun_again m old middle number key (Err said) (inl by) again = by.0
begun_again m old middle number key (Err said) (inr by) again = absurd (again by.1)

-- the collection of the key is under way then
pub is_begun : {S V : Type 0} (middle : View S V) (key : List ℕ) (era : Era) (last_proposer : ℕ) (order : OrderView) (next : cluster.Council) → middle.council.order ≡ Some order → order.asked ≡ Collect key
    → next ≡ record (hushed middle.council) { collection = Some (new_collection key era last_proposer) } → IsCollecting next key
is_begun middle key era last_proposer order next is_open is_for is = record {
  at = record {
    order = record order { told = None };
    is_open = ap (λ (c : cluster.Council). c.order) is ∙ ap (option_map silent_order) is_open;
    collection = new_collection key era last_proposer;
    is_collection = ap (λ (c : cluster.Council). c.collection) is;
    is_for = is_for;
  };
  is_due = refl;
  calling = refl;
  same_key = refl;
}

-- and goes on
pub is_again : (council next : cluster.Council) (key : List ℕ) → IsCollecting council key → next ≡ hushed council → IsCollecting next key
is_again council next key of is = record {
  at = record {
    order = record of.at.order { told = None };
    is_open = ap (λ (c : cluster.Council). c.order) is ∙ ap (option_map silent_order) of.at.is_open;
    collection = of.at.collection;
    is_collection = ap (λ (c : cluster.Council). c.collection) is ∙ of.at.is_collection;
    is_for = of.at.is_for;
  };
  is_due = of.is_due;
  calling = of.calling;
  same_key = of.same_key;
}

-- ---- it ends
-- the operator's call is told why, and the collection's call is over
ended_so : {S V : Type 0} (view : View S V) (order : OrderView) (collection : CollectionView) (said : Answer) → view.council.order ≡ Some order → view.council.collection ≡ Some collection
    → with_council view (ended_in view.council said) ≡ collecting view order (stopped_by said) (called collection)
ended_so view order collection said is_open is =
    ap (λ (o : Option OrderView). with_council view (record (with_collection view.council called) { order = option_map (last_told (stopped_by said)) o })) is_open
    ∙ ap (λ (o : Option CollectionView). with_council view (record view.council { order = Some (record order { told = stopped_by said }); collection = option_map called o })) is

pub ends_collect : {S V : Type 0} (m : Meaning S V) (old middle new : View S V) (said : Answer) → IsSafe old → IsCollectingCall old → StepEnd m old 0 said middle → new ≡ with_council middle (ended_in middle.council said) → Step m old (step.EndCollect said) new
ends_collect {S} {V} m old middle new said safe of by view = record {
  of_call = of.of_call;
  is = of.is;
  middle = middle;
  ends = by;
  view = view ∙ ended_so middle of.is.at.order of.is.at.collection said (ap (λ (c : cluster.Council). c.order) same ∙ of.is.at.is_open) (ap (λ (c : cluster.Council). c.collection) same ∙ of.is.at.is_collection);
}
  where
    left : (council : cluster.Council) → Rescans old.council 0 by.of_call.call.key said council → council ≡ old.council
    left council (calls.rescans is done next) = absurd (cc (is.is_plan, (safe.collection.each of.is.at.collection of.is.at.is_collection).none_planned))
    left council (calls.stops is not next) = absurd (cc (is.is_plan, (safe.collection.each of.is.at.collection of.is.at.is_collection).none_planned))
    left council (calls.is_none none next) = next

    same : middle.council ≡ old.council
    same = ap (λ (v : View S V). v.council) by.ends.view ∙ left by.ends.council by.ends.rescans

-- as much is reserved as was
ended_order : (said : Option OpAnswer) (order : Option OrderView) → reserved_for_order (option_map (last_told said) order) ≡ reserved_for_order order
ended_order said None = refl
ended_order said (Some order) = refl

pub still_reserves : (collection : Option CollectionView) (next : CollectionView → CollectionView) → ((c : CollectionView) → (next c).reserved ≡ c.reserved) → reserved_for_collection (option_map next collection) ≡ reserved_for_collection collection
still_reserves None next same = refl
still_reserves (Some collection) next same = same collection

pub ended_reserves : (council : cluster.Council) (said : Answer) → reserved_by (ended_in council said) ≡ reserved_by council
ended_reserves council said = omega (arith, ended_order (stopped_by said) council.order, still_reserves council.collection called (λ c. refl))

-- ---- it is counted
-- a round of which no quorum accepted is counted as any other
pub not_acknowledged : {S V : Type 0} (m : Meaning S V) (old new : View S V) (desk : DeskView V) (said : Answer) (verdict : RoundVerdict) → IsAt old.desks 0 desk → ((round : Round) → desk.round ≡ Some round → (verdict ≡ verdicts.Quorum) ↔ (has_quorum round.phase ≡ true))
    → is_some (calls.cause_by verdict) ≡ true → StepCount m old 0 new → ((caller : CallerView) → IsAt old.callers 0 caller → WasTold new 0 caller.number said) → CountsTombstone m old said new
not_acknowledged {S} {V} m old new desk said verdict at_desk quorum_is some by was_told = in_case by.counts
  where
    C : CallerView
    C = by.at_round.of_call.caller

    in_case : calls.CountsOrEnds m old 0 by.at_round.desk by.at_round.round C by.at_round.of_call.call new → CountsTombstone m old said new
    in_case (calls.counts now whom outcome quorum confirmers proposed ends view) =
        absurd (cc (some, ap (λ (v : RoundVerdict). is_some (calls.cause_by v)) ((quorum_is by.at_round.round (ap (λ (d : DeskView V). d.round) (at_one old.desks 0 at_desk by.at_round.at_desk) ∙ by.at_round.is_open)).1 quorum)))
    in_case (calls.ends now other why is cause ends view) =
        let told = was_told C by.at_round.of_call.at_caller in
        let is_now = own_set old.callers 0 (record C { call = Some (calls.over by.at_round.of_call.call (answer.Unsettled why)) }) told.caller (subst (λ (v : View S V). IsAt v.callers 0 told.caller) view told.at_caller) in
        let same : said ≡ answer.Unsettled why = some_is (sym told.told ∙ ap (λ (c : CallView). c.told) (some_is (sym told.is_open ∙ ap (λ (c : CallerView). c.call) is_now))) in
        subst (λ (a : Answer). CountsTombstone m old a new) (sym same) by

-- one mark more at most is reserved, for the floor
one_more : (collection : Option CollectionView) (ballot : Ballot) (whom : List ℕ) → reserved_for_collection (option_map (acknowledged_by ballot whom) collection) ≤ reserved_for_collection collection + 1
one_more None ballot whom = omega arith
one_more (Some collection) ballot whom = omega arith

pub counted_reserves : (council : cluster.Council) (state : State) (took : Took) (ballot : Ballot) (whom : List ℕ) → reserved_by (counted_in council (answer.Done state took ballot) whom) ≤ reserved_by council + 1
counted_reserves council Empty took ballot whom = omega (arith, hushed_reserves council.order, one_more council.collection ballot whom)
counted_reserves council (Held version body) took ballot whom = omega (arith, hushed_reserves council.order, still_reserves council.collection (found_held version) (λ c. refl))

module _ {S V : Type 0} (m : Meaning S V) (last_proposer : ℕ) (council council_now : Council) (acceptors : List (AcceptorView S)) (desks : List (DeskView V)) (callers : List Caller) (flow : FlowView) (book after : Book) (desk now : DeskView V) (caller next : Caller) (said : Answer)
    (found : IsCounting desks callers 0 desk caller book.room) (by : Counts m.disks desk now found.may.round caller next found.may.call found.may.outcome book after said)
    (safe : IsSafe (view_of last_proposer council acceptors desks callers flow book)) (of : IsCollectingCall (view_of last_proposer council acceptors desks callers flow book))
    (counts : StepCount m (view_of last_proposer council acceptors desks callers flow book) 0 (view_of last_proposer council acceptors (slice_set desks 0 now) (slice_set callers 0 next) flow after)) (eras : council_now.eras ≡ council.eras) where
  abbrev old_view : View S V
  old_view = view_of last_proposer council acceptors desks callers flow book

  abbrev middle_view : View S V
  middle_view = view_of last_proposer council acceptors (slice_set desks 0 now) (slice_set callers 0 next) flow after

  abbrev new_view : View S V
  new_view = view_of last_proposer council_now acceptors (slice_set desks 0 now) (slice_set callers 0 next) flow after

  -- the call, as it is told
  abbrev call_now : CallView
  call_now = calls.over (call_view found.may.call) said

  abbrev open_now : OpenCallAt middle_view 0
  open_now = record {
    caller = record (caller_view caller) { call = Some call_now };
    at_caller = subst (λ (c : Caller). IsAt (map caller_view (slice_set callers 0 next)) 0 (caller_view c)) by.caller_is (at_map caller_view (slice_set callers 0 next) 0 next (at_set callers 0 caller next found.at_caller));
    call = call_now;
    is_open = refl;
  }

  same_call : of.of_call.call ≡ call_view found.may.call
  same_call = some_is (sym of.of_call.is_open ∙ ap (λ (c : CallerView). c.call) (at_one (map caller_view callers) 0 of.of_call.at_caller (at_map caller_view callers 0 caller found.at_caller)) ∙ ap (option_map call_view) found.may.is_open)

  is_it : IsCollecting (council_view council) call_now.key
  is_it = subst (λ (c : CallView). IsCollecting (council_view council) c.key) same_call of.is

  is_safe : IsOpenSafe (era_in council.eras.0 0) (caller_view caller) (queue_at flow 0) found.may.round
  is_safe = subst (IsRoundSafe (era_in council.eras.0 0) (caller_view caller) (queue_at flow 0)) found.may.is_round (safe.sound.parties 0 desk (caller_view caller) found.at_desk (at_map caller_view callers 0 caller found.at_caller)).round

  same_key : found.may.round.key ≡ call_now.key
  same_key = is_safe.same_key ∙ ap (λ (c : CallView). c.key) (some_is (sym is_safe.is_open ∙ ap (option_map call_view) found.may.is_open))

  same_era : found.may.round.era.number ≡ is_it.at.collection.course.era.number
  same_era = ap (λ (e : Era). e.number) (is_safe.same_era ∙ sym (safe.collection.each is_it.at.collection is_it.at.is_collection).same_era)

  -- the step, by what its round came to
  counts_so : (collection : CollectionView) → CountedAs old_view middle_view call_now is_it.at.collection collection → council_view council_now ≡ record (hushed (council_view council)) { collection = Some collection } → Step m old_view step.CountCollect new_view
  counts_so collection counted is = record {
    middle = middle_view;
    counts = counts;
    of_call = open_now;
    is = is_it;
    now = collection;
    counted = counted;
    view = (λ i. record new_view { eras = (eras i).0; council = is i }) ∙ hushed_so middle_view is_it.at.order collection is_it.at.is_open;
  }

  pub counts_collect : (whom : List ℕ) → whom ≡ confirmed_in found.may.round.phase → council_view council_now ≡ counted_in (council_view council) said whom → Step m old_view step.CountCollect new_view
  counts_collect whom shown is = by_state found.may.outcome.state refl
    where
      is_so : council_view council_now ≡ counted_in (council_view council) (answer.Done found.may.outcome.state found.may.outcome.took found.may.round.ballot) whom
      is_so = is ∙ ap (λ (a : Answer). counted_in (council_view council) a whom) by.told_is

      by_state : (state : State) → found.may.outcome.state ≡ state → Step m old_view step.CountCollect new_view
      by_state Empty empty = counts_so (acknowledged_by found.may.round.ballot whom is_it.at.collection)
          (collect.acknowledges found.may.outcome.took (record { key = found.may.round.key; ballot = found.may.round.ballot; era = found.may.round.era.number; by = whom })
          (ap (λ (a : Answer). Some a) (by.told_is ∙ ap (λ (s : State). answer.Done s found.may.outcome.took found.may.round.ballot) empty))
          (by.marks ∙ ap (λ (l : List ℕ). book.marks ++ Acked (record { key = found.may.round.key; ballot = found.may.round.ballot; era = found.may.round.era.number; by = l }) ∷ []) (by.shown ∙ sym shown)) same_key same_era refl)
          (is_so ∙ ap (λ (s : State). counted_in (council_view council) (answer.Done s found.may.outcome.took found.may.round.ballot) whom) empty
          ∙ ap (λ (o : Option CollectionView). record (hushed (council_view council)) { collection = option_map (acknowledged_by found.may.round.ballot whom) o }) is_it.at.is_collection)
      by_state (Held version body) held = counts_so (found_held version is_it.at.collection)
          (collect.finds_held version body found.may.outcome.took found.may.round.ballot (ap (λ (a : Answer). Some a) (by.told_is ∙ ap (λ (s : State). answer.Done s found.may.outcome.took found.may.round.ballot) held)) refl)
          (is_so ∙ ap (λ (s : State). counted_in (council_view council) (answer.Done s found.may.outcome.took found.may.round.ballot) whom) held
          ∙ ap (λ (o : Option CollectionView). record (hushed (council_view council)) { collection = option_map (found_held version) o }) is_it.at.is_collection)

  pub counts_tombstone : Step m old_view step.CountCollect new_view → CountsTombstone m old_view said new_view
  counts_tombstone by_step = subst (λ (a : Answer). CountsTombstone m old_view a new_view) (sym by.told_is) by_step

  -- the mark of its floor, too, has memory
  pub counted_room : (whom : List ℕ) → council_view council_now ≡ counted_in (council_view council) said whom → reserved_of (map caller_view callers) + reserved_by (council_view council) ≤ book.room
      → reserved_of (map caller_view (slice_set callers 0 next)) + reserved_by (council_view council_now) ≤ after.room
  counted_room whom is room = omega (
    arith,
    found.three,
    by.room,
    room,
    ap reserved_by is ∙ ap (λ (a : Answer). reserved_by (counted_in (council_view council) a whom)) by.told_is,
    counted_reserves (council_view council) found.may.outcome.state found.may.outcome.took found.may.round.ballot whom,
    ap (λ (l : List CallerView). reserved_of l) (map_set caller_view callers 0 next),
    reserved_set (map caller_view callers) 0 (caller_view caller) (caller_view next) (at_map caller_view callers 0 caller found.at_caller),
    ap (λ (o : Option OpenCall). reserved_in (option_map call_view o)) found.may.is_open,
    ap (λ (c : Caller). reserved_in (caller_view c).call) by.caller_is,
  )

-- ---- a held state was read
module _ {S V : Type 0} (m : Meaning S V) (last_proposer : ℕ) (council council_now : Council) (acceptors : List (AcceptorView S)) (desks : List (DeskView V)) (callers : List Caller) (flow : FlowView) (book : Book) (desk now : DeskView V) (caller : Caller) (version : ℕ)
    (at_desk : IsAt desks 0 desk) (at_caller : IsAt callers 0 caller) (safe : IsSafe (view_of last_proposer council acceptors desks callers flow book)) (phase : IsInPhase (view_of last_proposer council acceptors desks callers flow book) 0 true)
    (of : IsCollectingCall (view_of last_proposer council acceptors desks callers flow book)) (finds : FindsHeld desk version) (ends : (round : Round) → desk.round ≡ Some round → EndsRound m.disks desk now round None) (eras : council_now.eras ≡ council.eras) where
  pub reads_held : council_view council_now ≡ with_collection (hushed (council_view council)) (λ c. record (found_held version c) { calling = false })
      → Step m (view_of last_proposer council acceptors desks callers flow book) step.ReadHeld (view_of last_proposer council_now acceptors (slice_set desks 0 now) (slice_set callers 0 (record caller { call = None })) flow book)
  reads_held is =
      let same : phase.desk ≡ desk = at_one desks 0 phase.at_desk at_desk in
      let one : phase.round ≡ finds.round = some_is (sym phase.is_round ∙ ap (λ (d : DeskView V). d.round) same ∙ finds.is_round) in
      let same_caller : caller_view caller ≡ of.of_call.caller = at_one (map caller_view callers) 0 (at_map caller_view callers 0 caller at_caller) of.of_call.at_caller in
      record {
        of_call = of.of_call;
        is = of.is;
        desk = desk;
        at_desk = at_desk;
        up = up_with desk.down desk.round finds.round (safe.sound.parties 0 desk (caller_view caller) at_desk (at_map caller_view callers 0 caller at_caller)).idle finds.is_round;
        round = finds.round;
        is_round = finds.is_round;
        none_waits = phase.none_waits;
        preparing = subst (λ (r : Round). is_preparing r.phase ≡ true) one phase.phase;
        quorum = finds.quorum;
        read = finds.read;
        is_read = finds.is_read;
        version = version;
        body = finds.body;
        held = finds.held;
        now = now;
        ends = ends finds.round finds.is_round;
        view = (λ i. record (view_of last_proposer council_now acceptors (slice_set desks 0 now) (slice_set callers 0 (record caller { call = None })) flow book) {
          eras = (eras i).0;
          council = is i;
          callers = (map_set caller_view callers 0 (record caller { call = None }) ∙ ap (λ (c : CallerView). slice_set (map caller_view callers) 0 (record c { call = None })) same_caller) i;
        })
            ∙ hushed_on (with_caller (with_desk (view_of last_proposer council acceptors desks callers flow book) 0 now) 0 (record of.of_call.caller { call = None })) of.is.at.order of.is.at.collection (λ c. record (found_held version c) { calling = false }) of.is.at.is_open of.is.at.is_collection;
      }

  -- what was reserved for its call is free
  pub held_room : (left : ℕ) → council_view council_now ≡ with_collection (hushed (council_view council)) (λ c. record (found_held version c) { calling = false }) → reserved_of (map caller_view callers) + reserved_by (council_view council) ≤ left
      → reserved_of (map caller_view (slice_set callers 0 (record caller { call = None }))) + reserved_by (council_view council_now) ≤ left
  held_room left is room = omega (
    arith,
    room,
    ap reserved_by is,
    hushed_reserves (council_view council).order,
    still_reserves (council_view council).collection (λ c. record (found_held version c) { calling = false }) (λ c. refl),
    ap (λ (l : List CallerView). reserved_of l) (map_set caller_view callers 0 (record caller { call = None })),
    reserved_set (map caller_view callers) 0 (caller_view caller) (caller_view (record caller { call = None })) (at_map caller_view callers 0 caller at_caller),
  )

-- ---- no call is open
pub is_some_not : {A : Type 0} (o : Option A) → is_some o ≡ true → o ≡ None → ⊥
is_some_not o some none = cc (ap is_some none, some)

pub call_none : {S V : Type 0} (view : View S V) (caller : Caller) → IsAt view.callers 0 (caller_view caller) → HasNoCall view 0 → caller.call ≡ None
call_none view caller at none = no_call caller.call (ap (λ (c : CallerView). c.call) (at_one view.callers 0 at none.at_caller) ∙ none.none_open)
  where
    no_call : (call : Option OpenCall) → option_map call_view call ≡ None → call ≡ None
    no_call None is = refl
    no_call (Some call) is = absurd (cc is)

-- where no change of membership is under way, a call that is refused tells the operator nothing
pub refused_order : {S V : Type 0} (m : Meaning S V) (old middle : View S V) (key : List ℕ) (order : OrderView) → old.council.order ≡ Some order → old.council.plan ≡ None → RefusesCall m old 0 key middle → middle.council.order ≡ Some order
refused_order {S} {V} m old middle key order is_open unplanned by = by_case by
  where
    same : (told : Answer) (council : cluster.Council) → Rescans old.council 0 key told council → council.order ≡ Some order
    same told council (calls.rescans is done next) = absurd (cc (unplanned, is.is_plan))
    same told council (calls.stops is not next) = absurd (cc (unplanned, is.is_plan))
    same told council (calls.is_none none next) = ap (λ (c : cluster.Council). c.order) next ∙ is_open

    by_case : RefusesCall m old 0 key middle → middle.council.order ≡ Some order
    by_case (calls.stays told council is rescans view) = ap (λ (v : View S V). v.council.order) view ∙ same told council rescans
    by_case (calls.loses caller desk now ballot council at at_desk idle up loses rescans view) = ap (λ (v : View S V). v.council.order) view ∙ same (answer.NoMemory false) council rescans
