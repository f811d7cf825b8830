-- The collection that is under way stays as it is to be, through each of its steps.
use Rattle.std.proofs.Common.{◌≡◌, ◌<◌, ◌≤◌, ℕ, Bool, true, false, List, [], ◌∷◌, ◌++◌, Option, None, Some, refl, sym, ap, subst, ◌∙◌, arith, length-append}
use Rattle.std.specs.Prelude.{◌+◌, nat_lt, length, if◌then◌else◌, slice_set}
use Rattle.cas_ballot.specs.declared.ballot.Ballot.{Ballot}
use Rattle.cas_ballot.specs.Ballot.{zero_ballot, FitsBallot}
use Rattle.cas_ballot.specs.Members.{union_of}
use Rattle.cas_collect.specs.Order.{IsStepOf, step_after}
use Rattle.cas_collect.specs.declared.collect.CollectStep.{CollectStep}
use Rattle.cas_collect.specs.declared.collect.CollectStep.TheVariants.{Round, Renew, Ages, Floor as FloorStep, Remove, End}
use Rattle.cas_change.specs.declared.outcome.Took.{Took}
use Rattle.cas_change.specs.declared.state.State.{State}
use Rattle.cas_change.specs.declared.state.State.TheVariants.{Empty}
use Rattle.cas_flow.specs.Flow.{queue_at}
use Rattle.cas_quorum.specs.declared.era.Era.{Era}
use Rattle.cas_record.specs.declared.answer.Answer.{Answer}
use Rattle.cas_record.specs.declared.answer.Answer.TheVariants as answer
use Rattle.cas_record.specs.declared.mark.Acknowledgment.{Acknowledgment}
use Rattle.cas_record.specs.declared.mark.Mark.{Mark}
use Rattle.cas_record.specs.declared.mark.Mark.TheVariants.{Acked}
use Rattle.cas_record.specs.declared.operator.Asked.TheVariants as asked
use Rattle.cas_record.specs.declared.operator.OpAnswer.{OpAnswer}
use Rattle.cas_model.specs.Collection.Logged.{is_after_floor}
use Rattle.cas_model.specs.Collection.State.{Tombstone, FoundHeld, Acknowledged, CollectionView, tomb_of, course_stepped, new_collection, confirmed_step, called}
use Rattle.cas_model.specs.Council.{Question, ExchangeView, OrderView, Council}
use Rattle.cas_model.specs.Safe.{IsOpenSafe, IsRoundSafe, IsSound, renewals_before, IsAcknowledgedByAll, IsCollectionSafe, is_of_collection, IsCollectingIn, IsCollectingSafe}
use Rattle.cas_model.specs.Step.{OpenRoundAt, StepBegin, StepCount, StepEnd}
use Rattle.cas_model.specs.Calls.Step as calls
use Rattle.cas_model.specs.Calls.Step.{over, CountsOrEnds}
use Rattle.cas_model.specs.Collection.Step as collect
use Rattle.cas_model.specs.Collection.Step.{keep_always, CollectingAt, collecting, stopped_by, IsQuestionOf, StepBeginCollect, StepReadHeld, StepCountCollect, StepEndCollect, StepGatherRound, StepRenew, StepAskCollect, StepGatherCollect, StepMakeFloor}
use Rattle.cas_model.specs.Exchanges.Step.{told_view, gathered, everyone, new_exchange}
use Rattle.cas_model.specs.Stops.Step.{OpenCallAt}
use Rattle.cas_model.specs.View.{Meaning, View, CallView, CallerView, IsAt, reserved_in, reserved_of, era_at}
use Rattle.cas_model.proofs.Places.{own_set, some_is}
use Rattle.cas_model.proofs.Collection.SafeCollecting.{Frame, frame_of, IsCollectingBy, same_collecting, told_collecting, gathered_collecting, begin_frame, count_frame, end_collecting, refuse_collecting, left_frame, down_collecting}
use Rattle.cas_model.proofs.Eras.SafeListings.{rescan_collects}
use Rattle.cas_model.proofs.Safety.Parts.{reserved_set}
use Rattle.cas_model.proofs.Stops.Safe.{reserves_one}

-- ---- steps
-- whether members are asked at that step
abbrev asks_at : CollectStep → Bool
asks_at Ages = true
asks_at Remove = true
asks_at other = false

asked_at : (collection : CollectionView) (question : Question) → IsQuestionOf collection question → asks_at collection.course.step ≡ true
asked_at collection question (collect.tells_ages is asks) = ap asks_at is
asked_at collection question (collect.removes is asks) = ap asks_at is

step_stays : (last_proposer : ℕ) (step : CollectStep) → IsStepOf last_proposer step → IsStepOf last_proposer (step_after last_proposer step)
step_stays last_proposer Round is = omega arith
step_stays last_proposer (Renew proposer) is = by_test (nat_lt proposer last_proposer) refl
  where
    by_test : (b : Bool) → nat_lt proposer last_proposer ≡ b → IsStepOf last_proposer (if b then Renew (proposer + 1) else Ages)
    by_test true e = grind (arith, e)
    by_test false e = tt
step_stays last_proposer Ages is = tt
step_stays last_proposer FloorStep is = tt
step_stays last_proposer Remove is = tt
step_stays last_proposer End is = tt

-- one more proposer is renewed
renewed_after : (last_proposer proposer : ℕ) → proposer ≤ last_proposer → renewals_before last_proposer (step_after last_proposer (Renew proposer)) ≡ proposer + 1
renewed_after last_proposer proposer low = by_test (nat_lt proposer last_proposer) refl
  where
    by_test : (b : Bool) → nat_lt proposer last_proposer ≡ b → renewals_before last_proposer (if b then Renew (proposer + 1) else Ages) ≡ proposer + 1
    by_test true e = refl
    by_test false e = grind (arith, e, low)

-- or as many were
renewed_still : (last_proposer : ℕ) (step : CollectStep) → asks_at step ≡ true → renewals_before last_proposer (step_after last_proposer step) ≡ renewals_before last_proposer step
renewed_still last_proposer Ages is = refl
renewed_still last_proposer Remove is = refl
renewed_still last_proposer Round is = absurd (cc is)
renewed_still last_proposer (Renew proposer) is = absurd (cc is)
renewed_still last_proposer FloorStep is = absurd (cc is)
renewed_still last_proposer End is = absurd (cc is)

pub before_floor : (last_proposer : ℕ) (step : CollectStep) → is_after_floor (step_after last_proposer step) ≡ false → is_after_floor step ≡ false
before_floor last_proposer Round is = refl
before_floor last_proposer (Renew proposer) is = refl
before_floor last_proposer Ages is = refl
before_floor last_proposer FloorStep is = refl
before_floor last_proposer Remove is = absurd (cc is)
before_floor last_proposer End is = absurd (cc is)

-- ---- the collection that is under way
one_collecting : (council : Council) (era : Era) (last_proposer : ℕ) (collection : CollectionView) → council.collection ≡ Some collection → IsCollectionSafe council era last_proposer collection
    → ((exchange : ExchangeView) → council.exchange ≡ Some exchange → is_of_collection exchange.question ≡ true → IsQuestionOf collection exchange.question × (exchange.tag ≡ tomb_of collection.tombstone) × (exchange.members ≡ union_of era.prep era.acc))
    → IsCollectingIn council era last_proposer
one_collecting council era last_proposer collection is safe asks = record {
  each = λ other at_it. subst (IsCollectionSafe council era last_proposer) (some_is (sym is ∙ at_it)) safe;
  exchange = λ exchange is_open of. let all = asks exchange is_open of in record { collection = collection; is_collection = is; asks = all.0; tag = all.1; members = all.2 };
}

-- no exchange asks for it at a step at which members are not asked
none_asks_at : (council : Council) (era : Era) (last_proposer : ℕ) (collection : CollectionView) → IsCollectingIn council era last_proposer → council.collection ≡ Some collection → asks_at collection.course.step ≡ false
    → (exchange : ExchangeView) → council.exchange ≡ Some exchange → is_of_collection exchange.question ≡ true → ⊥
none_asks_at council era last_proposer collection was is quiet exchange is_open asks =
    let of = was.exchange exchange is_open asks in
    let same : of.collection ≡ collection = some_is (sym of.is_collection ∙ is) in
    cc (quiet, asked_at of.collection exchange.question of.asks, ap (λ (c : CollectionView). asks_at c.course.step) same)

-- its step is confirmed
abbrev confirmed : CollectionView → List ℕ → ℕ → ℕ → ℕ → CollectionView
confirmed collection ages removed kept reserved = record collection { course = course_stepped collection.course; ages = ages; removed = removed; kept = kept; reserved = reserved }

confirmed_safe : (old next : Council) (era : Era) (last_proposer : ℕ) (collection : CollectionView) (order : OrderView) (ages : List ℕ) (removed kept reserved : ℕ) → IsCollectionSafe old era last_proposer collection
    → next.order ≡ Some order → order.asked ≡ asked.Collect collection.course.key → next.plan ≡ None → (collection.calling ≡ true → ⊥) → length ages ≡ renewals_before last_proposer (step_after last_proposer collection.course.step)
    → (is_after_floor (step_after last_proposer collection.course.step) ≡ false → collection.reserved ≤ reserved) → reserved ≤ 1 → IsAcknowledgedByAll era collection.tombstone → IsCollectionSafe next era last_proposer (confirmed collection ages removed kept reserved)
confirmed_safe old next era last_proposer collection order ages removed kept reserved was is_open is_for unplanned over counted more few by_all = record {
  order = order;
  is_open = is_open;
  is_for = is_for;
  none_planned = unplanned;
  same_era = was.same_era;
  proposers = was.proposers;
  is_step = subst (IsStepOf last_proposer) (sym same) (step_stays last_proposer collection.course.step was.is_step);
  calling = λ is. absurd (over is);
  ages = counted ∙ ap (renewals_before last_proposer) (sym same);
  tomb = was.tomb;
  acknowledged = λ past. by_all;
  reserved = λ ballot by is before.
      let here = sym (ap is_after_floor same) ∙ before in
      omega (arith, more here, was.reserved ballot by is (before_floor last_proposer collection.course.step here));
  few = few;
}
  where
    same : step_after collection.course.proposers collection.course.step ≡ step_after last_proposer collection.course.step
    same = ap (λ (n : ℕ). step_after n collection.course.step) was.proposers

-- its call is open, or was until now, and it is in its round
abbrev in_round : CollectionView → Bool → Tombstone → ℕ → CollectionView
in_round collection calling tombstone reserved = record collection { calling = calling; tombstone = tombstone; reserved = reserved }

in_round_safe : (old next : Council) (era : Era) (last_proposer : ℕ) (collection : CollectionView) (order : OrderView) (calling : Bool) (tombstone : Tombstone) (reserved : ℕ) → IsCollectionSafe old era last_proposer collection → collection.calling ≡ true
    → next.order ≡ Some order → order.asked ≡ asked.Collect collection.course.key → next.plan ≡ None → FitsBallot (tomb_of tombstone) → ((ballot : Ballot) (by : List ℕ) → tombstone ≡ Acknowledged ballot by → 0 < reserved) → reserved ≤ 1
    → IsCollectionSafe next era last_proposer (in_round collection calling tombstone reserved)
in_round_safe old next era last_proposer collection order calling tombstone reserved was in_call is_open is_for unplanned fits some few = record {
  order = order;
  is_open = is_open;
  is_for = is_for;
  none_planned = unplanned;
  same_era = was.same_era;
  proposers = was.proposers;
  is_step = was.is_step;
  calling = λ is. was.calling in_call;
  ages = was.ages;
  tomb = fits;
  acknowledged = λ past. absurd (past (was.calling in_call));
  reserved = λ ballot by is before. some ballot by is;
  few = few;
}

zero_fits : FitsBallot zero_ballot
zero_fits = record { counter = omega arith; proposer = omega arith }

-- in its round its tombstone changes, or its call is over
round_collecting : (council : Council) (era : Era) (last_proposer : ℕ) (at : CollectingAt council) (told : Option OpAnswer) (calling : Bool) (tombstone : Tombstone) (reserved : ℕ) → at.collection.calling ≡ true → FitsBallot (tomb_of tombstone)
    → ((ballot : Ballot) (by : List ℕ) → tombstone ≡ Acknowledged ballot by → 0 < reserved) → reserved ≤ 1 → IsCollectingIn council era last_proposer
    → IsCollectingIn (record council { order = Some (record at.order { told = told }); collection = Some (in_round at.collection calling tombstone reserved) }) era last_proposer
round_collecting council era last_proposer at told calling tombstone reserved in_call fits some few was =
    let of = was.each at.collection at.is_collection in
    let next : Council = record council { order = Some (record at.order { told = told }); collection = Some (in_round at.collection calling tombstone reserved) } in
    one_collecting next era last_proposer (in_round at.collection calling tombstone reserved) refl
    (in_round_safe council next era last_proposer at.collection (record at.order { told = told }) calling tombstone reserved of in_call refl at.is_for of.none_planned fits some few)
    (λ exchange is_open asks. absurd (none_asks_at council era last_proposer at.collection was at.is_collection (ap asks_at (of.calling in_call)) exchange is_open asks))

-- ---- its call
pub begin_collecting : {S V : Type 0} (m : Meaning S V) (old new : View S V) (key : List ℕ) → StepBeginCollect m (λ before after. StepBegin m before 0 key keep_always after) old key new → IsCollectingSafe old → IsCollectingSafe new
begin_collecting {S} {V} m old new key by was = in_case by.begins
  where
    told : (answer : OpAnswer) → new ≡ told_view old answer → IsCollectingSafe new
    told answer is = same_collecting (told_view old answer) new (ap frame_of is) (told_collecting old answer was)

    begun : CollectionView
    begun = new_collection key (era_at old 0) old.last_proposer

    order : OrderView
    order = record by.may.order { told = None }

    AfterIn : CollectionView → Frame → Type 0
    AfterIn collection f = IsCollectingIn (record f.council { order = Some order; collection = Some collection }) f.era f.last_proposer

    -- another round of the collection that is under way
    again : (of : collect.IsCollecting old.council key) → AfterIn of.at.collection (frame_of old)
    again of =
        let safe = was.each of.at.collection of.at.is_collection in
        subst (λ (o : OrderView). IsCollectingIn (record old.council { order = Some (record o { told = None }); collection = Some of.at.collection }) (era_at old 0) old.last_proposer) (some_is (sym of.at.is_open ∙ by.may.is_open))
        (round_collecting old.council (era_at old 0) old.last_proposer of.at None of.at.collection.calling of.at.collection.tombstone of.at.collection.reserved of.calling safe.tomb
        (λ ballot by_whom is. safe.reserved ballot by_whom is (ap is_after_floor of.is_due)) safe.few was)

    after : old.council.plan ≡ None → AfterIn begun (frame_of old)
    after unplanned = one_collecting (record old.council { order = Some order; collection = Some begun }) (era_at old 0) old.last_proposer begun refl (record {
      order = order;
      is_open = refl;
      is_for = by.may.is_for;
      none_planned = unplanned;
      same_era = refl;
      proposers = refl;
      is_step = tt;
      calling = λ is. refl;
      ages = refl;
      tomb = zero_fits;
      acknowledged = λ past. absurd (past refl);
      reserved = λ ballot by is before. absurd (cc is);
      few = omega arith;
    }) (λ exchange is_open asks. absurd (cc (is_open, by.may.none_asked)))

    in_case : collect.BeginsCollection m (λ before after. StepBegin m before 0 key keep_always after) old key by.may.order by.desk by.caller new → IsCollectingSafe new
    in_case (collect.is_down none down is) = told _ is
    in_case (collect.is_busy plan none up busy is) = told _ is
    in_case (collect.is_full none up unplanned full is) = told _ is
    in_case (collect.no_memory middle none up unplanned refuses is) = same_collecting (told_view middle _) new (ap frame_of is) (told_collecting middle _ (refuse_collecting m old middle 0 key refuses was))
    in_case (collect.begins middle none unplanned begins is) = subst IsCollectingBy (sym (ap frame_of is)) (subst (AfterIn begun) (sym (begin_frame m old middle 0 key keep_always begins)) (after unplanned))
    in_case (collect.goes_on middle call of open_ begins is) = subst IsCollectingBy (sym (ap frame_of is)) (subst (AfterIn of.at.collection) (sym (begin_frame m old middle 0 key keep_always begins)) (again of))

pub held_collecting : {S V : Type 0} (m : Meaning S V) (old new : View S V) → StepReadHeld m old new → IsCollectingSafe old → IsCollectingSafe new
held_collecting {S} {V} m old new by was =
    subst IsCollectingBy (sym (ap frame_of by.view)) (round_collecting old.council (era_at old 0) old.last_proposer by.is.at None false (FoundHeld by.version) by.is.at.collection.reserved by.is.calling zero_fits (λ ballot by_whom is. absurd (cc is)) (was.each by.is.at.collection by.is.at.is_collection).few was)

-- ---- what is counted
-- a round of proposer 0 is counted: of the marks that were reserved for its call one is left over, and the ballot that its caller is told is
-- within its limits
pub record IsRoundCounted {S V : Type 0} (old middle : View S V) : Type 0 where
  pub room : length middle.marks + reserved_of middle.callers + 1 ≤ length old.marks + reserved_of old.callers
  pub fits : (of : OpenCallAt middle 0) (state : State) (took : Took) (ballot : Ballot) → of.call.told ≡ Some (answer.Done state took ballot) → FitsBallot ballot

pub is_counted : {S V : Type 0} (m : Meaning S V) (old middle : View S V) → IsSound old → StepCount m old 0 middle → length old.marks < length middle.marks → IsRoundCounted old middle
is_counted {S} {V} m old middle was by more = in_case by.counts
  where
    at : OpenRoundAt old 0
    at = by.at_round

    caller : CallerView
    caller = at.of_call.caller

    safe : IsOpenSafe (era_at old 0) caller (queue_at old.flow 0) at.round
    safe = subst (IsRoundSafe (era_at old 0) caller (queue_at old.flow 0)) at.is_open (was.parties 0 at.desk caller at.at_desk at.of_call.at_caller).round

    same : safe.call ≡ at.of_call.call
    same = some_is (sym safe.is_open ∙ at.of_call.is_open)

    told_in : (next : CallerView) (call : CallView) (of : OpenCallAt middle 0) → middle.callers ≡ slice_set old.callers 0 next → next.call ≡ Some call → of.call ≡ call
    told_in next call of callers is =
        let its : of.caller ≡ next = own_set old.callers 0 next of.caller (subst (λ (l : List CallerView). IsAt l 0 of.caller) callers of.at_caller) in
        some_is (sym of.is_open ∙ ap (λ (c : CallerView). c.call) its ∙ is)

    in_case : CountsOrEnds m old 0 at.desk at.round caller at.of_call.call middle → IsRoundCounted old middle
    in_case (calls.counts now by_whom outcome quorum confirmers proposed ends view) =
        let told : CallView = over at.of_call.call (answer.Done outcome.state outcome.took at.round.ballot) in
        let mark : Acknowledgment = record { key = at.round.key; ballot = at.round.ballot; era = at.round.era.number; by = by_whom } in
        record {
          room = omega (
            arith,
            ap (λ (v : View S V). length v.marks) view,
            ap (λ (v : View S V). reserved_of v.callers) view,
            length-append old.marks (Acked mark ∷ []),
            reserved_set old.callers 0 caller (record caller { call = Some told }) at.of_call.at_caller,
            ap reserved_in at.of_call.is_open,
            ap (λ (c : CallView). c.reserved) same,
            reserves_one (era_at old 0) caller (queue_at old.flow 0) at.round safe (was.prep_sets 0) (was.acc_sets 0),
          );
          fits = λ of state took ballot is.
              let said = told_in (record caller { call = Some told }) told of (ap (λ (v : View S V). v.callers) view) refl in
              subst FitsBallot (ballot_told (sym (ap (λ (c : CallView). c.told) said) ∙ is)) safe.ballot;
        }
      where
        ballot_told : {state other : State} {took its : Took} {ballot b : Ballot} → ◌≡◌ {A = Option Answer} (Some (answer.Done state took ballot)) (Some (answer.Done other its b)) → ballot ≡ b
        ballot_told is = cc is
    in_case (calls.ends now verdict why is_verdict cause ends view) = absurd (omega (arith, more, ap (λ (v : View S V). length v.marks) view))

pub counted_more : {S V : Type 0} (old middle : View S V) (mark : Mark) → middle.marks ≡ old.marks ++ mark ∷ [] → length old.marks < length middle.marks
counted_more old middle mark is = omega (arith, ap (λ (l : List Mark). length l) is, length-append old.marks (mark ∷ []))

pub count_collecting : {S V : Type 0} (m : Meaning S V) (old new : View S V) → IsSound old → StepCountCollect (λ before after. StepCount m before 0 after) old new → IsCollectingSafe old → IsCollectingSafe new
count_collecting {S} {V} m old new sound by was = in_case by.counted
  where
    at : CollectingAt old.council
    at = by.is.at

    AfterIn : CollectionView → Frame → Type 0
    AfterIn now f = IsCollectingIn (record f.council { order = Some (record at.order { told = None }); collection = Some now }) f.era f.last_proposer

    so : (now : CollectionView) → by.now ≡ now → AfterIn now (frame_of old) → IsCollectingSafe new
    so now is safe = subst IsCollectingBy (sym (ap frame_of (by.view ∙ ap (λ (c : CollectionView). collecting by.middle at.order None c) is))) (subst (AfterIn now) (sym (count_frame m old by.middle 0 by.counts)) safe)

    in_case : collect.CountedAs old by.middle by.of_call.call at.collection by.now → IsCollectingSafe new
    in_case (collect.acknowledges took acknowledgment done acked same_key same_era now) = so _ now
        (round_collecting old.council (era_at old 0) old.last_proposer at None at.collection.calling (Acknowledged acknowledgment.ballot acknowledgment.by) 1 by.is.calling
        ((is_counted m old by.middle sound by.counts (counted_more old by.middle _ acked)).fits by.of_call Empty took acknowledgment.ballot done) (λ ballot by_whom is. omega arith) (omega arith) was)
    in_case (collect.finds_held version body took ballot done now) = so _ now
        (round_collecting old.council (era_at old 0) old.last_proposer at None at.collection.calling (FoundHeld version) at.collection.reserved by.is.calling zero_fits (λ acked by_whom is. absurd (cc is)) (was.each at.collection at.is_collection).few was)

-- its call ends
pub still_collecting : {S V : Type 0} (m : Meaning S V) (old middle : View S V) (told : Answer) → StepEnd m old 0 told middle → middle.council.collection ≡ old.council.collection
still_collecting {S} {V} m old middle told by = ap (λ (v : View S V). v.council.collection) by.ends.view ∙ rescan_collects old.council 0 by.of_call.call.key told by.ends.council by.ends.rescans

pub end_collect_collecting : {S V : Type 0} (m : Meaning S V) (old new : View S V) (told : Answer) → StepEndCollect (λ before after. StepEnd m before 0 told after) old told new → IsCollectingSafe old → IsCollectingSafe new
end_collect_collecting {S} {V} m old new told by was =
    let safe = end_collecting m old by.middle 0 told by.ends was in
    let is_collection : by.middle.council.collection ≡ Some by.is.at.collection = still_collecting m old by.middle told by.ends ∙ by.is.at.is_collection in
    let of = safe.each by.is.at.collection is_collection in
    let next : Council = record by.middle.council { order = Some (record by.is.at.order { told = stopped_by told }); collection = Some (called by.is.at.collection) } in
    subst IsCollectingBy (sym (ap frame_of by.view)) (one_collecting next (era_at by.middle 0) by.middle.last_proposer (called by.is.at.collection) refl
    (in_round_safe by.middle.council next (era_at by.middle 0) by.middle.last_proposer by.is.at.collection (record by.is.at.order { told = stopped_by told }) false by.is.at.collection.tombstone by.is.at.collection.reserved of by.is.calling refl by.is.at.is_for
    of.none_planned of.tomb (λ ballot by_whom is. of.reserved ballot by_whom is (ap is_after_floor (of.calling by.is.calling))) of.few)
    (λ exchange is_open asks. absurd (none_asks_at by.middle.council (era_at by.middle 0) by.middle.last_proposer by.is.at.collection safe is_collection (ap asks_at (of.calling by.is.calling)) exchange is_open asks)))

-- ---- its steps
-- one that is not of its round
not_in_round : (council : Council) (era : Era) (last_proposer : ℕ) (collection : CollectionView) (step : CollectStep) → IsCollectionSafe council era last_proposer collection → collection.course.step ≡ step → (step ≡ Round → ⊥) → collection.calling ≡ true → ⊥
not_in_round council era last_proposer collection step safe is other in_call = other (sym is ∙ safe.calling in_call)

-- a step is confirmed at which no members are asked
quiet_collecting : (council : Council) (era : Era) (last_proposer : ℕ) (at : CollectingAt council) (told : Option OpAnswer) (ages : List ℕ) (reserved : ℕ) → IsCollectingIn council era last_proposer → asks_at at.collection.course.step ≡ false
    → (at.collection.calling ≡ true → ⊥) → length ages ≡ renewals_before last_proposer (step_after last_proposer at.collection.course.step)
    → (is_after_floor (step_after last_proposer at.collection.course.step) ≡ false → at.collection.reserved ≤ reserved) → reserved ≤ 1 → IsAcknowledgedByAll era at.collection.tombstone
    → IsCollectingIn (record council { order = Some (record at.order { told = told }); collection = Some (confirmed at.collection ages at.collection.removed at.collection.kept reserved) }) era last_proposer
quiet_collecting council era last_proposer at told ages reserved was quiet over counted more few by_all =
    let of = was.each at.collection at.is_collection in
    let next : Council = record council { order = Some (record at.order { told = told }); collection = Some (confirmed at.collection ages at.collection.removed at.collection.kept reserved) } in
    one_collecting next era last_proposer (confirmed at.collection ages at.collection.removed at.collection.kept reserved) refl
    (confirmed_safe council next era last_proposer at.collection (record at.order { told = told }) ages at.collection.removed at.collection.kept reserved of refl at.is_for of.none_planned over counted more few by_all)
    (λ exchange is_open asks. absurd (none_asks_at council era last_proposer at.collection was at.is_collection quiet exchange is_open asks))

pub round_gathered_collecting : {S V : Type 0} (old new : View S V) → StepGatherRound old new → IsCollectingSafe old → IsCollectingSafe new
round_gathered_collecting {S} {V} old new by was = in_case by.gathers
  where
    of : IsCollectionSafe old.council (era_at old 0) old.last_proposer by.at.collection
    of = was.each by.at.collection by.at.is_collection

    told : (answer : OpAnswer) → new ≡ told_view old answer → IsCollectingSafe new
    told answer is = same_collecting (told_view old answer) new (ap frame_of is) (told_collecting old answer was)

    in_case : collect.GathersRound old by.at new → IsCollectingSafe new
    in_case (collect.all ballot by_whom is all view) = subst IsCollectingBy (sym (ap frame_of view))
        (quiet_collecting old.council (era_at old 0) old.last_proposer by.at None by.at.collection.ages by.at.collection.reserved was (ap asks_at by.is_due) (λ in_call. cc (in_call, by.over))
        (of.ages ∙ ap (renewals_before old.last_proposer) by.is_due ∙ sym (ap (λ (s : CollectStep). renewals_before old.last_proposer (step_after old.last_proposer s)) by.is_due)) (λ before. omega arith) of.few
        (record { ballot = ballot; by = by_whom; is = is; all = all }))
    in_case (collect.is_absent ballot by_whom acceptor is least view) = told _ view
    in_case (collect.is_held version is view) = told _ view

pub renew_collecting : {S V : Type 0} (m : Meaning S V) (old new : View S V) (id : ℕ) → StepRenew m old id new → IsCollectingSafe old → IsCollectingSafe new
renew_collecting {S} {V} m old new id by was = in_case by.renews
  where
    of : IsCollectionSafe old.council (era_at old 0) old.last_proposer by.at.collection
    of = was.each by.at.collection by.at.is_collection

    told : (answer : OpAnswer) → frame_of new ≡ frame_of (told_view old answer) → IsCollectingSafe new
    told answer is = same_collecting (told_view old answer) new is (told_collecting old answer was)

    apart : Renew id ≡ Round → ⊥
    apart is = cc is

    known : id ≤ old.last_proposer
    known = subst (IsStepOf old.last_proposer) by.is_due of.is_step

    renewed : (age : ℕ) → length (by.at.collection.ages ++ age ∷ []) ≡ renewals_before old.last_proposer (step_after old.last_proposer by.at.collection.course.step)
    renewed age = omega (arith, length-append by.at.collection.ages (age ∷ []), of.ages, ap (renewals_before old.last_proposer) by.is_due)
        ∙ sym (ap (λ (s : CollectStep). renewals_before old.last_proposer (step_after old.last_proposer s)) by.is_due ∙ renewed_after old.last_proposer id known)

    AfterIn : ℕ → Frame → Type 0
    AfterIn age f = IsCollectingIn (record f.council { order = Some (record by.at.order { told = None }); collection = Some (record (confirmed_step by.at.collection) { ages = by.at.collection.ages ++ age ∷ [] }) }) f.era f.last_proposer

    in_case : collect.RenewsNext m old by.at id by.desk new → IsCollectingSafe new
    in_case (collect.renews age middle leaves view) = subst IsCollectingBy (sym (ap frame_of view)) (subst (AfterIn age) (sym (left_frame _ _ old middle id leaves))
        (quiet_collecting old.council (era_at old 0) old.last_proposer by.at None (by.at.collection.ages ++ age ∷ []) by.at.collection.reserved was (ap asks_at by.is_due)
        (not_in_round old.council (era_at old 0) old.last_proposer by.at.collection (Renew id) of by.is_due apart) (renewed age) (λ before. omega arith) of.few (of.acknowledged (λ is. apart (sym by.is_due ∙ is)))))
    in_case (collect.is_down down view) = told _ (ap frame_of view)
    in_case (collect.fails middle down view) = same_collecting (told_view middle _) new (ap frame_of view) (told_collecting middle _ (down_collecting _ old middle id down was))
    in_case (collect.is_spent up spent view) = told _ (ap frame_of view)
    in_case (collect.no_memory now up finds view) = told _ (ap frame_of view)

-- ---- its exchanges
pub ask_collect_collecting : {S V : Type 0} (m : Meaning S V) (old new : View S V) → StepAskCollect m old new → IsCollectingSafe old → IsCollectingSafe new
ask_collect_collecting {S} {V} m old new by was = in_case by.asks
  where
    at : CollectingAt old.council
    at = by.may.at

    of : IsCollectionSafe old.council (era_at old 0) old.last_proposer at.collection
    of = was.each at.collection at.is_collection

    told : (answer : OpAnswer) → new ≡ told_view old answer → IsCollectingSafe new
    told answer is = same_collecting (told_view old answer) new (ap frame_of is) (told_collecting old answer was)

    asked_for : (question : Question) → IsQuestionOf at.collection question → IsCollectingIn (record old.council { exchange = Some (new_exchange question (tomb_of at.collection.tombstone) (everyone old) (length old.marks) None) }) (era_at old 0) old.last_proposer
    asked_for question asks =
        let exchange : ExchangeView = new_exchange question (tomb_of at.collection.tombstone) (everyone old) (length old.marks) None in
        one_collecting (record old.council { exchange = Some exchange }) (era_at old 0) old.last_proposer at.collection at.is_collection (record {
          order = of.order;
          is_open = of.is_open;
          is_for = of.is_for;
          none_planned = of.none_planned;
          same_era = of.same_era;
          proposers = of.proposers;
          is_step = of.is_step;
          calling = of.calling;
          ages = of.ages;
          tomb = of.tomb;
          acknowledged = of.acknowledged;
          reserved = of.reserved;
          few = of.few;
        }) (λ other is kind. let same = some_is is in (subst (λ (e : ExchangeView). IsQuestionOf at.collection e.question) same asks, ap (λ (e : ExchangeView). e.tag) (sym same), ap (λ (e : ExchangeView). e.members) (sym same)))

    in_case : collect.AsksCollect m old at by.desk new → IsCollectingSafe new
    in_case (collect.asks question flow up asks room aged sends view) = subst IsCollectingBy (sym (ap frame_of view)) (asked_for question asks)
    in_case (collect.is_down down view) = told _ view
    in_case (collect.is_full question up asks full view) = told _ view
    in_case (collect.no_memory up view) = told _ view

pub gather_collect_collecting : {S V : Type 0} (old new : View S V) → StepGatherCollect old new → IsCollectingSafe old → IsCollectingSafe new
gather_collect_collecting {S} {V} old new by was = in_case by.gathers
  where
    of : IsCollectionSafe old.council (era_at old 0) old.last_proposer by.at.collection
    of = was.each by.at.collection by.at.is_collection

    asks : asks_at by.at.collection.course.step ≡ true
    asks = asked_at by.at.collection by.of_exchange.exchange.question by.asks

    past : by.at.collection.course.step ≡ Round → ⊥
    past is = cc (asks, ap asks_at is)

    over : (answer : OpAnswer) → new ≡ gathered old answer → IsCollectingSafe new
    over answer is = same_collecting (gathered old answer) new (ap frame_of is) (gathered_collecting old answer was)

    confirmed_in : (removed kept : ℕ) → IsCollectingIn (record old.council { order = Some (record by.at.order { told = None }); exchange = None; collection = Some (confirmed by.at.collection by.at.collection.ages removed kept by.at.collection.reserved) }) (era_at old 0) old.last_proposer
    confirmed_in removed kept =
        let next : Council = record old.council { order = Some (record by.at.order { told = None }); exchange = None; collection = Some (confirmed by.at.collection by.at.collection.ages removed kept by.at.collection.reserved) } in
        one_collecting next (era_at old 0) old.last_proposer (confirmed by.at.collection by.at.collection.ages removed kept by.at.collection.reserved) refl
        (confirmed_safe old.council next (era_at old 0) old.last_proposer by.at.collection (record by.at.order { told = None }) by.at.collection.ages removed kept by.at.collection.reserved of refl by.at.is_for of.none_planned
        (λ in_call. past (of.calling in_call)) (of.ages ∙ sym (renewed_still old.last_proposer by.at.collection.course.step asks)) (λ before. omega arith) of.few (of.acknowledged past))
        (λ exchange none kind. absurd (cc none))

    in_case : collect.GathersCollect old by.at by.of_exchange.exchange new → IsCollectingSafe new
    in_case (collect.crashed crashed view) = over _ view
    in_case (collect.all up all view) = subst IsCollectingBy (sym (ap frame_of view)) (confirmed_in _ _)
    in_case (collect.is_absent acceptor up least view) = over _ view

pub floor_collecting : {S V : Type 0} (old new : View S V) → StepMakeFloor old new → IsCollectingSafe old → IsCollectingSafe new
floor_collecting {S} {V} old new by was =
    let of = was.each by.at.collection by.at.is_collection in
    subst IsCollectingBy (sym (ap frame_of by.view)) (quiet_collecting old.council (era_at old 0) old.last_proposer by.at None by.at.collection.ages 0 was (ap asks_at by.is_due)
    (not_in_round old.council (era_at old 0) old.last_proposer by.at.collection FloorStep of by.is_due (λ is. cc is))
    (of.ages ∙ ap (renewals_before old.last_proposer) by.is_due ∙ sym (ap (λ (s : CollectStep). renewals_before old.last_proposer (step_after old.last_proposer s)) by.is_due))
    (λ before. absurd (cc (before, ap (λ (s : CollectStep). is_after_floor (step_after old.last_proposer s)) by.is_due))) (omega arith) (of.acknowledged (λ is. cc (is, by.is_due))))
