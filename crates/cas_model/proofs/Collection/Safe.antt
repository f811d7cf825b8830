-- A cluster stays safe as a deleted key is collected.
use Rattle.std.proofs.Common.{◌≡◌, ◌≤◌, ℕ, List, [], ◌∷◌, ◌++◌, Option, None, Some, refl, sym, ap, subst, ◌∙◌, inr, arith, length-append}
use Rattle.std.specs.Prelude.{◌+◌, length}
use Rattle.cas_cache.specs.declared.ready.Ready.{Ready}
use Rattle.cas_change.specs.declared.state.State.TheVariants.{Empty}
use Rattle.cas_flow.specs.Flow.{FlowView}
use Rattle.cas_proposer.specs.Desk.{DeskView, cache_without}
use Rattle.cas_proposer.specs.declared.round.Round.{Round}
use Rattle.cas_record.specs.declared.answer.Answer.{Answer}
use Rattle.cas_record.specs.declared.answer.Answer.TheVariants as answer
use Rattle.cas_record.specs.declared.answer.Cause.TheVariants as cause
use Rattle.cas_record.specs.declared.mark.Mark.TheVariants.{Floor}
use Rattle.cas_record.specs.declared.operator.OpAnswer.{OpAnswer}
use Rattle.cas_vault.specs.Vault.{kept_of}
use Rattle.cas_model.specs.Collection.Logged.{is_after_floor}
use Rattle.cas_model.specs.Collection.State.{CollectionView, tomb_of, confirmed_step, called, new_collection, reserved_for_collection}
use Rattle.cas_model.specs.Council.{Question, NextKeys, MemberPlace, ExchangeView, OrderView, PlanView, Council, exchange_place, reserved_for_order, reserved_for_exchange}
use Rattle.cas_model.specs.Safe.{IsAcknowledgedByAll, IsCollectionSafe, IsAskingOf, IsCollectingSafe, IsSound}
use Rattle.cas_model.specs.Step.{StepBegin, StepCount, StepEnd}
use Rattle.cas_model.specs.Calls.Step.{most_marks, Sends}
use Rattle.cas_model.specs.Collection.Step as collect
use Rattle.cas_model.specs.Collection.Step.{keep_always, CollectingAt, collecting, stopped_by, IsQuestionOf, StepBeginCollect, StepReadHeld, StepCountCollect, StepEndCollect, StepGatherRound, StepRenew, StepAskCollect, StepGatherCollect, StepMakeFloor}
use Rattle.cas_model.specs.Exchanges.Step.{asked_by, with_council, everyone, questions_to, new_exchange, HasRoomToAsk}
use Rattle.cas_model.specs.Calls.Desks.{Renews, FailsToRenew}
use Rattle.cas_model.specs.View.{Meaning, View, CallerView, reserved_of, era_at, with_caller, with_desk}
use Rattle.cas_model.proofs.Places.{some_is}
use Rattle.cas_model.proofs.Eras.Rescanning.{rescan_reserves}
use Rattle.cas_model.proofs.Collection.SafeCollecting.{Frame, begin_frame, count_frame, left_frame}
use Rattle.cas_model.proofs.Collection.SafeCollections.{is_counted, counted_more, still_collecting}
use Rattle.cas_model.proofs.Exchanges.Safe.{told_view_safe, gathered_safe, none_waiting, sent_safe, everyone_set}
use Rattle.cas_model.proofs.Eras.SafeListings.{none_asks}
use Rattle.cas_model.proofs.Safety.Parts.{council_safe, more_by}
use Rattle.cas_model.proofs.Eras.Safe.{revault_safe}
use Rattle.cas_model.proofs.Calls.SafeRounds.{begin_safe, counts_safe}
use Rattle.cas_model.proofs.Stops.Safe.{AreFit, fit_fewer, call_idles, ends_call_safe, refuses_call_safe, left_safe, down_safe}

-- ---- a collection goes on
-- within what is reserved
with_room : {S V : Type 0} (view : View S V) (order : OrderView) (told : Option OpAnswer) (collection : CollectionView) → IsSound view
    → length view.marks + reserved_of view.callers + 1 + reserved_for_exchange view.council.exchange + collection.reserved ≤ most_marks → IsSound (collecting view order told collection)
with_room view order told collection was room =
    council_safe view view.flow (record view.council { order = Some (record order { told = told }); collection = Some collection }) view.marks was refl (λ p other. refl) (omega arith) was.asking was.council (omega (arith, room))

-- and with no more reserved than before
collecting_safe : {S V : Type 0} (view : View S V) (order : OrderView) (told : Option OpAnswer) (collection : CollectionView) → IsSound view → reserved_for_order view.council.order ≡ 1
    → collection.reserved ≤ reserved_for_collection view.council.collection → IsSound (collecting view order told collection)
collecting_safe view order told collection was is_open few = with_room view order told collection was (omega (arith, was.room, is_open, few))

-- of the one that goes on as much is reserved as before
as_before : (council : Council) (collection : CollectionView) → council.collection ≡ Some collection → collection.reserved ≤ reserved_for_collection council.collection
as_before council collection is = omega (arith, ap reserved_for_collection is)

-- ---- its call
pub begin_collect_safe : {S V : Type 0} (m : Meaning S V) (old new : View S V) (key : List ℕ) → IsSound old → StepBeginCollect m (λ before after. StepBegin m before 0 key keep_always after) old key new → IsSound new
begin_collect_safe {S} {V} m old new key was by = in_case by.begins
  where
    still : (middle : View S V) → StepBegin m old 0 key keep_always middle → reserved_for_order middle.council.order ≡ 1
    still middle begins = ap (λ (f : Frame). reserved_for_order f.council.order) (begin_frame m old middle 0 key keep_always begins) ∙ ap reserved_for_order by.may.is_open

    in_case : collect.BeginsCollection m (λ before after. StepBegin m before 0 key keep_always after) old key by.may.order by.desk by.caller new → IsSound new
    in_case (collect.is_down none down view) = subst IsSound (sym view) (told_view_safe old _ was)
    in_case (collect.is_busy plan none up busy view) = subst IsSound (sym view) (told_view_safe old _ was)
    in_case (collect.is_full none up unplanned full view) = subst IsSound (sym view) (told_view_safe old _ was)
    in_case (collect.no_memory middle none up unplanned refuses view) = subst IsSound (sym view) (told_view_safe middle _ (refuses_call_safe m old 0 key middle was refuses))
    in_case (collect.begins middle none unplanned begins view) = subst IsSound (sym view)
        (collecting_safe middle by.may.order None (new_collection key (era_at old 0) old.last_proposer) (begin_safe m old 0 key keep_always middle was begins) (still middle begins) (omega arith))
    in_case (collect.goes_on middle call is open_ begins view) = subst IsSound (sym view)
        (collecting_safe middle by.may.order None is.at.collection (begin_safe m old 0 key keep_always middle was begins) (still middle begins)
        (as_before middle.council is.at.collection (ap (λ (f : Frame). f.council.collection) (begin_frame m old middle 0 key keep_always begins) ∙ is.at.is_collection)))

pub read_held_safe : {S V : Type 0} (m : Meaning S V) (old new : View S V) → IsSound old → StepReadHeld m old new → IsSound new
read_held_safe {S} {V} m old new was by =
    subst IsSound (sym by.view) (collecting_safe _ by.is.at.order None _ closed (ap reserved_for_order by.is.at.is_open) (as_before old.council by.is.at.collection by.is.at.is_collection))
  where
    over : CallerView
    over = record by.of_call.caller { call = None }

    closed : IsSound (with_caller (with_desk old 0 by.now) 0 over)
    closed = call_idles old 0 by.of_call.caller over by.desk by.now old.flow old.marks was by.of_call.at_caller by.at_desk (ap (λ (d : DeskView V). d.id) by.ends.desk) (ap (λ (d : DeskView V). d.round) by.ends.desk)
        (fit_fewer by.round.key by.desk.cache by.now.cache (inr (ap (λ (d : DeskView V). d.cache) by.ends.desk))) refl (λ call is. absurd (cc is)) by.none_waits refl (λ p other. refl) (omega arith) (omega arith)

pub count_collect_safe : {S V : Type 0} (m : Meaning S V) (old new : View S V) → IsSound old → StepCountCollect (λ before after. StepCount m before 0 after) old new → IsSound new
count_collect_safe {S} {V} m old new was by = in_case by.counted
  where
    at : CollectingAt old.council
    at = by.is.at

    middle_safe : IsSound by.middle
    middle_safe = counts_safe m old 0 by.middle was by.counts

    same_order : reserved_for_order by.middle.council.order ≡ 1
    same_order = ap (λ (f : Frame). reserved_for_order f.council.order) (count_frame m old by.middle 0 by.counts) ∙ ap reserved_for_order at.is_open

    in_case : collect.CountedAs old by.middle by.of_call.call at.collection by.now → IsSound new
    in_case (collect.acknowledges took acknowledgment done acked same_key same_era now) =
        subst IsSound (sym (by.view ∙ ap (λ (c : CollectionView). collecting by.middle at.order None c) now)) (with_room by.middle at.order None _ middle_safe (omega (
          arith,
          was.room,
          (is_counted m old by.middle was by.counts (counted_more old by.middle _ acked)).room,
          ap (λ (f : Frame). reserved_for_exchange f.council.exchange) (count_frame m old by.middle 0 by.counts),
          ap reserved_for_order at.is_open,
        )))
    in_case (collect.finds_held version body took ballot done now) =
        subst IsSound (sym (by.view ∙ ap (λ (c : CollectionView). collecting by.middle at.order None c) now)) (collecting_safe by.middle at.order None _ middle_safe same_order
        (as_before by.middle.council at.collection (ap (λ (f : Frame). f.council.collection) (count_frame m old by.middle 0 by.counts) ∙ at.is_collection)))

pub end_collect_safe : {S V : Type 0} (m : Meaning S V) (old new : View S V) (told : Answer) → IsSound old → StepEndCollect (λ before after. StepEnd m before 0 told after) old told new → IsSound new
end_collect_safe {S} {V} m old new told was by =
    let ends = by.ends.ends in
    subst IsSound (sym by.view) (collecting_safe by.middle by.is.at.order (stopped_by told) (called by.is.at.collection)
    (ends_call_safe m old 0 by.ends.of_call.caller by.ends.of_call.call told by.middle was by.ends.of_call.at_caller by.ends.of_call.is_open ends)
    (ap (λ (v : View S V). reserved_for_order v.council.order) ends.view ∙ rescan_reserves old.council 0 by.ends.of_call.call.key told ends.council ends.rescans ∙ ap reserved_for_order by.is.at.is_open)
    (as_before by.middle.council by.is.at.collection (still_collecting m old by.middle told by.ends ∙ by.is.at.is_collection)))

-- ---- its steps
pub gather_round_safe : {S V : Type 0} (old new : View S V) → IsSound old → StepGatherRound old new → IsSound new
gather_round_safe {S} {V} old new was by = in_case by.gathers
  where
    in_case : collect.GathersRound old by.at new → IsSound new
    in_case (collect.all ballot by_whom is all view) =
        subst IsSound (sym view) (collecting_safe old by.at.order None (confirmed_step by.at.collection) was (ap reserved_for_order by.at.is_open) (as_before old.council by.at.collection by.at.is_collection))
    in_case (collect.is_absent ballot by_whom acceptor is least view) = subst IsSound (sym view) (told_view_safe old _ was)
    in_case (collect.is_held version is view) = subst IsSound (sym view) (told_view_safe old _ was)

-- what a cache holds without the key of an open round is some of what it held
fit_without : (round : Option Round) (cache : List (List ℕ × Ready)) → AreFit cache → AreFit (cache_without round cache)
fit_without None cache were = were
fit_without (Some round) cache were = fit_fewer round.key cache (cache_without (Some round) cache) (inr refl) were

pub renew_safe : {S V : Type 0} (m : Meaning S V) (old new : View S V) (id : ℕ) → IsSound old → StepRenew m old id new → IsSound new
renew_safe {S} {V} m old new id was by = in_case by.renews
  where
    key : List ℕ
    key = by.at.collection.course.key

    Turns : ℕ → DeskView V → DeskView V → Type 0
    Turns age = Renews m.disks key (tomb_of by.at.collection.tombstone) age

    turns : (age : ℕ) (desk now : DeskView V) → Turns age desk now → (now.id ≡ desk.id) × (now.round ≡ None) × (AreFit desk.cache → AreFit now.cache)
    turns age desk now renews = (
      ap (λ (d : DeskView V). d.id) renews.desk,
      ap (λ (d : DeskView V). d.round) renews.desk,
      λ were. fit_fewer key (cache_without desk.round desk.cache) now.cache (inr (ap (λ (d : DeskView V). d.cache) renews.desk)) (fit_without desk.round desk.cache were),
    )

    in_case : collect.RenewsNext m old by.at id by.desk new → IsSound new
    in_case (collect.renews age middle leaves view) =
        let same = left_frame _ _ old middle id leaves in
        subst IsSound (sym view) (collecting_safe middle by.at.order None _ (left_safe old id (Turns age) (answer.Aged age) (cause.Aged age) middle (turns age) was leaves)
        (ap (λ (f : Frame). reserved_for_order f.council.order) same ∙ ap reserved_for_order by.at.is_open)
        (as_before middle.council by.at.collection (ap (λ (f : Frame). f.council.collection) same ∙ by.at.is_collection)))
    in_case (collect.is_down down view) = subst IsSound (sym view) (told_view_safe old _ was)
    in_case (collect.fails middle down view) = subst IsSound (sym view) (told_view_safe middle _ (down_safe old id (FailsToRenew m.disks _) middle (λ desk now fails. fails.crashed) was down))
    in_case (collect.is_spent up spent view) = subst IsSound (sym view) (told_view_safe old _ was)
    in_case (collect.no_memory now up finds view) = subst IsSound (sym view) (told_view_safe (with_desk old id now) _ (revault_safe old id by.desk now was by.at_desk finds.desk))

-- ---- its exchanges
-- what it asks is no listing
asks_no_keys : (collection : CollectionView) (question : Question) (places : List MemberPlace) → IsQuestionOf collection question → question ≡ NextKeys places → ⊥
asks_no_keys collection question places (collect.tells_ages is asks) lists = cc (sym asks ∙ lists)
asks_no_keys collection question places (collect.removes is asks) lists = cc (sym asks ∙ lists)

none_of_listing : (plan : Option PlanView) (collection : CollectionView) (exchange : ExchangeView) → IsQuestionOf collection exchange.question → IsAskingOf plan (Some exchange)
none_of_listing plan collection exchange asks other places is lists = absurd (asks_no_keys collection exchange.question places asks (ap (λ (e : ExchangeView). e.question) (some_is is) ∙ lists))

everyone_asked : {S V : Type 0} (old : View S V) (collection : CollectionView) (question : Question) → IsQuestionOf collection question → asked_by old question ≡ everyone old
everyone_asked old collection question (collect.tells_ages is asks) = ap (asked_by old) asks
everyone_asked old collection question (collect.removes is asks) = ap (asked_by old) asks

pub ask_collect_safe : {S V : Type 0} (m : Meaning S V) (old new : View S V) → IsSound old → IsCollectingSafe old → StepAskCollect m old new → IsSound new
ask_collect_safe {S} {V} m old new was safe by = in_case by.asks
  where
    at : CollectingAt old.council
    at = by.may.at

    asked : (question : Question) (flow : FlowView) → IsQuestionOf at.collection question → HasRoomToAsk old question → Sends old.flow exchange_place (questions_to (kept_of by.desk.vault).age (tomb_of at.collection.tombstone) question (everyone old)) flow
        → IsSound (with_council (record old { flow = flow }) (record old.council { exchange = Some (new_exchange question (tomb_of at.collection.tombstone) (everyone old) (length old.marks) None) }))
    asked question flow asks room sends =
        let all = everyone_asked old at.collection question asks in
        let exchange : ExchangeView = new_exchange question (tomb_of at.collection.tombstone) (everyone old) (length old.marks) None in
        council_safe old flow (record old.council { exchange = Some exchange }) old.marks was sends.queues sends.others (omega arith)
        (sent_safe old.flow flow (kept_of by.desk.vault).age (tomb_of at.collection.tombstone) question (everyone old) (length old.marks) None (none_waiting old was by.may.none_asked) (safe.each at.collection at.is_collection).tomb
        (everyone_set old) (was.few_members 0) (λ era reads. absurd (cc reads)) sends)
        (was.council.0, none_of_listing old.council.plan at.collection exchange asks) (omega (arith, room, ap (λ (l : List ℕ). length l) all, ap reserved_for_exchange by.may.none_asked))

    in_case : collect.AsksCollect m old at by.desk new → IsSound new
    in_case (collect.asks question flow up asks room aged sends view) = subst IsSound (sym view) (asked question flow asks room sends)
    in_case (collect.is_down down view) = subst IsSound (sym view) (told_view_safe old _ was)
    in_case (collect.is_full question up asks full view) = subst IsSound (sym view) (told_view_safe old _ was)
    in_case (collect.no_memory up view) = subst IsSound (sym view) (told_view_safe old _ was)

pub gather_collect_safe : {S V : Type 0} (old new : View S V) → IsSound old → StepGatherCollect old new → IsSound new
gather_collect_safe {S} {V} old new was by = in_case by.gathers
  where
    confirmed : (removed kept : ℕ) → IsSound (with_council old (record (collecting old by.at.order None (record (confirmed_step by.at.collection) { removed = removed; kept = kept })).council { exchange = None }))
    confirmed removed kept =
        council_safe old old.flow (record (collecting old by.at.order None (record (confirmed_step by.at.collection) { removed = removed; kept = kept })).council { exchange = None }) old.marks was refl (λ p other. refl) (omega arith)
        by.none_waits (was.council.0, none_asks old.council.plan) (omega (arith, was.room, ap reserved_for_order by.at.is_open, ap reserved_for_collection by.at.is_collection))

    in_case : collect.GathersCollect old by.at by.of_exchange.exchange new → IsSound new
    in_case (collect.crashed crashed view) = subst IsSound (sym view) (gathered_safe old _ was by.none_waits)
    in_case (collect.all up all view) = subst IsSound (sym view) (confirmed _ _)
    in_case (collect.is_absent acceptor up least view) = subst IsSound (sym view) (gathered_safe old _ was by.none_waits)

-- ---- its floor
-- the mark of it was reserved
pub make_floor_safe : {S V : Type 0} (old new : View S V) → IsSound old → IsCollectingSafe old → StepMakeFloor old new → IsSound new
make_floor_safe {S} {V} old new was safe by =
    let at = by.at in
    let of : IsCollectionSafe old.council (era_at old 0) old.last_proposer at.collection = safe.each at.collection at.is_collection in
    let by_all : IsAcknowledgedByAll (era_at old 0) at.collection.tombstone = of.acknowledged (λ is. cc (is, by.is_due)) in
    let marks = old.marks ++ Floor at.collection.course.key (tomb_of at.collection.tombstone) Empty ∷ [] in
    subst IsSound (sym by.view) (council_safe old old.flow (record old.council { order = Some (record at.order { told = None }); collection = Some (record (confirmed_step at.collection) { reserved = 0 }) }) marks was refl (λ p other. refl)
    (more_by old.marks (Floor at.collection.course.key (tomb_of at.collection.tombstone) Empty ∷ [])) was.asking was.council
    (omega (
      arith,
      was.room,
      length-append old.marks (Floor at.collection.course.key (tomb_of at.collection.tombstone) Empty ∷ []),
      ap reserved_for_order at.is_open,
      ap reserved_for_collection at.is_collection,
      of.reserved by_all.ballot by_all.by by_all.is (ap is_after_floor by.is_due),
    )))
