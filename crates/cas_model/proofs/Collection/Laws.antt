-- The laws of collections: what is under way below a floor is too old, what was removed is gone, and what is told as collected has a floor.
use Rattle.std.proofs.Common.{◌≡◌, ℕ, true, List, Option, None, Some, length, reverse, refl, sym, ap, subst, ◌∙◌, inl, inr, arith}
use Rattle.std.specs.Prelude.{◌<◌, ◌⊎◌}
use Rattle.cas_ballot.specs.declared.ballot.Ballot.{Ballot}
use Rattle.cas_ballot.specs.Ballot.{zero_ballot, greater_of, BallotLess}
use Rattle.cas_ballot.specs.Members.{has_member}
use Rattle.cas_ballot.proofs.MemberLemmas.{members_where_tells}
use Rattle.cas_base.proofs.Bools.{or_cases}
use Rattle.std.specs.Prelude.{◌||◌}
use Rattle.cas_ballot.proofs.BallotLemmas.{less_at_most, none_below_zero, at_most_greater_left, at_most_greater_right}
use Rattle.cas_change.specs.declared.state.State.TheVariants.{Empty}
use Rattle.cas_collect.specs.Order.{step_after}
use Rattle.cas_collect.specs.declared.collect.CollectStep.{CollectStep}
use Rattle.cas_collect.specs.declared.collect.CollectStep.TheVariants.{Remove, End}
use Rattle.cas_flow.specs.declared.message.Message.TheVariants as message
use Rattle.cas_record.specs.Logs.Happening.{Happening, Asked, Drew, Took, marks_of}
use Rattle.cas_record.specs.Logs.Lawful.{SlotTold, slot_told}
use Rattle.cas_record.specs.Legal.{HasFloor}
use Rattle.cas_record.specs.Logs.Orderly.{Orderly, IsAgedOut, MayDraw, MayReply}
use Rattle.cas_record.specs.Places.{Stands}
use Rattle.cas_record.specs.declared.mark.Mark.TheVariants.{Floor}
use Rattle.cas_record.specs.declared.operator.OpAnswer.{OpAnswer}
use Rattle.cas_record.proofs.Logs.Orders.{drawn_once, reason}
use Rattle.cas_record.proofs.PlaceLemmas.{stands_deeper}
use Rattle.cas_record.proofs.Logs.Removals.{IsGoneOrAbove, is_gone, promised_above, accepted_above, IsRemovalTold, gone_after}
use Rattle.cas_slot.specs.Ages.{least_age}
use Rattle.cas_slot.specs.Contents.{Contents, kept_at}
use Rattle.cas_slot.specs.Message.{tag_of, phase_of}
use Rattle.cas_slot.specs.Slot.{accepted_ballot, seen_of}
use Rattle.cas_slot.specs.Table.{seen_at}
use Rattle.cas_slot.specs.declared.message.Ask.{Ask}
use Rattle.cas_slot.specs.declared.message.Ask.TheVariants as ask
use Rattle.cas_slot.specs.declared.message.Phase.TheVariants as phase
use Rattle.cas_slot.specs.declared.message.Tell.{Tell}
use Rattle.cas_slot.specs.declared.message.Tell.TheVariants as tell
use Rattle.cas_slot.specs.declared.slot.Slot.{Slot}
use Rattle.cas_quorum.specs.declared.era.Era.{Era}
use Rattle.cas_protocol.specs.Acceptors.{IsAskState, IsEmptyAt, told_of}
use Rattle.cas_model.specs.Collection.Laws.{MessageIsUnderWay, waits, is_late, RequestsAreAged, IsRemovalDone, RemovalsAreDone, HasItsFloor, CollectedHaveFloors}
use Rattle.cas_model.specs.Collection.Logged.{IsCollectionTrue, IsSoughtTrue, IsTombstoneTrue, is_after_floor, is_round}
use Rattle.cas_model.specs.Collection.State.{CollectionView, confirmed_step, tomb_of}
use Rattle.cas_model.specs.Council.{ExchangeView, Question, Removal}
use Rattle.cas_model.specs.Eras.Listings.{told_by}
use Rattle.cas_model.specs.Parties.{IsExchangeTrue, WasToldBy}
use Rattle.cas_protocol.specs.Protocol.{IsFloorClear}
use Rattle.cas_model.specs.Collection.Step as collect
use Rattle.cas_model.specs.Exchanges.Step.{everyone}
use Rattle.cas_model.specs.View.{Meaning, View, era_at}
use Rattle.cas_model.proofs.Collection.Steps.{known_of}
use Rattle.cas_model.proofs.Eras.Listings.{answer_of}
use Rattle.cas_model.proofs.Places.{some_is}
use Rattle.cas_model.proofs.ViewLaws.{reached, member_of, kept_by_member}

-- ---- what is under way
pub requests_aged : {S V : Type 0} (m : Meaning S V) → RequestsAreAged m
requests_aged {S} {V} m shelves disks view key floor id acceptor request left safe is has member under to round same low may =
    subst (λ (c : Contents). request.age < least_age c.ages request.from) (sym (kept_by_member m view is id acceptor member.at member.up left may))
    (omega (arith, aged.aged request stands to round same low, (is.followed.logged.history.tells id).ages request.from (is.followed.logged.history.knows.known request stands).0))
  where
    log : List Happening
    log = is.followed.logged.global.log

    known_of : IsFloorClear is.followed.cluster log key floor
    known_of = is.followed.logged.history.knows.clear key floor (subst (HasFloor key floor) (sym is.followed.logged.agrees.marks) has)

    aged : IsAgedOut log id key floor
    aged = known_of.aged (era_at view member.proposer).number id (reached m view safe is key floor known_of member.proposer member.known) (member_of m view is member.proposer id member.known member.member)

    stands : Stands (Asked request) log
    stands = by_place under
      where
        by_place : MessageIsUnderWay view (message.Request request) → Stands (Asked request) log
        by_place (waits place h) = is.followed.logged.agrees.own place (message.Request request) h
        by_place (is_late h) = is.followed.logged.agrees.late (message.Request request) h

-- ---- removals
-- who confirms a removal removed its slot or kept it
confirms_removal : (key : List ℕ) (said : Option Tell) → collect.confirms (Removal key) said ≡ true → (said ≡ Some tell.Removed) ⊎ (said ≡ Some tell.Kept)
confirms_removal key (Some tell.Removed) e = inl refl
confirms_removal key (Some tell.Kept) e = inr refl
confirms_removal key said e = absurd (cc e)

-- a request of that phase is to remove a slot
record AsksToRemove (question : Ask) : Type 0 where
  key : List ℕ
  tomb : Ballot
  is : question ≡ ask.Remove key tomb

asks_to_remove : (question : Ask) → phase_of question ≡ phase.Remove → AsksToRemove question
asks_to_remove (ask.Remove key tomb) e = record { key = key; tomb = tomb; is = refl }
asks_to_remove question e = absurd (cc e)

-- what is gone or above was not seen, or was seen above
seen_gone : (tomb : Ballot) (slot : Option Slot) → IsGoneOrAbove tomb (told_of slot) → (seen_of slot ≡ zero_ballot) ⊎ BallotLess tomb (seen_of slot)
seen_gone tomb None of = inl refl
seen_gone tomb (Some slot) (is_gone gone) = inl (ap (λ (s : SlotTold). greater_of s.promise s.accepted) gone)
seen_gone tomb (Some slot) (promised_above above) = inr (less_at_most above (at_most_greater_left slot.promise (accepted_ballot slot.accepted)))
seen_gone tomb (Some slot) (accepted_above above) = inr (less_at_most above (at_most_greater_right slot.promise (accepted_ballot slot.accepted)))

pub removals_done : {S V : Type 0} (m : Meaning S V) → RemovalsAreDone m
removals_done {S} {V} m shelves disks old new exchange collection is by is_open is_collection at_end = by_case by.gathers
  where
    c : CollectionView
    c = by.at.collection

    log : List Happening
    log = is.followed.logged.global.log

    tomb : Ballot
    tomb = tomb_of c.tombstone

    same_exchange : by.of_exchange.exchange ≡ exchange
    same_exchange = some_is (sym by.of_exchange.is_open ∙ is_open)

    known : IsCollectionTrue is.followed.cluster log c
    known = known_of m old is.followed c by.at.is_collection

    sought : IsTombstoneTrue log c.course.key c.course.era.number tomb by.is_renewed.by
    sought = subst (λ (b : Ballot). IsTombstoneTrue log c.course.key c.course.era.number b by.is_renewed.by) (sym (ap tomb_of by.is_renewed.acknowledged))
        (subst (IsSoughtTrue log c.course.key c.course.era.number) by.is_renewed.acknowledged known.tombstone)

    some : tomb ≡ zero_ballot → ⊥
    some zero =
        let may : MayDraw is.followed.cluster sought.drawn.older tomb c.course.key c.course.era.number = reason is.followed.cluster is.followed.logged.history.orderly sought.drawn.at in
        none_below_zero (subst (BallotLess zero_ballot) zero may.some)

    -- a member is one of the collection's era
    of_era : (id : ℕ) → has_member (everyone old) id ≡ true → has_member (is.followed.cluster.members c.course.era.number) id ≡ true
    of_era id member = subst (λ (e : Era). has_member (is.followed.cluster.members e.number) id ≡ true) (sym by.is_renewed.same_era)
        (member_of m old is 0 id (omega arith) (or_cases (has_member (era_at old 0).prep id) (has_member (era_at old 0).acc id)
        (members_where_tells (λ n. has_member (era_at old 0).prep n || has_member (era_at old 0).acc n) id member)))

    -- what it told to the removal was told to its request
    gone_by : c.course.step ≡ Remove → (id : ℕ) (said : Tell) → has_member (everyone old) id ≡ true → IsRemovalTold said → WasToldBy log tomb (Removal c.course.key) id said → IsGoneOrAbove tomb (slot_told log id c.course.key)
    gone_by due id said member told was =
        gone_after is.followed.cluster is.followed.logged.history.lawful orderly some took.1 was.made.replied asked (sym may.from ∙ was.same_from) (subst IsRemovalTold (sym was.same_tell) told)
      where
        orderly : Orderly is.followed.cluster log
        orderly = is.followed.logged.history.orderly

        may : MayReply was.made.replied.older was.made.request was.reply
        may = reason is.followed.cluster orderly was.made.replied.at

        removal : AsksToRemove was.made.request.ask
        removal = asks_to_remove was.made.request.ask (sym may.phase ∙ was.to_it.phase)

        is_tomb : removal.tomb ≡ tomb
        is_tomb = ap tag_of (sym removal.is) ∙ sym may.tag ∙ was.to_it.tag

        empty : IsEmptyAt (marks_of log) removal.key removal.tomb
        empty = subst (IsAskState (marks_of log)) removal.is (is.followed.logged.history.knows.asked was.made.request (stands_deeper may.asked was.made.replied.at))

        drawn : Stands (Drew tomb removal.key empty.1.proposal.era) log
        drawn = subst (λ (k : List ℕ). Stands (Drew tomb k empty.1.proposal.era) log) empty.1.same_key
            (subst (λ (b : Ballot). Stands (Drew b empty.1.proposal.key empty.1.proposal.era) log) (empty.1.same_ballot ∙ is_tomb) (is.followed.logged.history.knows.drawn empty.1.proposal empty.1.stands))

        same_key : removal.key ≡ c.course.key
        same_key = (drawn_once is.followed.cluster orderly drawn sought.drawn).0

        asked : was.made.request.ask ≡ ask.Remove c.course.key tomb
        asked = removal.is ∙ ap (λ (k : List ℕ). ask.Remove k removal.tomb) same_key ∙ ap (λ (b : Ballot). ask.Remove c.course.key b) is_tomb

        took : (ride : Ballot) × Stands (Took id c.course.key tomb ride) log
        took = known.taken (ap is_round due) id (of_era id member)

    all_done : c.course.step ≡ Remove → exchange.question ≡ Removal c.course.key → ((id : ℕ) → has_member exchange.members id ≡ true → has_member (collect.confirmers_in exchange.question exchange.told) id ≡ true)
        → collection ≡ record (confirmed_step c) { removed = length (collect.those_telling collect.is_removed exchange.told); kept = length (collect.those_telling collect.is_kept exchange.told) } → IsRemovalDone m old exchange collection
    all_done due asks all now = record {
      told = says;
      removed = ap (λ (x : CollectionView). x.removed) now;
      kept = ap (λ (x : CollectionView). x.kept) now;
      gone = λ id acceptor left member at up may.
          subst (λ (x : CollectionView). (seen_at left x.course.key ≡ zero_ballot) ⊎ BallotLess (tomb_of x.tombstone) (seen_at left x.course.key)) (sym now)
          (subst (λ (k : Contents). (seen_at k c.course.key ≡ zero_ballot) ⊎ BallotLess tomb (seen_at k c.course.key)) (sym (kept_by_member m old is id acceptor at up left may))
          (seen_gone tomb (kept_at (is.followed.logged.global.kept id) c.course.key)
          (subst (IsGoneOrAbove tomb) ((is.followed.logged.history.tells id).slots c.course.key) (gone_of id member (says id member)))));
    }
      where
        says : (id : ℕ) → has_member (everyone old) id ≡ true → (told_by exchange.told id ≡ Some tell.Removed) ⊎ (told_by exchange.told id ≡ Some tell.Kept)
        says id member =
            let asked : has_member exchange.members id ≡ true = subst (λ (l : List ℕ). has_member l id ≡ true) (sym by.members ∙ ap (λ (x : ExchangeView). x.members) same_exchange) member in
            confirms_removal c.course.key (told_by exchange.told id) (subst (λ (q : Question). collect.confirms q (told_by exchange.told id) ≡ true) asks
            (members_where_tells (λ a. collect.confirms exchange.question (told_by exchange.told a)) id (all id asked)))

        was_told : (id : ℕ) (said : Tell) → told_by exchange.told id ≡ Some said → WasToldBy log tomb (Removal c.course.key) id said
        was_told id said e =
            let is_told : IsExchangeTrue is.followed.cluster log exchange = is.followed.logged.agrees.council.0 exchange is_open in
            let found = answer_of exchange.told id said e in
            subst (λ (b : Ballot). WasToldBy log b (Removal c.course.key) id said) (ap (λ (x : ExchangeView). x.tag) (sym same_exchange) ∙ by.tag)
            (subst (λ (q : Question). WasToldBy log exchange.tag q id said) asks
            (subst (λ (a : ℕ). WasToldBy log exchange.tag exchange.question a said) found.same (is_told.told found.place found.answer said found.at found.is_told)))

        gone_of : (id : ℕ) → has_member (everyone old) id ≡ true → (told_by exchange.told id ≡ Some tell.Removed) ⊎ (told_by exchange.told id ≡ Some tell.Kept) → IsGoneOrAbove tomb (slot_told log id c.course.key)
        gone_of id member (inl removed) = gone_by due id tell.Removed member (inl refl) (was_told id tell.Removed removed)
        gone_of id member (inr kept) = gone_by due id tell.Kept member (inr refl) (was_told id tell.Kept kept)

    -- the question was that of the step that was due, which is not the end
    not_yet : (step : CollectStep) → collect.IsQuestionOf c by.of_exchange.exchange.question → c.course.step ≡ step → step ≡ End → ⊥
    not_yet step (collect.tells_ages due asks) same end = cc (sym due ∙ same ∙ end)
    not_yet step (collect.removes due asks) same end = cc (sym due ∙ same ∙ end)

    stayed : new.council.collection ≡ old.council.collection → IsRemovalDone m old exchange collection
    stayed same =
        let is_c : c ≡ collection = some_is (sym by.at.is_collection ∙ sym same ∙ is_collection) in
        absurd (not_yet collection.course.step by.asks (ap (λ (x : CollectionView). x.course.step) is_c) at_end)

    by_question : collect.IsQuestionOf c by.of_exchange.exchange.question → ((id : ℕ) → has_member by.of_exchange.exchange.members id ≡ true → has_member (collect.confirmers_in by.of_exchange.exchange.question by.of_exchange.exchange.told) id ≡ true)
        → collection ≡ record (confirmed_step c) { removed = length (collect.those_telling collect.is_removed by.of_exchange.exchange.told); kept = length (collect.those_telling collect.is_kept by.of_exchange.exchange.told) } → IsRemovalDone m old exchange collection
    by_question (collect.tells_ages due asks) all now =
        absurd (cc (sym (ap (step_after c.course.proposers) due), sym (ap (λ (x : CollectionView). x.course.step) now), at_end))
    by_question (collect.removes due asks) all now =
        all_done due (ap (λ (x : ExchangeView). x.question) (sym same_exchange) ∙ asks)
        (subst (λ (x : ExchangeView). (id : ℕ) → has_member x.members id ≡ true → has_member (collect.confirmers_in x.question x.told) id ≡ true) same_exchange all)
        (subst (λ (x : ExchangeView). collection ≡ record (confirmed_step c) { removed = length (collect.those_telling collect.is_removed x.told); kept = length (collect.those_telling collect.is_kept x.told) }) same_exchange now)

    by_case : collect.GathersCollect old by.at by.of_exchange.exchange new → IsRemovalDone m old exchange collection
    by_case (collect.crashed crashed view) = stayed (ap (λ (w : View S V). w.council.collection) view)
    by_case (collect.is_absent acceptor up least view) = stayed (ap (λ (w : View S V). w.council.collection) view)
    by_case (collect.all up all view) = by_question by.asks all (some_is (sym is_collection ∙ ap (λ (w : View S V). w.council.collection) view))

-- ---- what the operator is told
pub collected_floors : {S V : Type 0} (m : Meaning S V) → CollectedHaveFloors m
collected_floors {S} {V} m view order answer is by = subst (λ (a : OpAnswer). HasItsFloor a (reverse view.marks)) (sym by.tells)
    (subst (Stands (Floor by.collection.course.key (tomb_of by.collection.tombstone) Empty)) is.followed.logged.agrees.marks ((known_of m view is.followed by.collection by.is_collection).floor (ap is_after_floor by.at_end)))
