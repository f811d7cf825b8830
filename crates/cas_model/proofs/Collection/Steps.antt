-- What belongs to a collection keeps a cluster remembered.
use Rattle.std.proofs.Common.{◌≡◌, ◌<◌, ◌≤◌, ℕ, suc, true, false, List, [], ◌∷◌, ◌++◌, length, Option, None, Some, reverse, refl, sym, ap, subst, ◌∙◌, inl, inr, arith}
use Rattle.std.specs.Prelude.{◌⊎◌, Bool, if◌then◌else◌, nat_lt, Contains, slice_set, zero, ◌+◌, ◌||◌, take, replicate, slice_index}
use Rattle.cas_ballot.specs.declared.ballot.Ballot.{Ballot}
use Rattle.cas_ballot.specs.Members.{has_member}
use Rattle.cas_change.specs.declared.outcome.Outcome.{Outcome}
use Rattle.cas_change.specs.declared.state.State.TheVariants.{Empty}
use Rattle.cas_collect.specs.declared.collect.CollectStep.{CollectStep}
use Rattle.cas_collect.specs.declared.collect.CollectStep.TheVariants.{Round, Renew, Ages, Floor as FloorStep, Remove, End}
use Rattle.cas_collect.specs.Order.{step_after, with_step}
use Rattle.cas_flow.specs.Flow.{queue_at, FlowView}
use Rattle.cas_flow.specs.declared.message.Message.{Message}
use Rattle.cas_proposer.specs.Desk.{DeskView, cache_without}
use Rattle.cas_quorum.specs.declared.era.Era.{Era}
use Rattle.cas_record.specs.declared.answer.Answer.{Answer}
use Rattle.cas_record.specs.declared.answer.Answer.TheVariants as answer
use Rattle.cas_record.specs.declared.mark.Acknowledgment.{Acknowledgment}
use Rattle.cas_record.specs.declared.mark.Mark.{Mark}
use Rattle.cas_record.specs.declared.mark.Mark.TheVariants.{Acked, EraEntered, Proposed, Floor}
use Rattle.cas_record.specs.declared.operator.OpAnswer.{OpAnswer}
use Rattle.cas_record.specs.Logs.Happening.{Happening, Drew, marks_of, Asked, Took as TookIt}
use Rattle.cas_record.specs.Logs.Lawful.{Cluster, AllEntered, Lawful}
use Rattle.cas_record.specs.Legal.{IsEnded, IsAcked, IsProposed, HasVotes}
use Rattle.cas_record.specs.Places.{here, Stands}
use Rattle.cas_record.proofs.Logs.Agreement.{took_of_acked}
use Rattle.cas_record.proofs.Logs.Lemmas.{AckedAt, ack_law, in_log, one_place, InLog, mark_stands, part_of}
use Rattle.cas_record.proofs.Logs.Orders.{drawn_once, reason, orderly_older, round_asked, age_later}
use Rattle.cas_protocol.specs.Acceptors.{IsMadeState, IsEmptyAt}
use Rattle.cas_model.specs.Collection.Logged.{is_round, IsTombstoneTrue, IsSoughtTrue, IsCollectionTrue, IsCollectingTrue, IsRenewed, AreRenewed, is_after_ages, is_after_floor, may_tell_ages}
use Rattle.cas_model.specs.Collection.State.{Tombstone, FoundHeld, Acknowledged, CollectionView, confirmed_step, called, tomb_of, ages_of}
use Rattle.cas_model.specs.Council.{OrderView, PlanView, Question, ask_of, tag_key, exchange_place, NewAges, ExchangeView, phase_for}
use Rattle.cas_model.specs.Eras.Course.{course_of, entries_in, IsCourseOf, AreEntries, IsSettled, CourseIsUnderWay, EraEntry}
use Rattle.cas_model.specs.History.{IsLogged, IsFollowed, IsRemembered, IsInEra}
use Rattle.cas_model.specs.Parties.{IsDoneTrue, IsCallTrue, IsCallerTrue, IsDeskTrue, ArePromisesHeld, HaveOneEach, AreMessagesTrue, IsAged, IsEraOf, IsExchangeTrue, WasToldBy}
use Rattle.cas_protocol.specs.Protocol.{Made, HasEnded, GlobalState, HasHistory, Knows, IsMadeOf, IsEndedAsk, IsAskable, IsFloorClear, MakesFloor, with_mark}
use Rattle.cas_model.specs.Step as step
use Rattle.cas_model.specs.Step.{Event, Step, OpenRoundAt}
use Rattle.cas_model.specs.Collection.Step as collect
use Rattle.cas_model.specs.Collection.Step.{keep_always, CollectingAt, collecting, StepReadHeld, StepGatherRound, GathersRound, stopped_by, StepRenew, RenewsNext, IsRenewedBy, IsQuestionOf, StepMakeFloor, StepAskCollect, AsksCollect, confirms, confirmers_in, GathersCollect, StepGatherCollect}
use Rattle.cas_model.specs.Exchanges.Step.{with_council, everyone, question_to, questions_to, new_exchange, gathered}
use Rattle.cas_model.specs.View.{Meaning, View, CallView, CallerView, IsAt, era_at, with_caller, with_desk, DiskMeaning, with_marks}
use Rattle.cas_model.proofs.Around.{whole_of, logged, Whole, around, settles, leaves_both}
use Rattle.cas_model.proofs.Exchanges.Steps.{counsels, ReFlows, reflows, asks_each, everyone_within, none_told}
use Rattle.cas_model.proofs.Eras.Courses.{course}
use Rattle.cas_model.proofs.Eras.Steps.{entry_stands}
use Rattle.cas_model.proofs.Places.{some_is, own_set, contains_none, contains_append}
use Rattle.cas_model.proofs.Remembering.{same_course, plainly, told_remembered, revaulted}
use Rattle.std.proofs.lemmas.List.{reverse-append}
use Rattle.cas_change.specs.declared.outcome.Took.{Took}
use Rattle.cas_record.specs.Logs.Orderly.{Orderly, age_told, IsRoundAsk, MayAsk, MayDraw, took_it, IsAgedOut, IsTold, MayReply}
use Rattle.cas_record.specs.declared.mark.Proposal.{Proposal}
use Rattle.cas_record.proofs.PlaceLemmas.{stands_at, stands_deeper, stands_part}
use Rattle.cas_slot.specs.declared.ages.Ages.{Ages as LeastAges}
use Rattle.cas_slot.specs.declared.message.Ask.TheVariants as ask
use Rattle.cas_slot.specs.declared.message.Request.{Request}
use Rattle.cas_model.proofs.Calls.Ends.{quiet_true, quiet_ends, IsDeskQuiet}
use Rattle.cas_model.proofs.Eras.InEras.{one_changed, up_kept, era_kept, left_in, down_in}
use Rattle.cas_model.proofs.Collection.Renewals.{counted_collection, ended_collection, left_collection, left_renewed, down_renewed, held_set}
use Rattle.cas_model.proofs.Steps.{round_at, prepare_at, call_at}
use Rattle.cas_cache.specs.declared.ready.Ready.{Ready}
use Rattle.cas_cache.specs.Entries.{without}
use Rattle.cas_proposer.specs.declared.round.Round.{Round as OpenRound}
use Rattle.cas_record.specs.declared.answer.Cause.TheVariants as cause
use Rattle.cas_model.specs.Calls.Desks.{VaultGoesOn, Renews, FailsToRenew}
use Rattle.cas_model.specs.Stops.Step as stops
use Rattle.cas_model.specs.Stops.Step.{LeavesRound, GoesDown, closed_by}
use Rattle.cas_model.proofs.Calls.Caches.{contains_without, ready_fewer, one_without, none_without}
use Rattle.cas_model.proofs.Calls.Draws.{vault_goes_on}
use Rattle.cas_model.proofs.Stops.Leaving.{IsClosing, left_whole, left_marks, down_logged}
use Rattle.cas_model.proofs.Eras.OnCourse.{left_course, down_course}
use Rattle.cas_model.proofs.Collection.Renewing.{KeepsAbove, idle_above, vault_above}
use Rattle.cas_flow.specs.Queue.{QueueView}
use Rattle.cas_round.proofs.Lists.{Has}
use Rattle.cas_vault.specs.Vault.{kept_of}
use Rattle.cas_record.proofs.Logs.Eras.{le_or_lt}
use Rattle.cas_model.specs.Eras.Listed.{IsPlanTrue}
use Rattle.cas_model.specs.Calls.Step.{Sends}
use Rattle.cas_model.proofs.Calls.Asks.{asked_log, asked_global, asked_all, asked_now, asked_later, asked_marks, asked_messages}
use Rattle.cas_protocol.proofs.Events.{keeps as happens}
use Rattle.cas_model.proofs.Collection.Flooring.{floor_mark, whole_floored}
use Rattle.cas_model.proofs.Frames.Steps.{marked}
use Rattle.cas_model.proofs.Others.{IsNoProbeIn, collection_still, exchange_still}
use Rattle.cas_model.proofs.Collection.SafeCollecting.{Frame, frame_of, begin_frame}
use Rattle.cas_model.proofs.Safety.Parts.{at_low}
use Rattle.cas_ballot.proofs.MemberLemmas.{has-members_where, members_where_tells}
use Rattle.cas_base.proofs.Bools.{or_right}
use Rattle.cas_slot.specs.Ages.{least_age}
use Rattle.cas_slot.specs.Message.{phase_of, tag_of}
use Rattle.cas_slot.specs.declared.message.Ask.{Ask}
use Rattle.cas_slot.specs.declared.message.Phase.TheVariants as phase
use Rattle.cas_slot.specs.declared.message.Tell.{Tell}
use Rattle.cas_slot.specs.declared.message.Tell.TheVariants as tell
use Rattle.cas_model.specs.Eras.Listings.{told_by}
use Rattle.cas_model.proofs.Frames.Harms.{member_low}
use Rattle.cas_model.proofs.Eras.Listings.{answer_of}

-- ---- the collection goes on
-- what else is under way stays
recollected : {S V : Type 0} (m : Meaning S V) (old : View S V) (order : OrderView) (told : Option OpAnswer) (collection : CollectionView) → (is : IsFollowed m old)
    → IsCollectionTrue is.cluster is.logged.global.log collection
    → IsFollowed m (collecting old order told collection)
recollected m old order told collection is known =
    same_course m old (collecting old order told collection) refl
    (logged m is.cluster is.logged.global _ (counsels m is.cluster is.logged.global old _ (is.logged.agrees.council.0, is.logged.agrees.council.1, is.logged.agrees.council.2, known) (whole_of m old is.logged)) is.logged.agrees.marks)
    is.course is.in_eras

-- what is known of the one that is under way
pub known_of : {S V : Type 0} (m : Meaning S V) (old : View S V) (is : IsFollowed m old) (collection : CollectionView) → old.council.collection ≡ Some collection
    → IsCollectionTrue is.cluster is.logged.global.log collection
known_of m old is collection is_some = subst (IsCollectingTrue is.cluster is.logged.global.log) is_some is.logged.agrees.council.3

-- as many are renewed as before, of the same collection
renewed_same : {S V : Type 0} (m : Meaning S V) (old : View S V) (order : OrderView) (told : Option OpAnswer) (collection now : CollectionView) → old.council.collection ≡ Some collection
    → now.ages ≡ collection.ages
    → now.course.key ≡ collection.course.key → now.tombstone ≡ collection.tombstone → AreRenewed m old → AreRenewed m (collecting old order told now)
renewed_same {S} {V} m old order told collection now is_some same_ages same_key same_tomb were one proposer age desk is at_age at =
    let same : now ≡ one = some_is is in
    let was = were collection proposer age desk is_some (subst (λ (l : List ℕ). IsAt l proposer age) (ap (λ (c : CollectionView). c.ages) (sym same) ∙ same_ages) at_age) at in
    subst (λ (c : CollectionView). IsRenewed m.disks c.course.key (tomb_of c.tombstone) age desk) same
    (subst (λ (k : List ℕ). IsRenewed m.disks k (tomb_of now.tombstone) age desk) (sym same_key) (subst (λ (t : Tombstone). IsRenewed m.disks collection.course.key (tomb_of t) age desk) (sym same_tomb) was))

-- none is renewed yet
renewed_none : {S V : Type 0} (m : Meaning S V) (old : View S V) (order : OrderView) (told : Option OpAnswer) (now : CollectionView) → now.ages ≡ [] → AreRenewed m (collecting old order told now)
renewed_none m old order told now none one proposer age desk is at_age at =
    absurd (cc (subst (λ (l : List ℕ). IsAt l proposer age) (ap (λ (c : CollectionView). c.ages) (sym (some_is is)) ∙ none) at_age))

-- ---- while its round is due
-- nothing is known of one whose round is due but its tombstone and its era
fresh_known : (cluster : Cluster) (log : List Happening) (c : CollectionView) → c.course.step ≡ Round → c.ages ≡ [] → IsSoughtTrue log c.course.key c.course.era.number c.tombstone
    → (c.course.era.number ≡ 0) ⊎ AllEntered cluster c.course.era.number (marks_of log)
    → ((tomb : Ballot) (by : List ℕ) (request : Request) (least : LeastAges) → c.tombstone ≡ Acknowledged tomb by → Stands (Asked request) log → request.ask ≡ ask.Ages tomb least → ⊥)
    → IsCollectionTrue cluster log c
fresh_known cluster log c due none sought entered untold = record {
  tombstone = sought;
  entered = entered;
  taken = λ past. absurd (cc (past, ap is_round due));
  none_yet = λ e. none;
  ended = λ past. absurd (cc (past, ap is_round due));
  older = λ proposer age request at. absurd (cc (subst (λ (l : List ℕ). IsAt l proposer age) none at));
  told_alone = λ tomb by request least is stands tells. absurd (untold tomb by request least is stands tells);
  told = λ past. absurd (cc (past, ap is_after_ages due));
  floor = λ past. absurd (cc (past, ap is_after_floor due));
}

-- all proposers entered the era in which no change of membership is under way, or it is the first
entered_by_all : {S V : Type 0} (m : Meaning S V) (view : View S V) (is : IsFollowed m view) → view.council.plan ≡ None
    → ((era_at view 0).number ≡ 0) ⊎ AllEntered is.cluster (era_at view 0).number (marks_of is.logged.global.log)
entered_by_all {S} {V} m view is none = by_number (era_at view 0).number refl
  where
    entries : AreEntries (course view.last_proposer view.eras None (entries_in view.marks))
    entries = subst (λ (p : Option PlanView). AreEntries (course view.last_proposer view.eras p (entries_in view.marks))) none is.course.is_course.entries

    by_number : (n : ℕ) → (era_at view 0).number ≡ n → ((era_at view 0).number ≡ 0) ⊎ AllEntered is.cluster (era_at view 0).number (marks_of is.logged.global.log)
    by_number zero same = inl same
    by_number (suc n) same = inr (λ proposer known. subst (Stands (EraEntered proposer (era_at view 0).number)) (sym is.logged.agrees.marks)
        (entry_stands view.marks proposer (era_at view 0).number (entries.all (omega (arith, same)) proposer (omega (arith, known, is.logged.agrees.last_proposer)))))

-- none is renewed of one whose round is due
none_of : {S V : Type 0} (m : Meaning S V) (old : View S V) (is : IsFollowed m old) (at : CollectingAt old.council) → at.collection.course.step ≡ Round → at.collection.ages ≡ []
none_of m old is at due = (known_of m old is at.collection at.is_collection).none_yet (ap is_round due)

begins_collection : {S V : Type 0} (m : Meaning S V) (old : View S V) (key : List ℕ) (new : View S V) → m.shelves.tells → m.disks.tells → IsRemembered m old
    → Step m old (step.BeginCollect key) new → IsRemembered m new
begins_collection {S} {V} m old key new shelves disks is by = by_case by.begins
  where
    by_case : collect.BeginsCollection m (λ before after. step.StepBegin m before 0 key keep_always after) old key by.may.order by.desk by.caller new → IsRemembered m new
    by_case (collect.is_down none down view) = subst (IsRemembered m) (sym view) (told_remembered m old _ is)
    by_case (collect.is_busy plan none up planned view) = subst (IsRemembered m) (sym view) (told_remembered m old _ is)
    by_case (collect.is_full none up unplanned full view) = subst (IsRemembered m) (sym view) (told_remembered m old _ is)
    by_case (collect.no_memory middle none up unplanned refuses view) =
        subst (IsRemembered m) (sym view) (told_remembered m middle _ (plainly m old (step.RefuseBegin 0 key) middle shelves disks tt is refuses))
    by_case (collect.begins middle none unplanned begun view) =
        let then_ = plainly m old (step.Begin 0 key keep_always) middle shelves disks tt is begun in
        let same : frame_of middle ≡ frame_of old = begin_frame m old middle 0 key keep_always begun in
        let still : middle.council.plan ≡ None = ap (λ (f : Frame). f.council.plan) same ∙ unplanned in
        let entered : ((era_at old 0).number ≡ 0) ⊎ AllEntered then_.followed.cluster (era_at old 0).number (marks_of then_.followed.logged.global.log) =
        subst (λ (f : Frame). (f.era.number ≡ 0) ⊎ AllEntered then_.followed.cluster f.era.number (marks_of then_.followed.logged.global.log)) same (entered_by_all m middle then_.followed still) in
        subst (IsRemembered m) (sym view) (record {
          followed = recollected m middle by.may.order None _ then_.followed
              (fresh_known then_.followed.cluster then_.followed.logged.global.log _ refl refl tt entered (λ tomb by_ request least same. absurd (cc same)));
          renewed = renewed_none m middle by.may.order None _ refl;
        })
    by_case (collect.goes_on middle call of open_ begun view) =
        let then_ = plainly m old (step.Begin 0 key keep_always) middle shelves disks tt is begun in
        let same_collection : middle.council.collection ≡ Some of.at.collection = ap (λ (f : Frame). f.council.collection) (begin_frame m old middle 0 key keep_always begun) ∙ of.at.is_collection in
        subst (IsRemembered m) (sym view) (record {
          followed = recollected m middle by.may.order None of.at.collection then_.followed (known_of m middle then_.followed of.at.collection same_collection);
          renewed = renewed_none m middle by.may.order None of.at.collection (none_of m old is.followed of.at of.is_due);
        })

reads_held : {S V : Type 0} (m : Meaning S V) (old : View S V) (new : View S V) → m.disks.tells → IsRemembered m old → StepReadHeld m old new → IsRemembered m new
reads_held {S} {V} m old new disks is by = subst (IsRemembered m) (sym by.view) (record {
  followed = recollected m closed by.is.at.order None found mid
      (fresh_known mid.cluster mid.logged.global.log found by.is.is_due (none_of m old is.followed by.is.at by.is.is_due) tt (known_of m closed mid by.is.at.collection by.is.at.is_collection).entered (λ tomb by_ request least same. absurd (cc same)));
  renewed = renewed_none m closed by.is.at.order None found (none_of m old is.followed by.is.at by.is.is_due);
})
  where
    global : GlobalState
    global = is.followed.logged.global

    found : CollectionView
    found = record (called by.is.at.collection) { tombstone = FoundHeld by.version }

    at : OpenRoundAt old 0
    at = record { of_call = by.of_call; desk = by.desk; at_desk = by.at_desk; up = by.up; round = by.round; is_open = by.is_round; none_waits = by.none_waits }

    caller : CallerView
    caller = record by.of_call.caller { call = None }

    closed : View S V
    closed = with_caller (with_desk old 0 by.now) 0 caller

    whole : Whole m is.followed.cluster global old
    whole = whole_of m old is.followed.logged

    caller_true : IsCallerTrue global.log global.made 0 by.of_call.caller
    caller_true = whole.parties.callers 0 tt by.of_call.caller by.of_call.at_caller

    unproposed : IsProposed 0 by.of_call.caller.number (marks_of global.log) → ⊥
    unproposed = (caller_true.call by.of_call.call by.of_call.is_open).unproposed
        (subst (λ (c : CallView). c.proposed ≡ None) (call_at m old 0 is.followed.logged at)
        (prepare_at global.log global.made 0 by.of_call.caller.number (round_at m old 0 is.followed.logged at).call (queue_at old.flow 0).messages by.round by.preparing (round_at m old 0 is.followed.logged at).phase).unproposed)

    log : IsLogged m is.followed.cluster closed
    log =
        logged m is.followed.cluster global closed
        (settles m is.followed.cluster global old closed 0 (around m is.followed.cluster global old 0 whole) (leaves_both old 0 by.now caller old.flow old.marks (λ p other. refl)) (record {
          desk = λ d c at_d at_c.
              subst (λ (x : DeskView V). IsDeskTrue m is.followed.cluster global.log global.made (era_at old 0).number 0 c (queue_at old.flow 0).messages x) (sym (own_set old.desks 0 by.now d at_d))
              (quiet_true m is.followed.cluster global.log global.made 0 (era_at old 0).number c (queue_at old.flow 0).messages by.now by.none_waits
              (quiet_ends m is.followed.cluster global.log global.made 0 (era_at old 0).number by.of_call.caller (queue_at old.flow 0).messages by.desk by.now by.round disks (whole.parties.desks 0 tt by.desk by.of_call.caller by.at_desk by.of_call.at_caller) by.ends));
          caller = λ c at_c. subst (IsCallerTrue global.log global.made 0) (sym (own_set old.callers 0 caller c at_c)) (record {
            number = caller_true.number;
            call = λ call none. absurd (cc none);
            ended = λ call proposed. elim (caller_true.ended call proposed) [
              | inl open_ ↦ absurd (unproposed (subst (λ (n : ℕ). IsProposed 0 n (marks_of global.log)) open_.1 proposed))
              | inr ended ↦ inr ended
            ];
          });
          own = whole.parties.own 0;
          late = whole.parties.late;
        })) is.followed.logged.agrees.marks

    mid : IsFollowed m closed
    mid = same_course m old closed refl log is.followed.course (one_changed m (course_of old) _ _ 0 _ _ refl by.at_desk (up_kept m.disks disks by.up by.ends.goes_on) is.followed.in_eras)

-- ---- its tombstone
-- what the log tells of the ballot at which the operator's caller was told that the empty state is done
tombstone_true : (cluster : Cluster) (log : List Happening) (all : List Made) (number : ℕ) (call : CallView) (key : List ℕ) (era : ℕ) (took : Took) (a : Acknowledgment) → Lawful cluster log
    → Orderly cluster log → Knows cluster log all
    → IsCallTrue log all 0 number call → call.told ≡ Some (answer.Done Empty took a.ballot) → Stands (Acked a) (marks_of log) → a.key ≡ key → a.era ≡ era → IsTombstoneTrue log key era a.ballot a.by
tombstone_true cluster log all number call key era took a lawful orderly knows call_true told acked same_key same_era = record {
  own = done.own;
  drawn = drawn_here;
  made = subst (λ (e : ℕ). IsMadeState (marks_of log) key a.ballot e Empty) (sym (one_drawn.1))
      (subst (λ (k : List ℕ). IsMadeState (marks_of log) k a.ballot done.made.proposal.era Empty) (sym one_drawn.0)
      (subst (λ (b : Ballot). IsMadeState (marks_of log) done.made.proposal.key b done.made.proposal.era Empty) done.same_ballot
      (subst (IsMadeState (marks_of log) done.made.proposal.key done.made.proposal.ballot done.made.proposal.era) (ap (λ (o : Outcome). o.state) done.same_outcome) of_made.is_made)));
  proposal = done.made.proposal;
  proposed = proposed;
  same_ballot = done.same_ballot;
  by_operator = done.same_caller;
  acked = is_acked;
  taken = λ acceptor member. let took_it = took_of_acked cluster lawful at acceptor member in (took_it.ride, stands_deeper took_it.stands at.at);
}
  where
    done : IsDoneTrue log all 0 number Empty took a.ballot
    done = call_true.told (answer.Done Empty took a.ballot) told

    of_made : IsMadeOf log done.made
    of_made = knows.made done.made done.stands

    proposed : Stands (Proposed done.made.proposal) (marks_of log)
    proposed = mark_stands (stands_at of_made.at)

    is_acked : IsAcked key a.ballot (marks_of log)
    is_acked = record { acknowledgment = a; stands = acked; same_key = same_key; same_ballot = refl }

    placed : InLog (Acked a) acked.older log
    placed = in_log log acked.at

    at : AckedAt key a.ballot log
    at = record { acknowledgment = a; older = placed.older; at = placed.at; same_key = same_key; same_ballot = refl }

    votes : HasVotes a (marks_of placed.older)
    votes = (ack_law cluster lawful placed.at).votes

    drawn_acked : Stands (Drew a.ballot key era) log
    drawn_acked =
        let drew = knows.drawn votes.proposal (stands_part votes.proposed (part_of placed.at)) in
        subst (λ (e : ℕ). Stands (Drew a.ballot key e) log) (votes.same_era ∙ same_era)
        (subst (λ (k : List ℕ). Stands (Drew a.ballot k votes.proposal.era) log) (votes.same_key ∙ same_key) (subst (λ (b : Ballot). Stands (Drew b votes.proposal.key votes.proposal.era) log) votes.same_ballot drew))

    drawn_here : Stands (Drew a.ballot key era) log
    drawn_here = drawn_acked

    one_drawn : (key ≡ done.made.proposal.key) × (era ≡ done.made.proposal.era)
    one_drawn =
        drawn_once cluster orderly drawn_acked (subst (λ (b : Ballot). Stands (Drew b done.made.proposal.key done.made.proposal.era) log) done.same_ballot (knows.drawn done.made.proposal proposed))

-- no ages were told under it, as its call is open
untold : (cluster : Cluster) (log : List Happening) (all : List Made) (number : ℕ) (call : CallView) (took : Took) (tomb : Ballot) (request : Request) (least : LeastAges) → Lawful cluster log
    → Orderly cluster log → Knows cluster log all
    → IsCallTrue log all 0 number call → call.told ≡ Some (answer.Done Empty took tomb) → Stands (Asked request) log → request.ask ≡ ask.Ages tomb least → ⊥
untold cluster log all number call took tomb request least lawful orderly knows call_true told stands tells =
    let done : IsDoneTrue log all 0 number Empty took tomb = call_true.told (answer.Done Empty took tomb) told in
    let p : Proposal = done.made.proposal in
    let of_made = knows.made done.made done.stands in
    let ended : HasEnded (marks_of log) tomb = subst (IsEndedAsk (marks_of log)) tells (knows.ended request stands) in
    let found = in_log log ended.stands.at in
    let drawn = subst (λ (b : Ballot). Stands (Drew b ended.proposal.key ended.proposal.era) log) (ended.same_ballot ∙ sym done.same_ballot) (knows.drawn ended.proposal ended.stands) in
    let same_keys = drawn_once cluster orderly drawn (knows.drawn p (mark_stands (stands_at of_made.at))) in
    let one = one_place cluster lawful found.at of_made.at same_keys.0 (ended.same_ballot ∙ sym done.same_ballot) in
    call_true.open_yet (subst (λ (n : ℕ). IsEnded 0 n (marks_of log)) done.same_call (subst (λ (n : ℕ). IsEnded n p.call (marks_of log)) done.same_caller (subst (λ (q : Proposal). IsEnded q.caller q.call (marks_of log)) one.same ended.ended)))

counts_collection : {S V : Type 0} (m : Meaning S V) (old : View S V) (new : View S V) → m.shelves.tells → m.disks.tells → IsRemembered m old → Step m old step.CountCollect new → IsRemembered m new
counts_collection {S} {V} m old new shelves disks is by = in_case by.counted
  where
    at : CollectingAt old.council
    at = by.is.at

    then_ : IsRemembered m by.middle
    then_ = plainly m old (step.Count 0) by.middle shelves disks tt is by.counts

    log : List Happening
    log = then_.followed.logged.global.log

    all : List Made
    all = then_.followed.logged.global.made

    history : HasHistory then_.followed.cluster then_.followed.logged.global
    history = then_.followed.logged.history

    none : at.collection.ages ≡ []
    none = none_of m old is.followed at by.is.is_due

    call_true : IsCallTrue log all 0 by.of_call.caller.number by.of_call.call
    call_true = (then_.followed.logged.agrees.callers 0 by.of_call.caller by.of_call.at_caller).call by.of_call.call by.of_call.is_open

    same_collection : by.middle.council.collection ≡ Some at.collection
    same_collection = counted_collection m old by.middle {id = 0} by.counts ∙ at.is_collection

    entered : (at.collection.course.era.number ≡ 0) ⊎ AllEntered then_.followed.cluster at.collection.course.era.number (marks_of log)
    entered = (known_of m by.middle then_.followed at.collection same_collection).entered

    so : (now : CollectionView) → by.now ≡ now → now.ages ≡ [] → IsCollectionTrue then_.followed.cluster log now → IsRemembered m new
    so now same none_renewed known = subst (IsRemembered m) (sym (by.view ∙ ap (λ (c : CollectionView). collecting by.middle at.order None c) same)) (record {
      followed = recollected m by.middle at.order None now then_.followed known;
      renewed = renewed_none m by.middle at.order None now none_renewed;
    })

    in_case : collect.CountedAs old by.middle by.of_call.call at.collection by.now → IsRemembered m new
    in_case (collect.acknowledges took acknowledgment done marks same_key same_era same) =
        let acked : Stands (Acked acknowledgment) (marks_of log) =
        subst (Stands (Acked acknowledgment)) (sym (then_.followed.logged.agrees.marks ∙ ap (λ (l : List Mark). reverse l) marks ∙ reverse-append old.marks (Acked acknowledgment ∷ []))) (record { older = reverse old.marks; at = here }) in
        let same_tomb : (tomb : Ballot) (members : List ℕ) → Acknowledged acknowledgment.ballot acknowledgment.by ≡ Acknowledged tomb members → acknowledgment.ballot ≡ tomb =
        λ tomb members is_same. cc is_same in
        so _ same none (fresh_known then_.followed.cluster log (record at.collection { tombstone = Acknowledged acknowledgment.ballot acknowledgment.by; reserved = 1 }) by.is.is_due none
        (tombstone_true then_.followed.cluster log all by.of_call.caller.number by.of_call.call at.collection.course.key at.collection.course.era.number took acknowledgment
        history.lawful history.orderly history.knows call_true done acked (same_key ∙ sym by.is.same_key) same_era)
        entered (λ tomb by_ request least is_same stands tells. untold then_.followed.cluster log all by.of_call.caller.number by.of_call.call took tomb request least history.lawful history.orderly history.knows call_true
        (done ∙ ap (λ (b : Ballot). Some (answer.Done Empty took b)) (same_tomb tomb by_ is_same)) stands tells))
    in_case (collect.finds_held version body took ballot done same) =
        so _ same none (fresh_known then_.followed.cluster log (record at.collection { tombstone = FoundHeld version }) by.is.is_due none tt entered (λ tomb by_ request least is_same stands tells. absurd (cc is_same)))

-- ---- its call ends
-- with another stage of its call all that is known stays
same_known : (cluster : Cluster) (log : List Happening) (c : CollectionView) → IsCollectionTrue cluster log c → IsCollectionTrue cluster log (called c)
same_known cluster log c was = record {
  tombstone = was.tombstone;
  entered = was.entered;
  taken = was.taken;
  none_yet = was.none_yet;
  ended = was.ended;
  older = was.older;
  told_alone = was.told_alone;
  told = was.told;
  floor = was.floor;
}

ends_collection : {S V : Type 0} (m : Meaning S V) (old : View S V) (answer : Answer) (new : View S V) → m.shelves.tells → m.disks.tells → IsRemembered m old
    → Step m old (step.EndCollect answer) new → IsRemembered m new
ends_collection {S} {V} m old answer new shelves disks is by =
    let then_ : IsRemembered m by.middle = plainly m old (step.End 0 answer) by.middle shelves disks tt is by.ends in
    let same : by.middle.council.collection ≡ Some by.is.at.collection = ended_collection m old by.middle answer {id = 0} by.ends ∙ by.is.at.is_collection in
    subst (IsRemembered m) (sym by.view) (record {
      followed = recollected m by.middle by.is.at.order (stopped_by answer) (called by.is.at.collection) then_.followed
          (same_known then_.followed.cluster then_.followed.logged.global.log by.is.at.collection (known_of m by.middle then_.followed by.is.at.collection same));
      renewed = renewed_same m by.middle by.is.at.order (stopped_by answer) by.is.at.collection (called by.is.at.collection) same refl refl refl then_.renewed;
    })

-- the members of an era in which no change of membership is under way accept in it
accepts_all : {S V : Type 0} (m : Meaning S V) (view : View S V) (is : IsFollowed m view) → view.council.plan ≡ None → (acceptor : ℕ)
    → has_member (is.cluster.members (era_at view 0).number) acceptor ≡ true → has_member (era_at view 0).acc acceptor ≡ true
accepts_all {S} {V} m view is none acceptor member = elim ((is.logged.agrees.eras 0 (omega arith)).only_members acceptor member) [
  | inl prepares ↦ subst (λ (l : List ℕ). has_member l acceptor ≡ true) (sym settled.whole.one_set.same) prepares
  | inr accepts ↦ accepts
]
  where
    settled : IsSettled (course view.last_proposer view.eras None (entries_in view.marks))
    settled = subst (λ (p : Option PlanView). CourseIsUnderWay (course view.last_proposer view.eras p (entries_in view.marks)) p) none is.course.is_course.under_way

-- once all who accept in the era acknowledged it, the first proposer is to be renewed
gathers_round : {S V : Type 0} (m : Meaning S V) (old : View S V) (new : View S V) → IsRemembered m old → StepGatherRound old new → IsRemembered m new
gathers_round {S} {V} m old new is by = by_case by.gathers
  where
    c : CollectionView
    c = by.at.collection

    log : List Happening
    log = is.followed.logged.global.log

    known : IsCollectionTrue is.followed.cluster log c
    known = known_of m old is.followed c by.at.is_collection

    next : confirmed_step c ≡ record c { course = record c.course { confirmed = with_step c.course.confirmed c.course.step; step = Renew 0 } }
    next = ap (λ (s : CollectStep). record c { course = record c.course { confirmed = with_step c.course.confirmed c.course.step; step = step_after c.course.proposers s } }) by.is_due

    -- all that caller 0 proposed has ended
    ended : (tomb : Ballot) (members : List ℕ) → c.tombstone ≡ Acknowledged tomb members → HasEnded (marks_of log) tomb
    ended tomb members same =
        let of : IsTombstoneTrue log c.course.key c.course.era.number tomb members = subst (IsSoughtTrue log c.course.key c.course.era.number) same known.tombstone in
        record {
          proposal = of.proposal;
          stands = of.proposed;
          same_ballot = of.same_ballot;
          ended = subst (λ (n : ℕ). IsEnded n of.proposal.call (marks_of log)) (sym of.by_operator)
              (elim ((is.followed.logged.agrees.callers 0 by.caller by.at_caller).ended of.proposal.call (record { proposal = of.proposal; stands = of.proposed; same_caller = of.by_operator; same_call = refl })) [
                | inl open_ ↦ absurd (cc (open_.0, by.idle))
                | inr has ↦ has
              ]);
        }

    -- all members accept in an era in which no change of membership is under way
    taken_by_all : (tomb : Ballot) (members : List ℕ) → c.tombstone ≡ Acknowledged tomb members
        → ((acceptor : ℕ) → has_member (era_at old 0).acc acceptor ≡ true → has_member members acceptor ≡ true) → (acceptor : ℕ)
        → has_member (is.followed.cluster.members c.course.era.number) acceptor ≡ true → (ride : Ballot) × Stands (TookIt acceptor c.course.key tomb ride) log
    taken_by_all tomb members same all acceptor member =
        let of : IsTombstoneTrue log c.course.key c.course.era.number tomb members = subst (IsSoughtTrue log c.course.key c.course.era.number) same known.tombstone in
        of.taken acceptor
        (all acceptor (accepts_all m old is.followed by.none_planned acceptor (subst (λ (e : Era). has_member (is.followed.cluster.members e.number) acceptor ≡ true) by.same_era member)))

    by_case : GathersRound old by.at new → IsRemembered m new
    by_case (collect.is_absent tomb members acceptor same least view) = subst (IsRemembered m) (sym view) (told_remembered m old _ is)
    by_case (collect.is_held version same view) = subst (IsRemembered m) (sym view) (told_remembered m old _ is)
    by_case (collect.all tomb members same all view) = subst (IsRemembered m) (sym (view ∙ ap (collecting old by.at.order None) next)) (record {
      followed = recollected m old by.at.order None _ is.followed (record {
        tombstone = known.tombstone;
        entered = known.entered;
        taken = λ past acceptor member. subst (λ (t : Tombstone). (ride : Ballot) × Stands (TookIt acceptor c.course.key (tomb_of t) ride) log) (sym same) (taken_by_all tomb members same all acceptor member);
        none_yet = λ e. absurd (cc e);
        ended = λ past. subst (λ (t : Tombstone). HasEnded (marks_of log) (tomb_of t)) (sym same) (ended tomb members same);
        older = known.older;
        told_alone = λ t by_ request least is_it stands tells. absurd (cc ((known.told_alone t by_ request least is_it stands tells).0, ap may_tell_ages by.is_due));
        told = λ past. absurd (cc past);
        floor = λ past. absurd (cc past);
      });
      renewed = renewed_same m old by.at.order None c _ by.at.is_collection refl refl refl is.renewed;
    })

-- ---- renewals
-- one behind the last
at_snoc : (xs : List ℕ) (x : ℕ) (place : ℕ) (y : ℕ) → IsAt (xs ++ x ∷ []) place y → IsAt xs place y ⊎ ((place ≡ length xs) × (x ≡ y))
at_snoc [] x zero y at = inr (refl, some_is at)
at_snoc [] x (suc place) y at = absurd (cc at)
at_snoc (z ∷ xs) x zero y at = inl at
at_snoc (z ∷ xs) x (suc place) y at = elim (at_snoc xs x place y at) [
  | inl before ↦ inl before
  | inr last ↦ inr (ap suc last.0, last.1)
]

-- the step after a renewal is another one, or to tell the ages
record IsBeforeAges (s : CollectStep) : Type 0 where
  no_round : is_round s ≡ false
  no_floor : is_after_ages s ≡ false
  not_after : is_after_floor s ≡ false

after_renewal : (proposers p : ℕ) → IsBeforeAges (step_after proposers (Renew p))
after_renewal proposers p = by_test (nat_lt p proposers)
  where
    by_test : (b : Bool) → IsBeforeAges (if b then Renew (p + 1) else Ages)
    by_test true = record { no_round = refl; no_floor = refl; not_after = refl }
    by_test false = record { no_round = refl; no_floor = refl; not_after = refl }

closing_age : (age : ℕ) → IsClosing (answer.Aged age) (cause.Aged age)
closing_age age = record { refusal = λ log all id number none. record { refused = λ e. none; unsettled = λ e. absurd (cc e); harmed = omega arith }; unharmed = refl }

-- what it held for the other keys stays
within_renewed : (key : List ℕ) (round : Option OpenRound) (cache : List (List ℕ × Ready)) (entry : List ℕ × Ready) → Contains (without key (cache_without round cache)) entry → Contains cache entry
within_renewed key None cache entry h = contains_without key cache h
within_renewed key (Some round) cache entry h = contains_without round.key cache (contains_without key (without round.key cache) h)

one_renewed : (key : List ℕ) (round : Option OpenRound) (cache : List (List ℕ × Ready)) → HaveOneEach cache → HaveOneEach (cache_without round cache)
one_renewed key None cache one = one
one_renewed key (Some round) cache one = one_without round.key cache one

quiet_renewed : {S V : Type 0} (m : Meaning S V) (cluster : Cluster) (log : List Happening) (all : List Made) (id era : ℕ) (caller : CallerView) (waiting : List Message) (key : List ℕ) (tomb : Ballot) (age : ℕ) (desk now : DeskView V) → m.disks.tells
    → IsDeskTrue m cluster log all era id caller waiting desk → Renews m.disks key tomb age desk now → IsDeskQuiet m cluster log all id era now
quiet_renewed {S} {V} m cluster log all id era caller waiting key tomb age desk now tells of by = record {
  same_id = ap (λ (d : DeskView V). d.id) by.desk ∙ of.same_id;
  known = of.known;
  vault = vault_goes_on m log id era tells by.goes_on of.vault;
  cached = subst (ArePromisesHeld cluster log all id era) (sym (ap (λ (d : DeskView V). d.cache) by.desk))
      (ready_fewer cluster log all id era (without key (cache_without desk.round desk.cache)) desk.cache (λ entry h. within_renewed key desk.round desk.cache entry h) of.cached);
  one_each = subst HaveOneEach (sym (ap (λ (d : DeskView V). d.cache) by.desk)) (one_without key (cache_without desk.round desk.cache) (one_renewed key desk.round desk.cache of.one_each));
  none_open = ap (λ (d : DeskView V). d.round) by.desk;
}

renews_above : {V : Type 0} (m : DiskMeaning V) (key : List ℕ) (tomb : Ballot) (age : ℕ) (desk now : DeskView V) → m.tells → Renews m key tomb age desk now → KeepsAbove m desk now
renews_above {V} m key tomb age desk now tells by = idle_above m desk now (by.goes_on.still_past tells) (by.goes_on.ages tells) (ap (λ (d : DeskView V). d.round) by.desk)
    (λ entry h. within_renewed key desk.round desk.cache entry (subst (λ (l : List (List ℕ × Ready)). Contains l entry) (ap (λ (d : DeskView V). d.cache) by.desk) h))

-- it is renewed then
now_renewed : {V : Type 0} (m : DiskMeaning V) (key : List ℕ) (tomb : Ballot) (age : ℕ) (desk now : DeskView V) → m.tells → HaveOneEach desk.cache → Renews m key tomb age desk now
    → IsRenewed m key tomb age now
now_renewed {V} m key tomb age desk now tells one by = record {
  past = by.past tells;
  aged = by.aged tells;
  ballot = λ round is same. absurd (cc (is, ap (λ (d : DeskView V). d.round) by.desk));
  ride = λ round ride is same rides. absurd (cc (is, ap (λ (d : DeskView V). d.round) by.desk));
  cached = λ ready h. absurd (none_without key (cache_without desk.round desk.cache) (one_renewed key desk.round desk.cache one) ready (subst (λ (l : List (List ℕ × Ready)). Contains l (key, ready)) (ap (λ (d : DeskView V). d.cache) by.desk) h));
}

-- the desk that left its round
record HasLeftRound {V : Type 0} (DeskTurns : DeskView V → DeskView V → Type 0) (old new : List (DeskView V)) (id : ℕ) : Type 0 where
  desk : DeskView V
  now : DeskView V
  at : IsAt old id desk
  turns : DeskTurns desk now
  desks : new ≡ slice_set old id now

has_left : {S V : Type 0} (DeskTurns : DeskView V → DeskView V → Type 0) (closed : CallView → CallView) (old new : View S V) (id : ℕ) → LeavesRound DeskTurns closed old id new
    → HasLeftRound DeskTurns old.desks new.desks id
has_left {S} {V} DeskTurns closed old new id (stops.idle desk now at none turns is) = record { desk = desk; now = now; at = at; turns = turns; desks = ap (λ (w : View S V). w.desks) is }
has_left {S} {V} DeskTurns closed old new id (stops.closes desk now round of_call at is_round turns is) = record { desk = desk; now = now; at = at; turns = turns; desks = ap (λ (w : View S V). w.desks) is }

-- its vault failed within that
fails_renewal : {S V : Type 0} (m : Meaning S V) (old : View S V) (proposer : ℕ) (tomb : Ballot) (middle : View S V) → m.disks.tells → IsRemembered m old
    → GoesDown (FailsToRenew m.disks tomb) old proposer middle → IsRemembered m middle
fails_renewal {S} {V} m old proposer tomb middle disks is down = record {
  followed = same_course m old middle (down_course (FailsToRenew m.disks tomb) old middle proposer down)
      (down_logged m old proposer (FailsToRenew m.disks tomb) middle (λ desk now by. (by.crashed, record { still_past = by.goes_on.still_past disks; ages = by.goes_on.ages disks })) is.followed.logged down) is.followed.course
      (down_in m (course_of old) (FailsToRenew m.disks tomb) old middle proposer (λ desk now at by. era_kept m (course_of old) proposer (up_kept m.disks disks by.up by.goes_on) (is.followed.in_eras proposer desk at).1) down is.followed.in_eras);
  renewed = down_renewed m old middle proposer (FailsToRenew m.disks tomb)
      (λ desk now by. idle_above m.disks desk now (by.goes_on.still_past disks) (by.goes_on.ages disks) (ap (λ (d : DeskView V). d.round) by.crashed)
      (λ entry h. absurd (contains_none (subst (λ (l : List (List ℕ × Ready)). Contains l entry) (ap (λ (d : DeskView V). d.cache) by.crashed) h)))) down is.renewed;
}

-- its vault goes on, and all else stays
moves_on : {S V : Type 0} (m : Meaning S V) (old : View S V) (id : ℕ) (desk now : DeskView V) → m.disks.tells → IsRemembered m old → IsAt old.desks id desk → desk.down ≡ false
    → now ≡ record desk { vault = now.vault } → VaultGoesOn m.disks desk.vault now.vault
    → IsRemembered m (with_desk old id now)
moves_on {S} {V} m old id desk now disks is at up is_now on = record {
  followed = same_course m old (with_desk old id now) refl
      (logged m is.followed.cluster is.followed.logged.global (with_desk old id now) (revaulted m is.followed.cluster is.followed.logged.global old id desk now at
      (is_now ∙ ap (λ (b : Bool). record desk { vault = now.vault; down = b }) (sym (ap (λ (d : DeskView V). d.down) is_now))) (record { still_past = on.still_past disks; ages = on.ages disks }) (whole_of m old is.followed.logged)) is.followed.logged.agrees.marks)
      is.followed.course (one_changed m (course_of old) _ _ id _ _ refl at (up_kept m.disks disks up on) is.followed.in_eras);
  renewed =
      held_set m.disks old.council.collection old.desks id desk now at
      (vault_above m.disks desk now (on.still_past disks) (on.ages disks) (ap (λ (d : DeskView V). d.round) is_now) (ap (λ (d : DeskView V). d.cache) is_now)) is.renewed;
}

renews : {S V : Type 0} (m : Meaning S V) (old : View S V) (proposer : ℕ) (new : View S V) → m.disks.tells → IsRemembered m old → StepRenew m old proposer new → IsRemembered m new
renews {S} {V} m old proposer new disks is by = by_case by.renews
  where
    c : CollectionView
    c = by.at.collection

    key : List ℕ
    key = c.course.key

    tomb : Ballot
    tomb = tomb_of c.tombstone

    global : GlobalState
    global = is.followed.logged.global

    is_in : m.disks.tells → (desk now : DeskView V) → IsAt old.desks proposer desk → desk.down ≡ false → VaultGoesOn m.disks desk.vault now.vault → IsInEra m (course_of old) proposer now
    is_in tells desk now at up on = era_kept m (course_of old) proposer (up_kept m.disks tells up on) (is.followed.in_eras proposer desk at).1

    renewed_case : (age : ℕ) (middle : View S V) → LeavesRound (Renews m.disks key tomb age) (closed_by (answer.Aged age) (cause.Aged age)) old proposer middle
        → IsRemembered m (collecting middle by.at.order None (record (confirmed_step c) { ages = c.ages ++ age ∷ [] }))
    renewed_case age middle leaves = record {
      followed = same_course m old (collecting middle by.at.order None next) (left_course (Renews m.disks key tomb age) (closed_by (answer.Aged age) (cause.Aged age)) old middle proposer leaves)
          (logged m is.followed.cluster global _ (counsels m is.followed.cluster global middle _ (whole.parties.council.0, whole.parties.council.1, whole.parties.council.2, next_known) whole)
          (is.followed.logged.agrees.marks ∙ sym (ap (λ (l : List Mark). reverse l) (left_marks (Renews m.disks key tomb age) (closed_by (answer.Aged age) (cause.Aged age)) old middle proposer leaves))))
          is.followed.course (left_in m (course_of old) (Renews m.disks key tomb age) (closed_by (answer.Aged age) (cause.Aged age)) old middle proposer (λ desk now at turns. is_in disks desk now at turns.up turns.goes_on) leaves is.followed.in_eras);
      renewed = λ one p a d same at at_d. subst (λ (x : CollectionView). IsRenewed m.disks x.course.key (tomb_of x.tombstone) a d) (some_is same)
          (are p a d (subst (λ (x : CollectionView). IsAt x.ages p a) (sym (some_is same)) at) at_d);
    }
      where
        next : CollectionView
        next = record (confirmed_step c) { ages = c.ages ++ age ∷ [] }

        left : HasLeftRound (Renews m.disks key tomb age) old.desks middle.desks proposer
        left = has_left (Renews m.disks key tomb age) (closed_by (answer.Aged age) (cause.Aged age)) old middle proposer leaves

        whole : Whole m is.followed.cluster global middle
        whole =
            left_whole m is.followed.cluster global old proposer (Renews m.disks key tomb age) (answer.Aged age) (cause.Aged age) middle (closing_age age)
            (around m is.followed.cluster global old proposer (whole_of m old is.followed.logged))
            (is.followed.logged.agrees.callers proposer) (is.followed.logged.agrees.own proposer) is.followed.logged.agrees.late
            (λ desk now caller at at_caller turns. quiet_renewed m is.followed.cluster global.log global.made proposer (era_at old proposer).number caller (queue_at old.flow proposer).messages key tomb age desk now disks
            (is.followed.logged.agrees.desks proposer desk caller at at_caller) turns) leaves

        known : IsCollectionTrue is.followed.cluster global.log c
        known = known_of m old is.followed c by.at.is_collection

        step_is : IsBeforeAges next.course.step
        step_is = subst (λ (s : CollectStep). IsBeforeAges (step_after c.course.proposers s)) (sym by.is_due) (after_renewal c.course.proposers proposer)

        own_desk : IsDeskTrue m is.followed.cluster global.log global.made (era_at old proposer).number proposer by.caller (queue_at old.flow proposer).messages left.desk
        own_desk = is.followed.logged.agrees.desks proposer left.desk by.caller left.at by.at_caller

        -- what it asked before is no older than its vault
        younger : (request : Request) → Stands (Asked request) global.log → request.from ≡ proposer → request.age < age
        younger request stands own = omega (arith, (own_desk.vault.ages request stands own).kept, left.turns.one_more)

        next_known : IsCollectionTrue is.followed.cluster global.log next
        next_known = record {
          tombstone = known.tombstone;
          entered = known.entered;
          taken = λ past. known.taken (ap is_round by.is_due);
          none_yet = λ e. absurd (cc (e, step_is.no_round));
          ended = λ past. known.ended (ap is_round by.is_due);
          older = λ p a request at stands own round same low. elim (at_snoc c.ages age p a at) [
            | inl before ↦ known.older p a request before stands own round same low
            | inr last ↦ subst (λ (n : ℕ). request.age < n) last.1 (younger request stands (own ∙ last.0 ∙ by.in_order))
          ];
          told_alone = λ t members request least same stands tells. absurd (cc ((known.told_alone t members request least same stands tells).0, ap may_tell_ages by.is_due));
          told = λ past. absurd (cc (past, step_is.no_floor));
          floor = λ past. absurd (cc (past, step_is.not_after));
        }

        before : AreRenewed m middle
        before =
            left_renewed m old middle proposer (Renews m.disks key tomb age) (closed_by (answer.Aged age) (cause.Aged age))
            (λ desk now turns. renews_above m.disks key tomb age desk now disks turns) leaves is.renewed

        are : (p a : ℕ) (d : DeskView V) → IsAt next.ages p a → IsAt middle.desks p d → IsRenewed m.disks key tomb a d
        are p a d at at_d = elim (at_snoc c.ages age p a at) [
          | inl already ↦ before c p a d (left_collection old middle proposer (Renews m.disks key tomb age) (closed_by (answer.Aged age) (cause.Aged age)) leaves ∙ by.at.is_collection) already at_d
          | inr last ↦ subst (λ (n : ℕ). IsRenewed m.disks key tomb n d) last.1
              (subst (λ (x : DeskView V). IsRenewed m.disks key tomb age x)
              (sym (own_set old.desks proposer left.now d (subst (λ (q : ℕ). IsAt (slice_set old.desks proposer left.now) q d) (last.0 ∙ by.in_order) (subst (λ (l : List (DeskView V)). IsAt l p d) left.desks at_d))))
              (now_renewed m.disks key tomb age left.desk left.now disks own_desk.one_each left.turns))
        ]

    by_case : RenewsNext m old by.at proposer by.desk new → IsRemembered m new
    by_case (collect.renews age middle leaves view) = subst (IsRemembered m) (sym view) (renewed_case age middle leaves)
    by_case (collect.is_down down view) = subst (IsRemembered m) (sym view) (told_remembered m old _ is)
    by_case (collect.fails middle down view) = subst (IsRemembered m) (sym view) (told_remembered m middle _ (fails_renewal m old proposer _ middle disks is down))
    by_case (collect.is_spent up spent view) = subst (IsRemembered m) (sym view) (told_remembered m old _ is)
    by_case (collect.no_memory now up finds view) =
        subst (IsRemembered m) (sym view) (told_remembered m (with_desk old proposer now) _ (moves_on m old proposer by.desk now disks is by.at_desk up finds.desk finds.goes_on))

-- ---- once all are renewed
-- a proposer that is known was renewed
age_of : {S V : Type 0} (view : View S V) (c : CollectionView) → IsRenewedBy view c → (id : ℕ) → id ≤ view.last_proposer → (age : ℕ) × IsAt c.ages id age
age_of view c of id low = at_low c.ages id (omega (arith, low, of.all_renewed))

-- the members of the collection's era are all of its era's cluster
era_of : {S V : Type 0} (m : Meaning S V) (view : View S V) (is : IsFollowed m view) (c : CollectionView) → IsRenewedBy view c → IsEraOf is.cluster c.course.era
era_of m view is c of = subst (IsEraOf is.cluster) (sym of.same_era) (is.logged.agrees.eras 0 (omega arith))

-- no era is beyond it
none_later : {S V : Type 0} (m : Meaning S V) (view : View S V) (is : IsFollowed m view) (c : CollectionView) → IsRenewedBy view c → (number acceptor : ℕ) → suc c.course.era.number ≤ number
    → has_member (is.cluster.members number) acceptor ≡ true → ⊥
none_later {S} {V} m view is c of number acceptor far member =
    let on : IsCourseOf is.cluster (course view.last_proposer view.eras None (entries_in view.marks)) =
    subst (λ (p : Option PlanView). IsCourseOf is.cluster (course view.last_proposer view.eras p (entries_in view.marks))) of.none_planned is.course in
    let none = on.none_beyond number (omega (arith, far, ap (λ (e : Era). e.number) of.same_era)) in
    cc (sym (ap (λ (l : List ℕ). has_member l acceptor) none.members) ∙ member)

-- who asks in a round is known
asker_known : (cluster : Cluster) (log : List Happening) (request : Request) → Orderly cluster log → Stands (Asked request) log → IsRoundAsk request.ask → request.from ≤ cluster.last_proposer
asker_known cluster log request orderly stands round =
    let may : MayAsk cluster stands.older request request.ask = reason cluster orderly stands.at in
    let ask_for = round_asked cluster stands.older request request.ask round may in
    let drawn = ask_for.drawn in
    let draw : MayDraw cluster drawn.older _ _ _ = reason cluster (orderly_older cluster orderly stands.at) drawn.at in
    subst (λ (n : ℕ). n ≤ cluster.last_proposer) ask_for.own draw.known

-- what was asked of a member for the key at or below the tombstone is too old for it, once all were told the new ages
aged_by_ages : {S V : Type 0} (m : Meaning S V) (view : View S V) (is : IsFollowed m view) (c : CollectionView) → IsRenewedBy view c → is_after_ages c.course.step ≡ true
    → IsCollectionTrue is.cluster is.logged.global.log c
    → (acceptor : ℕ) → has_member (is.cluster.members c.course.era.number) acceptor ≡ true → IsAgedOut is.logged.global.log acceptor c.course.key (tomb_of c.tombstone)
aged_by_ages m view is c of past known acceptor member = record {
  aged = λ request stands to round same low.
      let age = age_of view c of request.from (omega (arith, asker_known is.cluster is.logged.global.log request is.logged.history.orderly stands round, is.logged.agrees.last_proposer)) in
      omega (arith, known.older request.from age.0 request age.1 stands refl round same low, known.told past acceptor request.from age.0 member age.1);
}

-- all members of its era, and of later ones, are clear of the tombstone
clear_of_tomb : {S V : Type 0} (m : Meaning S V) (view : View S V) (is : IsFollowed m view) (c : CollectionView) → (of : IsRenewedBy view c) → is_round c.course.step ≡ false
    → is_after_ages c.course.step ≡ true → IsCollectionTrue is.cluster is.logged.global.log c
    → IsFloorClear is.cluster is.logged.global.log c.course.key (tomb_of c.tombstone)
clear_of_tomb m view is c of past told known = record {
  era = c.course.era.number;
  all_in = known.entered;
  clear = λ number acceptor low member. elim (le_or_lt number c.course.era.number) [
    | inl few ↦
        let same : number ≡ c.course.era.number = omega (arith, few, low) in
        let took = known.taken past acceptor (subst (λ (n : ℕ). has_member (is.cluster.members n) acceptor ≡ true) same member) in
        took_it took.0 took.1
    | inr far ↦ absurd (none_later m view is c of number acceptor far member)
  ];
  aged = λ number acceptor low member. elim (le_or_lt number c.course.era.number) [
    | inl few ↦
        let same : number ≡ c.course.era.number = omega (arith, few, low) in
        aged_by_ages m view is c of told known acceptor (subst (λ (n : ℕ). has_member (is.cluster.members n) acceptor ≡ true) same member)
    | inr far ↦ absurd (none_later m view is c of number acceptor far member)
  ];
}

makes_floor : {S V : Type 0} (m : Meaning S V) (old : View S V) (new : View S V) → IsRemembered m old → StepMakeFloor old new → IsRemembered m new
makes_floor {S} {V} m old new is by =
    subst (IsRemembered m) (sym (by.view ∙ ap (λ (x : CollectionView). with_marks (collecting old by.at.order None (record x { reserved = 0 })) (Floor key tomb Empty ∷ [])) next_is)) (record {
      followed = record {
        cluster = is.followed.cluster;
        logged = marked m is.followed.cluster (with_mark global h) (collecting old by.at.order None next) (Floor key tomb Empty ∷ []) (marks_of global.log)
            (counsels m is.followed.cluster (with_mark global h) old _ (floored.parties.council.0, floored.parties.council.1, floored.parties.council.2, next_known) floored) is.followed.logged.agrees.marks refl;
        course = subst (λ (l : List EraEntry). IsCourseOf is.followed.cluster (course old.last_proposer old.eras old.council.plan l)) (sym no_entry) is.followed.course;
        in_eras = λ id desk at. subst (λ (l : List EraEntry). (id ≤ old.last_proposer) × IsInEra m (course old.last_proposer old.eras old.council.plan l) id desk) (sym no_entry) (is.followed.in_eras id desk at);
      };
      renewed = renewed_same m old by.at.order None c next by.at.is_collection refl refl refl is.renewed;
    })
  where
    c : CollectionView
    c = by.at.collection

    key : List ℕ
    key = c.course.key

    tomb : Ballot
    tomb = tomb_of c.tombstone

    global : GlobalState
    global = is.followed.logged.global

    h : Happening
    h = floor_mark key tomb

    next : CollectionView
    next = record c { course = record c.course { confirmed = with_step c.course.confirmed c.course.step; step = Remove }; reserved = 0 }

    next_is : confirmed_step c ≡ record c { course = record c.course { confirmed = with_step c.course.confirmed c.course.step; step = Remove } }
    next_is = ap (λ (s : CollectStep). record c { course = record c.course { confirmed = with_step c.course.confirmed c.course.step; step = step_after c.course.proposers s } }) by.is_due

    whole : Whole m is.followed.cluster global old
    whole = whole_of m old is.followed.logged

    known : IsCollectionTrue is.followed.cluster global.log c
    known = known_of m old is.followed c by.at.is_collection

    sought : IsTombstoneTrue global.log key c.course.era.number by.is_renewed.ballot by.is_renewed.by
    sought = subst (IsSoughtTrue global.log key c.course.era.number) by.is_renewed.acknowledged known.tombstone

    same_tomb : tomb ≡ by.is_renewed.ballot
    same_tomb = ap tomb_of by.is_renewed.acknowledged

    history : HasHistory is.followed.cluster (with_mark global h)
    history = happens is.followed.cluster whole.meets global whole.history (MakesFloor key tomb (record {
      made = subst (λ (b : Ballot). IsEmptyAt (marks_of global.log) key b) (sym same_tomb) (c.course.era.number, sought.made);
      acked = subst (λ (b : Ballot). IsAcked key b (marks_of global.log)) (sym same_tomb) sought.acked;
      clear = clear_of_tomb m old is.followed c by.is_renewed (ap is_round by.is_due) (ap is_after_ages by.is_due) known;
    }))

    still : IsCollectionTrue is.followed.cluster (h ∷ global.log) c
    still = collection_still is.followed.cluster h global.log (Some c) history.lawful (λ request now. absurd (cc now)) known

    floored : Whole m is.followed.cluster (with_mark global h) old
    floored = whole_floored m is.followed.cluster global old key tomb
        (λ id desk at low. let age = age_of old c by.is_renewed id low in (age.0, is.renewed c id age.0 desk by.at.is_collection age.1 at)) (
          exchange_still is.followed.cluster h global.log old.council.exchange (λ request now. absurd (cc now)) whole.parties.council.0,
          subst (IsPlanTrue is.followed.cluster (h ∷ global.log)) (sym by.is_renewed.none_planned) tt,
          whole.parties.council.2,
          subst (IsCollectingTrue is.followed.cluster (h ∷ global.log)) (sym by.at.is_collection) still,
        ) history whole

    next_known : IsCollectionTrue is.followed.cluster (h ∷ global.log) next
    next_known = record {
      tombstone = still.tombstone;
      entered = still.entered;
      taken = λ past. still.taken (ap is_round by.is_due);
      none_yet = λ e. absurd (cc e);
      ended = λ past. still.ended (ap is_round by.is_due);
      older = still.older;
      told_alone = λ t members request least same stands tells. (refl, (still.told_alone t members request least same stands tells).1);
      told = λ past. still.told (ap is_after_ages by.is_due);
      floor = λ past. record { older = marks_of global.log; at = here };
    }

    no_entry : entries_in (old.marks ++ Floor key tomb Empty ∷ []) ≡ entries_in old.marks
    no_entry = entries_more old.marks
      where
        entries_more : (marks : List Mark) → entries_in (marks ++ Floor key tomb Empty ∷ []) ≡ entries_in marks
        entries_more [] = refl
        entries_more (EraEntered proposer era ∷ marks) = ap (λ (l : List EraEntry). record { proposer = proposer; era = era } ∷ l) (entries_more marks)
        entries_more (other ∷ marks) = entries_more marks

age_asked : (f : ℕ → Request) (tos : List ℕ) (log : List Happening) (acceptor proposer : ℕ) → age_told (asked_log f tos log) acceptor proposer ≡ age_told log acceptor proposer
age_asked f tos log acceptor proposer = asked_all f (λ l. age_told l acceptor proposer ≡ age_told log acceptor proposer) (λ to l same. same) tos log refl

-- what a collection asks is of its key, and of no round
question_key : (c : CollectionView) (question : Question) → IsQuestionOf c question → tag_key question ≡ c.course.key
question_key c question (collect.tells_ages due is) = ap tag_key is
question_key c question (collect.removes due is) = ap tag_key is

question_no_round : (c : CollectionView) (question : Question) (tag : Ballot) (to : ℕ) → IsQuestionOf c question → IsRoundAsk (ask_of tag question to) → ⊥
question_no_round c question tag to (collect.tells_ages due is) round = subst (λ (q : Question). IsRoundAsk (ask_of tag q to)) is round
question_no_round c question tag to (collect.removes due is) round = subst (λ (q : Question). IsRoundAsk (ask_of tag q to)) is round

-- it tells ages just where they are to be told, and these
question_ages : (c : CollectionView) (question : Question) (tag one : Ballot) (to : ℕ) (least : LeastAges) → IsQuestionOf c question → ask_of tag question to ≡ ask.Ages one least
    → (may_tell_ages c.course.step ≡ true) × (least ≡ ages_of c.ages)
question_ages c question tag one to least (collect.tells_ages due is) asks =
    let told : ask.Ages tag (ages_of c.ages) ≡ ask.Ages one least = ap (λ (q : Question). ask_of tag q to) (sym is) ∙ asks in (ap may_tell_ages due, cc told)
question_ages c question tag one to least (collect.removes due is) asks = let told : ask.Remove c.course.key tag ≡ ask.Ages one least = ap (λ (q : Question). ask_of tag q to) (sym is) ∙ asks in absurd (cc told)

-- what is known of a tombstone stays as requests are made
tomb_asked : (f : ℕ → Request) (tos : List ℕ) (log : List Happening) (key : List ℕ) (era : ℕ) (tomb : Ballot) (members : List ℕ) → IsTombstoneTrue log key era tomb members
    → IsTombstoneTrue (asked_log f tos log) key era tomb members
tomb_asked f tos log key era tomb members was = record {
  own = was.own;
  drawn = asked_later f tos log was.drawn;
  made = subst (λ (l : List Mark). IsMadeState l key tomb era Empty) (sym (asked_marks f tos log)) was.made;
  proposal = was.proposal;
  proposed = subst (Stands (Proposed was.proposal)) (sym (asked_marks f tos log)) was.proposed;
  same_ballot = was.same_ballot;
  by_operator = was.by_operator;
  acked = subst (IsAcked key tomb) (sym (asked_marks f tos log)) was.acked;
  taken = λ acceptor member. let took = was.taken acceptor member in (took.0, asked_later f tos log took.1);
}

sought_asked : (f : ℕ → Request) (tos : List ℕ) (log : List Happening) (key : List ℕ) (era : ℕ) (tombstone : Tombstone) → IsSoughtTrue log key era tombstone
    → IsSoughtTrue (asked_log f tos log) key era tombstone
sought_asked f tos log key era (Acknowledged tomb members) was = tomb_asked f tos log key era tomb members was
sought_asked f tos log key era other was = was

asks_collection : {S V : Type 0} (m : Meaning S V) (old : View S V) (new : View S V) → m.disks.tells → IsRemembered m old → StepAskCollect m old new → IsRemembered m new
asks_collection {S} {V} m old new disks is by = by_case by.asks
  where
    c : CollectionView
    c = by.may.at.collection

    tomb : Ballot
    tomb = tomb_of c.tombstone

    global : GlobalState
    global = is.followed.logged.global

    whole : Whole m is.followed.cluster global old
    whole = whole_of m old is.followed.logged

    known : IsCollectionTrue is.followed.cluster global.log c
    known = known_of m old is.followed c by.may.at.is_collection

    sought : IsTombstoneTrue global.log c.course.key c.course.era.number by.may.is_renewed.ballot by.may.is_renewed.by
    sought = subst (IsSoughtTrue global.log c.course.key c.course.era.number) by.may.is_renewed.acknowledged known.tombstone

    same_tomb : tomb ≡ by.may.is_renewed.ballot
    same_tomb = ap tomb_of by.may.is_renewed.acknowledged

    -- each of them may be asked
    askable : (question : Question) (age : ℕ) → IsQuestionOf c question → (rest : List ℕ) (to : ℕ) → Has to (everyone old)
        → IsAskable is.followed.cluster (asked_global global (question_to age tomb question) rest) (question_to age tomb question to)
    askable question age (collect.tells_ages due same) rest to h =
        subst (λ (q : Question). IsAskable is.followed.cluster (asked_global global (question_to age tomb question) rest) (question_to age tomb q to)) (sym same) (record {
          may = tt;
          made = tt;
          ended = subst (λ (l : List Mark). HasEnded l tomb) (sym (asked_marks (question_to age tomb question) rest global.log)) (known.ended (ap is_round due));
          from = omega arith;
          to = (everyone_within is.followed.cluster old (is.followed.logged.agrees.eras 0 (omega arith)) to h).1;
        })
    askable question age (collect.removes due same) rest to h =
        let within = everyone_within is.followed.cluster old (is.followed.logged.agrees.eras 0 (omega arith)) to h in
        let member : has_member (is.followed.cluster.members c.course.era.number) to ≡ true =
        subst (λ (e : Era). has_member (is.followed.cluster.members e.number) to ≡ true) (sym by.may.is_renewed.same_era) within.0 in
        subst (λ (q : Question). IsAskable is.followed.cluster (asked_global global (question_to age tomb question) rest) (question_to age tomb q to)) (sym same) (record {
          may = (
            record { state = Empty; stands = subst (Stands (Floor c.course.key tomb Empty)) (sym (asked_marks (question_to age tomb question) rest global.log)) (known.floor (ap is_after_floor due)) },
            subst (IsAcked c.course.key tomb) (sym (asked_marks (question_to age tomb question) rest global.log))
                (subst (λ (b : Ballot). IsAcked c.course.key b (marks_of global.log)) (sym same_tomb) sought.acked),
            record {
              aged = λ request stands to_it round same_key low. elim (asked_now (question_to age tomb question) rest global.log stands) [
                | inl now ↦ absurd (question_no_round c question tomb now.0 (collect.removes due same) (subst (λ (r : Request). IsRoundAsk r.ask) now.1 round))
                | inr before ↦
                    let aged_out = aged_by_ages m old is.followed c by.may.is_renewed (ap is_after_ages due) known to member in
                    omega (arith, aged_out.aged request before to_it round same_key low, age_asked (question_to age tomb question) rest global.log to request.from)
              ];
            },
          );
          made = tt;
          ended = tt;
          from = omega arith;
          to = within.1;
        })

    asked : (question : Question) (flow : FlowView) → IsQuestionOf c question → IsAged m.disks (kept_of by.desk.vault).age by.desk.vault
        → Sends old.flow exchange_place (questions_to (kept_of by.desk.vault).age tomb question (everyone old)) flow
        → IsRemembered m (with_council (record old { flow = flow }) (record old.council { exchange = Some (new_exchange question tomb (everyone old) (length old.marks) None) }))
    asked question flow of aged sends = record {
      followed = same_course m old _ refl
          (logged m is.followed.cluster after _ (counsels m is.followed.cluster after moved (record old.council { exchange = Some (new_exchange question tomb tos (length old.marks) None) }) (
            λ exchange open_. subst (IsExchangeTrue is.followed.cluster after.log) (some_is open_) (record {
              own = subst (λ (b : Ballot). b.proposer ≡ 0) (sym same_tomb) sought.own;
              era = c.course.era.number;
              drawn = subst (λ (k : List ℕ). Stands (Drew tomb k c.course.era.number) after.log) (sym (question_key c question of))
                  (asked_later f tos global.log (subst (λ (b : Ballot). Stands (Drew b c.course.key c.course.era.number) global.log) (sym same_tomb) sought.drawn));
              told = λ place answer told at is_told. absurd (none_told tos place answer told at is_told);
              read = λ key era asks reads. absurd (cc reads);
            }),
            then_.parties.council.1,
            then_.parties.council.2,
            subst (IsCollectingTrue is.followed.cluster after.log) (sym by.may.at.is_collection) next_known,
          ) (reflows m is.followed.cluster after apart flow flows then_))
          (asked_marks f tos global.log ∙ is.followed.logged.agrees.marks)) is.followed.course is.followed.in_eras;
      renewed = is.renewed;
    }
      where
        tos : List ℕ
        tos = everyone old

        age : ℕ
        age = (kept_of by.desk.vault).age

        f : ℕ → Request
        f = question_to age tomb question

        after : GlobalState
        after = asked_global global f tos

        -- what is known of the collection is told apart
        apart : View S V
        apart = with_council old (record old.council { collection = None })

        moved : View S V
        moved = record apart { flow = flow }

        before : Whole m is.followed.cluster global apart
        before = counsels m is.followed.cluster global old _ (whole.parties.council.0, whole.parties.council.1, whole.parties.council.2, tt) whole

        then_ : Whole m is.followed.cluster after apart
        then_ =
            asks_each m is.followed.cluster global apart age tomb question tos by.desk by.may.caller by.may.at_desk by.may.at_caller by.may.idle aged (askable question age of)
            (λ to. (tt, subst (λ (o : Option ExchangeView). IsNoProbeIn o (f to)) (sym by.may.none_asked) tt)) before

        flows : ReFlows after.log old.flow flow
        flows = record {
          others = λ p other. ap (λ (q : QueueView). q.messages) (sends.others p other);
          own = subst (AreMessagesTrue after.log) (sym sends.own) (λ each h. elim (contains_append (queue_at old.flow exchange_place).messages (questions_to age tomb question tos) h) [
            | inl front ↦ then_.parties.own exchange_place each front
            | inr back ↦ asked_messages f tos global.log each back
          ]);
          late = subst (AreMessagesTrue after.log) (sym sends.late) then_.parties.late;
        }

        next_known : IsCollectionTrue is.followed.cluster after.log c
        next_known = record {
          tombstone = sought_asked f tos global.log c.course.key c.course.era.number c.tombstone known.tombstone;
          entered = subst (λ (l : List Mark). (c.course.era.number ≡ 0) ⊎ AllEntered is.followed.cluster c.course.era.number l) (sym (asked_marks f tos global.log)) known.entered;
          taken = λ past acceptor member. let took = known.taken past acceptor member in (took.0, asked_later f tos global.log took.1);
          none_yet = known.none_yet;
          ended = λ past. subst (λ (l : List Mark). HasEnded l tomb) (sym (asked_marks f tos global.log)) (known.ended past);
          older = λ p a request at stands own round same low. elim (asked_now f tos global.log stands) [
            | inl now ↦ absurd (question_no_round c question tomb now.0 of (subst (λ (r : Request). IsRoundAsk r.ask) now.1 round))
            | inr already ↦ known.older p a request at already own round same low
          ];
          told_alone = λ t members request least same stands tells. elim (asked_now f tos global.log stands) [
            | inl now ↦ question_ages c question tomb t now.0 least of (ap (λ (r : Request). r.ask) (sym now.1) ∙ tells)
            | inr already ↦ known.told_alone t members request least same already tells
          ];
          told = λ past acceptor p a member at. subst (λ (n : ℕ). a ≤ n) (sym (age_asked f tos global.log acceptor p)) (known.told past acceptor p a member at);
          floor = λ past. subst (Stands (Floor c.course.key tomb Empty)) (sym (asked_marks f tos global.log)) (known.floor past);
        }

    by_case : AsksCollect m old by.may.at by.desk new → IsRemembered m new
    by_case (collect.asks question flow up of room aged sends view) = subst (IsRemembered m) (sym view) (asked question flow of (aged disks) sends)
    by_case (collect.is_down down view) = subst (IsRemembered m) (sym view) (told_remembered m old _ is)
    by_case (collect.is_full question up of full view) = subst (IsRemembered m) (sym view) (told_remembered m old _ is)
    by_case (collect.no_memory up view) = subst (IsRemembered m) (sym view) (told_remembered m old _ is)

-- ---- what they told
-- the least age that is told of one that was renewed is its new age
ages_at : (ages more : List ℕ) (n p age : ℕ) → p < n → IsAt ages p age → slice_index (take n (ages ++ more)) p ≡ age
ages_at [] more n p age low at = absurd (cc at)
ages_at (a ∷ ages) more zero p age low at = absurd (omega (arith, low))
ages_at (a ∷ ages) more (suc n) zero age low at = some_is at
ages_at (a ∷ ages) more (suc n) (suc p) age low at = ages_at ages more n p age (omega (arith, low)) at

at_length : (xs : List ℕ) (p x : ℕ) → IsAt xs p x → p < length xs
at_length [] p x at = absurd (cc at)
at_length (y ∷ xs) zero x at = omega arith
at_length (y ∷ xs) (suc p) x at = omega (arith, at_length xs p x at)

-- who confirms new ages told that they are set
says_set : (key : List ℕ) (least : LeastAges) (told : Option Tell) → confirms (NewAges key least) told ≡ true → told ≡ Some tell.AgesSet
says_set key least (Some tell.AgesSet) e = refl
says_set key least told e = absurd (cc e)

-- a request of that phase tells ages
record TellsAges (question : Ask) : Type 0 where
  tag : Ballot
  least : LeastAges
  is : question ≡ ask.Ages tag least

tells_ages : (question : Ask) → phase_of question ≡ phase.Ages → TellsAges question
tells_ages (ask.Ages tag least) e = record { tag = tag; least = least; is = refl }
tells_ages question e = absurd (cc e)

-- a member that told so answers no request that is older
set_by : (cluster : Cluster) (log : List Happening) (c : CollectionView) (tomb : Ballot) (members : List ℕ) (question : Question) (acceptor : ℕ) → Orderly cluster log
    → IsCollectionTrue cluster log c → c.tombstone ≡ Acknowledged tomb members
    → phase_for question ≡ phase.Ages → WasToldBy log tomb question acceptor tell.AgesSet → (p age : ℕ) → p ≤ 16 → IsAt c.ages p age → age ≤ age_told log acceptor p
set_by cluster log c tomb members question acceptor orderly known same kind was p age low at =
    omega (arith, now, age_later log acceptor p was.made.replied.at, ap (λ (l : LeastAges). least_age l p) same_least, ages_at c.ages (replicate 17 0) 17 p age (omega (arith, low)) at)
  where
    then_ : List Happening
    then_ = was.made.replied.older

    may : MayReply then_ was.made.request was.reply
    may = reason cluster orderly was.made.replied.at

    asks : TellsAges was.made.request.ask
    asks = tells_ages was.made.request.ask (sym may.phase ∙ was.to_it.phase ∙ kind)

    is_tag : asks.tag ≡ tomb
    is_tag = ap tag_of (sym asks.is) ∙ sym may.tag ∙ was.to_it.tag

    same_least : asks.least ≡ ages_of c.ages
    same_least = (known.told_alone tomb members was.made.request asks.least same (stands_deeper may.asked was.made.replied.at) (asks.is ∙ ap (λ (b : Ballot). ask.Ages b asks.least) is_tag)).1

    told : IsTold then_ was.made.request.to (ask.Ages asks.tag asks.least) tell.AgesSet
    told =
        subst (λ (t : Tell). IsTold then_ was.made.request.to (ask.Ages asks.tag asks.least) t) was.same_tell (subst (λ (a : Ask). IsTold then_ was.made.request.to a was.reply.tell) asks.is may.told)

    now : least_age asks.least p ≤ age_told then_ acceptor p
    now = subst (λ (a : ℕ). least_age asks.least p ≤ age_told then_ a p) (sym may.from ∙ was.same_from) (told p low)

gathers_collection : {S V : Type 0} (m : Meaning S V) (old : View S V) (new : View S V) → IsRemembered m old → StepGatherCollect old new → IsRemembered m new
gathers_collection {S} {V} m old new is by = by_case by.gathers
  where
    c : CollectionView
    c = by.at.collection

    exchange : ExchangeView
    exchange = by.of_exchange.exchange

    log : List Happening
    log = is.followed.logged.global.log

    known : IsCollectionTrue is.followed.cluster log c
    known = known_of m old is.followed c by.at.is_collection

    over : (answer : OpAnswer) → IsRemembered m (gathered old answer)
    over answer = record {
      followed = same_course m old (gathered old answer) refl
          (logged m is.followed.cluster is.followed.logged.global (gathered old answer) (counsels m is.followed.cluster is.followed.logged.global old _
          (λ exchange open_. absurd (cc open_), is.followed.logged.agrees.council.1, is.followed.logged.agrees.council.2, is.followed.logged.agrees.council.3) (whole_of m old is.followed.logged)) is.followed.logged.agrees.marks)
          is.followed.course is.followed.in_eras;
      renewed = is.renewed;
    }

    -- all members of its era were asked
    asked_all_of : (acceptor : ℕ) → has_member (is.followed.cluster.members c.course.era.number) acceptor ≡ true → has_member exchange.members acceptor ≡ true
    asked_all_of acceptor member =
        let prep : List ℕ = (era_at old 0).prep in
        let acc : List ℕ = (era_at old 0).acc in
        let accepts : has_member acc acceptor ≡ true =
        accepts_all m old is.followed by.is_renewed.none_planned acceptor (subst (λ (e : Era). has_member (is.followed.cluster.members e.number) acceptor ≡ true) by.is_renewed.same_era member) in
        let low : acceptor < 64 = member_low acc acceptor (is.followed.logged.agrees.eras 0 (omega arith)).acc_set accepts in
        subst (λ (l : List ℕ). has_member l acceptor ≡ true) (sym by.members)
        (has-members_where (λ n. has_member prep n || has_member acc n) acceptor low ∙ or_right (has_member prep acceptor) (has_member acc acceptor) accepts)

    is_told : IsExchangeTrue is.followed.cluster log exchange
    is_told = is.followed.logged.agrees.council.0 exchange by.of_exchange.is_open

    set_at : c.course.step ≡ Ages → exchange.question ≡ NewAges c.course.key (ages_of c.ages)
        → ((acceptor : ℕ) → has_member exchange.members acceptor ≡ true → has_member (confirmers_in exchange.question exchange.told) acceptor ≡ true)
        → (acceptor p age : ℕ) → has_member (is.followed.cluster.members c.course.era.number) acceptor ≡ true → IsAt c.ages p age → age ≤ age_told log acceptor p
    set_at due asks all acceptor p age member at =
        let confirmed = members_where_tells (λ a. confirms exchange.question (told_by exchange.told a)) acceptor (all acceptor (asked_all_of acceptor member)) in
        let said = answer_of exchange.told acceptor tell.AgesSet (says_set c.course.key (ages_of c.ages) (told_by exchange.told acceptor) (subst (λ (q : Question). confirms q (told_by exchange.told acceptor) ≡ true) asks confirmed)) in
        let was = subst (λ (a : ℕ). WasToldBy log exchange.tag exchange.question a tell.AgesSet) said.same (is_told.told said.place said.answer tell.AgesSet said.at said.is_told) in
        set_by is.followed.cluster log c by.is_renewed.ballot by.is_renewed.by exchange.question acceptor is.followed.logged.history.orderly known by.is_renewed.acknowledged (ap phase_for asks)
        (subst (λ (b : Ballot). WasToldBy log b exchange.question acceptor tell.AgesSet) (by.tag ∙ ap tomb_of by.is_renewed.acknowledged) was) p age
        (omega (arith, at_length c.ages p age at, by.is_renewed.all_renewed, is.followed.logged.agrees.few)) at

    confirmed_at : CollectStep → ℕ → ℕ → CollectionView
    confirmed_at next removed kept = record c { course = record c.course { confirmed = with_step c.course.confirmed c.course.step; step = next }; removed = removed; kept = kept }

    confirmed_in : (next : CollectStep) (removed kept : ℕ) → IsCollectionTrue is.followed.cluster log (confirmed_at next removed kept)
        → IsRemembered m (with_council old (record (collecting old by.at.order None (confirmed_at next removed kept)).council { exchange = None }))
    confirmed_in next removed kept now = record {
      followed = same_course m old _ refl
          (logged m is.followed.cluster is.followed.logged.global _ (counsels m is.followed.cluster is.followed.logged.global old _
          (λ exchange open_. absurd (cc open_), is.followed.logged.agrees.council.1, is.followed.logged.agrees.council.2, now) (whole_of m old is.followed.logged)) is.followed.logged.agrees.marks)
          is.followed.course is.followed.in_eras;
      renewed = renewed_same m old by.at.order None c (confirmed_at next removed kept) by.at.is_collection refl refl refl is.renewed;
    }

    ages_told : (removed kept : ℕ) → c.course.step ≡ Ages
        → ((acceptor p age : ℕ) → has_member (is.followed.cluster.members c.course.era.number) acceptor ≡ true → IsAt c.ages p age → age ≤ age_told log acceptor p)
        → IsCollectionTrue is.followed.cluster log (confirmed_at FloorStep removed kept)
    ages_told removed kept due told = record {
      tombstone = known.tombstone;
      entered = known.entered;
      taken = λ past. known.taken (ap is_round due);
      none_yet = λ e. absurd (cc e);
      ended = λ past. known.ended (ap is_round due);
      older = known.older;
      told_alone = λ t members request least same stands tells. (refl, (known.told_alone t members request least same stands tells).1);
      told = λ past acceptor p age member at. told acceptor p age member at;
      floor = λ past. absurd (cc past);
    }

    all_removed : (removed kept : ℕ) → c.course.step ≡ Remove → IsCollectionTrue is.followed.cluster log (confirmed_at End removed kept)
    all_removed removed kept due = record {
      tombstone = known.tombstone;
      entered = known.entered;
      taken = λ past. known.taken (ap is_round due);
      none_yet = λ e. absurd (cc e);
      ended = λ past. known.ended (ap is_round due);
      older = known.older;
      told_alone = λ t members request least same stands tells. (refl, (known.told_alone t members request least same stands tells).1);
      told = λ past. known.told (ap is_after_ages due);
      floor = λ past. known.floor (ap is_after_floor due);
    }

    by_question : (removed kept : ℕ) → IsQuestionOf c exchange.question
        → ((acceptor : ℕ) → has_member exchange.members acceptor ≡ true → has_member (confirmers_in exchange.question exchange.told) acceptor ≡ true)
        → IsRemembered m (with_council old (record (collecting old by.at.order None (record (confirmed_step c) { removed = removed; kept = kept })).council { exchange = None }))
    by_question removed kept (collect.tells_ages due asks) all =
        subst (λ (s : CollectStep). IsRemembered m (with_council old (record (collecting old by.at.order None (confirmed_at s removed kept)).council { exchange = None })))
        (sym (ap (step_after c.course.proposers) due))
        (confirmed_in FloorStep removed kept (ages_told removed kept due (set_at due asks all)))
    by_question removed kept (collect.removes due asks) all =
        subst (λ (s : CollectStep). IsRemembered m (with_council old (record (collecting old by.at.order None (confirmed_at s removed kept)).council { exchange = None })))
        (sym (ap (step_after c.course.proposers) due))
        (confirmed_in End removed kept (all_removed removed kept due))

    by_case : GathersCollect old by.at exchange new → IsRemembered m new
    by_case (collect.crashed crashed view) = subst (IsRemembered m) (sym view) (over _)
    by_case (collect.all up all view) = subst (IsRemembered m) (sym view) (by_question _ _ by.asks all)
    by_case (collect.is_absent acceptor up least view) = subst (IsRemembered m) (sym view) (over _)

-- ---- all of them
pub keeps : {S V : Type 0} (m : Meaning S V) (old : View S V) (event : Event) (new : View S V) → m.shelves.tells → m.disks.tells → IsRemembered m old → Step m old event new → IsRemembered m new
keeps m old (step.BeginCollect key) new shelves disks is by = begins_collection m old key new shelves disks is by
keeps m old step.ReadHeld new shelves disks is by = reads_held m old new disks is by
keeps m old step.CountCollect new shelves disks is by = counts_collection m old new shelves disks is by
keeps m old (step.EndCollect answer) new shelves disks is by = ends_collection m old answer new shelves disks is by
keeps m old step.GatherRound new shelves disks is by = gathers_round m old new is by
keeps m old (step.Renew proposer) new shelves disks is by = renews m old proposer new disks is by
keeps m old step.AskCollect new shelves disks is by = asks_collection m old new disks is by
keeps m old step.GatherCollect new shelves disks is by = gathers_collection m old new is by
keeps m old step.MakeFloor new shelves disks is by = makes_floor m old new is by
keeps m old event new shelves disks is by = plainly m old event new shelves disks tt is by
