-- The collection that is under way stays as it is to be, whatever is called on a cluster.
use Rattle.std.proofs.Common.{◌≡◌, ℕ, zero, suc, Bool, true, false, List, [], ◌∷◌, length, Option, None, Some, refl, sym, ap, subst, ◌∙◌}
use Rattle.std.specs.Prelude.{option_map, if◌then◌else◌, slice_set}
use Rattle.cas_ballot.specs.declared.ballot.Ballot.{Ballot}
use Rattle.cas_ballot.specs.Members.{union_of}
use Rattle.cas_change.specs.declared.program.Clause.{Clause}
use Rattle.cas_collect.specs.Order.{IsStepOf}
use Rattle.cas_fate.specs.declared.fate.Verdict.{Verdict}
use Rattle.cas_flow.specs.Message.{head_of}
use Rattle.cas_flow.specs.declared.message.Message.{Message}
use Rattle.cas_proposer.specs.Desk.{DeskView}
use Rattle.cas_quorum.specs.declared.era.Era.{Era}
use Rattle.cas_record.specs.declared.answer.Answer.{Answer}
use Rattle.cas_record.specs.declared.operator.Asked.{Asked}
use Rattle.cas_record.specs.declared.operator.Asked.TheVariants as asked
use Rattle.cas_record.specs.declared.operator.OpAnswer.{OpAnswer}
use Rattle.cas_vault.specs.Vault.{kept_of}
use Rattle.cas_model.specs.Council.{Question, Probe, NextKeys, NewAges, Removal, ExchangeView, OrderView, PlanView, Council, at_rest, broken_off, told_so, telling}
use Rattle.cas_model.specs.Eras.Course.{era_shown}
use Rattle.cas_model.specs.Safe.{renewals_before, IsAcknowledgedByAll, is_of_collection, IsCollectingIn, IsCollectingSafe}
use Rattle.cas_model.specs.Step as step
use Rattle.cas_model.specs.Step.{StepBegin, StepTurn, StepPropose, StepCount, StepCrashAcceptor, StepRestartAcceptor, StepRestartProposer}
use Rattle.cas_model.specs.Calls.Step as calls
use Rattle.cas_model.specs.Calls.Step.{Rescans, RefusesCall}
use Rattle.cas_model.specs.Collection.Step.{IsQuestionOf}
use Rattle.cas_model.specs.Exchanges.Step as council
use Rattle.cas_model.specs.Exchanges.Step.{told_view, IsForQuestion, listing_begun, new_exchange, plan_asked, StepOrder, StepTell, StepAskAll, StepTurnExchange, StepGather}
use Rattle.cas_model.specs.Frames.Step as frames
use Rattle.cas_model.specs.Eras.Step as plans
use Rattle.cas_model.specs.Eras.Step.{StepOpenPlan, IsPlanned, Welcomes, StepEnterEra}
use Rattle.cas_model.specs.Stops.Step as stops
use Rattle.cas_model.specs.Stops.Step.{LeavesRound, GoesDown, broken_off_view}
use Rattle.cas_model.specs.View.{Meaning, View, CallView, era_at, era_in, with_desk}
use Rattle.cas_model.proofs.Places.{some_is}
use Rattle.cas_record.specs.declared.operator.OpAnswer.TheVariants.{Probed}

-- ---- what it depends on
pub record Frame : Type 0 where
  pub council : Council
  pub era : Era
  pub last_proposer : ℕ

abbrev pub frame_of : {S V : Type 0} → View S V → Frame
frame_of view = record { council = view.council; era = era_at view 0; last_proposer = view.last_proposer }

abbrev pub IsCollectingBy : Frame → Type 0
IsCollectingBy frame = IsCollectingIn frame.council frame.era frame.last_proposer

-- the same then
pub same_collecting : {S V : Type 0} (old new : View S V) → frame_of new ≡ frame_of old → IsCollectingSafe old → IsCollectingSafe new
same_collecting old new same was = subst IsCollectingBy (sym same) was

-- a call that asked for a collection is open still, and it is in the same era
record IsStillAsked (old new : Frame) (order : OrderView) : Type 0 where
  pub order_now : OrderView
  pub is_open : new.council.order ≡ Some order_now
  pub asked : order_now.asked ≡ order.asked
  pub none_planned : new.council.plan ≡ None
  pub era : new.era ≡ old.era

record HadExchange (council : Council) (now : ExchangeView) : Type 0 where
  pub before : ExchangeView
  pub is_open : council.exchange ≡ Some before
  pub question : now.question ≡ before.question
  pub tag : now.tag ≡ before.tag
  pub members : now.members ≡ before.members

-- a call that leaves the collection alone
record LeavesAlone (old new : Frame) : Type 0 where
  pub collection : new.council.collection ≡ old.council.collection
  pub last_proposer : new.last_proposer ≡ old.last_proposer
  pub exchange : (now : ExchangeView) → new.council.exchange ≡ Some now → is_of_collection now.question ≡ true → HadExchange old.council now
  pub order : (order : OrderView) (key : List ℕ) → old.council.order ≡ Some order → order.asked ≡ asked.Collect key → old.council.plan ≡ None → IsStillAsked old new order

left_alone : (old new : Frame) → LeavesAlone old new → IsCollectingBy old → IsCollectingBy new
left_alone old new alone was = record {
  each = λ collection is.
      let of = was.each collection (sym alone.collection ∙ is) in
      let still = alone.order of.order collection.course.key of.is_open of.is_for of.none_planned in
      record {
        order = still.order_now;
        is_open = still.is_open;
        is_for = still.asked ∙ of.is_for;
        none_planned = still.none_planned;
        same_era = of.same_era ∙ sym still.era;
        proposers = of.proposers ∙ sym alone.last_proposer;
        is_step = subst (λ (n : ℕ). IsStepOf n collection.course.step) (sym alone.last_proposer) of.is_step;
        calling = of.calling;
        ages = of.ages ∙ ap (λ (n : ℕ). renewals_before n collection.course.step) (sym alone.last_proposer);
        tomb = of.tomb;
        acknowledged = λ past. subst (λ (e : Era). IsAcknowledgedByAll e collection.tombstone) (sym still.era) (of.acknowledged past);
        reserved = of.reserved;
        few = of.few;
      };
  exchange = λ now is asks.
      let had = alone.exchange now is asks in
      let of = was.exchange had.before had.is_open (ap is_of_collection (sym had.question) ∙ asks) in
      let safe = was.each of.collection of.is_collection in
      let still = alone.order safe.order of.collection.course.key safe.is_open safe.is_for safe.none_planned in
      record {
        collection = of.collection;
        is_collection = alone.collection ∙ of.is_collection;
        asks = subst (IsQuestionOf of.collection) (sym had.question) of.asks;
        tag = had.tag ∙ of.tag;
        members = had.members ∙ of.members ∙ ap (λ (e : Era). union_of e.prep e.acc) (sym still.era);
      };
}

same_exchange : (council : Council) (now : ExchangeView) → council.exchange ≡ Some now → HadExchange council now
same_exchange council now is = record { before = now; is_open = is; question = refl; tag = refl; members = refl }

-- ---- the open call is told something
told_alone : (frame : Frame) (answer : OpAnswer) → LeavesAlone frame (record frame { council = telling frame.council answer })
told_alone frame answer = record {
  collection = refl;
  last_proposer = refl;
  exchange = λ now is asks. same_exchange frame.council now is;
  order = λ order key is_open is_for none. record { order_now = told_so answer order; is_open = ap (option_map (told_so answer)) is_open; asked = refl; none_planned = none; era = refl };
}

pub told_collecting : {S V : Type 0} (old : View S V) (answer : OpAnswer) → IsCollectingSafe old → IsCollectingSafe (told_view old answer)
told_collecting old answer was = left_alone (frame_of old) (frame_of (told_view old answer)) (told_alone (frame_of old) answer) was

-- and the exchange is over
pub gathered_collecting : {S V : Type 0} (old : View S V) (answer : OpAnswer) → IsCollectingSafe old → IsCollectingSafe (council.gathered old answer)
gathered_collecting old answer was = left_alone (frame_of old) (frame_of (council.gathered old answer)) (record {
  collection = refl;
  last_proposer = refl;
  exchange = λ now is asks. absurd (cc is);
  order = λ order key is_open is_for none. record { order_now = told_so answer order; is_open = ap (option_map (told_so answer)) is_open; asked = refl; none_planned = none; era = refl };
}) was

-- ---- calls
pub begin_frame : {S V : Type 0} (m : Meaning S V) (old new : View S V) (id : ℕ) (key : List ℕ) (program : List Clause) → StepBegin m old id key program new → frame_of new ≡ frame_of old
begin_frame {S} {V} m old new id key program by = in_round by.begins ∙ opens by.opens
  where
    opens : calls.Opens old id key program by.middle → frame_of by.middle ≡ frame_of old
    opens (calls.first was at none room is) = ap frame_of is
    opens (calls.again was open_call reserved at open_is key_is program_is none met no_round room some is) = ap frame_of is

    in_round : calls.BeginsRound m by.middle id by.caller by.call new → frame_of new ≡ frame_of by.middle
    in_round (calls.prepares desk now ballot round flow at up few begins sends is) = ap frame_of is
    in_round (calls.proposes desk now ready ride round outcome flow at up few begins made sends is) = ap frame_of is
    in_round (calls.stays told no_beginning no_round full is) = ap frame_of is
    in_round (calls.spent desk now at none up no_promise spent kept now_is is) = ap frame_of is
    in_round (calls.fails desk now at none up fails is) = ap frame_of is
    in_round (calls.loses desk now ballot at none up loses is) = ap frame_of is

-- a key is proposed anew
rescan_alone : (frame : Frame) (id : ℕ) (key : List ℕ) (told : Answer) (next : Council) → Rescans frame.council id key told next → LeavesAlone frame (record frame { council = next })
rescan_alone frame id key told next (calls.is_none none same) = subst (λ (c : Council). LeavesAlone frame (record frame { council = c })) (sym same) (record {
  collection = refl;
  last_proposer = refl;
  exchange = λ now is asks. same_exchange frame.council now is;
  order = λ order asked_key is_open is_for none. record { order_now = order; is_open = is_open; asked = refl; none_planned = none; era = refl };
})
rescan_alone frame id key told next (calls.stops of undone same) = subst (λ (c : Council). LeavesAlone frame (record frame { council = c })) (sym same) (told_alone frame _)
rescan_alone frame id key told next (calls.rescans of done same) = subst (λ (c : Council). LeavesAlone frame (record frame { council = c })) (sym same) (record {
  collection = refl;
  last_proposer = refl;
  exchange = λ now is asks. same_exchange frame.council now is;
  order = λ order asked_key is_open is_for none. absurd (cc (none, of.is_plan));
})

rescan_collecting : {S V : Type 0} (old new : View S V) (id : ℕ) (key : List ℕ) (told : Answer) (next : Council) → Rescans old.council id key told next
    → frame_of new ≡ record (frame_of old) { council = next } → IsCollectingSafe old → IsCollectingSafe new
rescan_collecting old new id key told next by same was =
    subst IsCollectingBy (sym same) (left_alone (frame_of old) (record (frame_of old) { council = next }) (rescan_alone (frame_of old) id key told next by) was)

pub refuse_collecting : {S V : Type 0} (m : Meaning S V) (old new : View S V) (id : ℕ) (key : List ℕ) → RefusesCall m old id key new → IsCollectingSafe old → IsCollectingSafe new
refuse_collecting {S} {V} m old new id key (calls.stays told next why rescan is) was = rescan_collecting old new id key told next rescan (ap frame_of is) was
refuse_collecting {S} {V} m old new id key (calls.loses caller desk now ballot next at_caller at_desk none up loses rescan is) was = rescan_collecting old new id key _ next rescan (ap frame_of is) was

pub turn_frame : {S V : Type 0} (m : Meaning S V) (old new : View S V) (id : ℕ) (v : Verdict) → StepTurn m old id v new → frame_of new ≡ frame_of old
turn_frame {S} {V} m old new id v by = in_turn by.turn
  where
    in_turn : frames.TakesTurn m old id v by.front by.of_call.caller by.of_call.call new → frame_of new ≡ frame_of old
    in_turn (frames.held fall is) = ap frame_of is
    in_turn (frames.gone fall is) = ap frame_of is
    in_turn (frames.answers request acceptor now reply fall front_is there table is) = ap frame_of is
    in_turn (frames.finds_down request acceptor fall front_is there down is) = ap frame_of is
    in_turn (frames.brings_down request acceptor now fall front_is there stops is) = ap frame_of is
    in_turn (frames.arrives reply desk now round heard fall front_is there is_round hears is) = ap frame_of is

pub no_room_frame : {S V : Type 0} (m : Meaning S V) (old new : View S V) → frames.FindsNoRoom m old new → frame_of new ≡ frame_of old
no_room_frame {S} {V} m old new (frames.stays is) = ap frame_of is
no_room_frame {S} {V} m old new (frames.kept at acceptor now there finds is) = ap frame_of is

pub propose_frame : {S V : Type 0} (m : Meaning S V) (old new : View S V) (id : ℕ) → StepPropose m old id new → frame_of new ≡ frame_of old
propose_frame {S} {V} m old new id by = in_phase by.proposes
  where
    in_phase : calls.ProposesOrEnds m old id by.at_round.desk by.at_round.round by.at_round.of_call.caller by.at_round.of_call.call new → frame_of new ≡ frame_of old
    in_phase (calls.proposes now turned read by ride outcome flow quorum confirmers reads turns made sends is) = ap frame_of is
    in_phase (calls.ends now verdict told verdict_is refuses ends is) = ap frame_of is
    in_phase (calls.fails now fails is) = ap frame_of is
    in_phase (calls.loses now ballot loses is) = ap frame_of is

pub count_frame : {S V : Type 0} (m : Meaning S V) (old new : View S V) (id : ℕ) → StepCount m old id new → frame_of new ≡ frame_of old
count_frame {S} {V} m old new id by = in_phase by.counts
  where
    in_phase : calls.CountsOrEnds m old id by.at_round.desk by.at_round.round by.at_round.of_call.caller by.at_round.of_call.call new → frame_of new ≡ frame_of old
    in_phase (calls.counts now by outcome quorum confirmers proposed ends is) = ap frame_of is
    in_phase (calls.ends now verdict why verdict_is cause ends is) = ap frame_of is

pub end_collecting : {S V : Type 0} (m : Meaning S V) (old new : View S V) (id : ℕ) (told : Answer) → step.StepEnd m old id told new → IsCollectingSafe old → IsCollectingSafe new
end_collecting m old new id told by was = rescan_collecting old new id by.of_call.call.key told by.ends.council by.ends.rescans (ap frame_of by.ends.view) was

pub stray_frame : {S V : Type 0} (m : Meaning S V) (old new : View S V) (index : ℕ) (late : Message) → frames.Strays m old index late new → frame_of new ≡ frame_of old
stray_frame {S} {V} m old new index late (frames.answers request acceptor now reply late_is at table is) = ap frame_of is
stray_frame {S} {V} m old new index late (frames.brings_down request acceptor now late_is at stops is) = ap frame_of is
stray_frame {S} {V} m old new index late (frames.arrives reply desk now round heard late_is at is_round hears is) = ap frame_of is
stray_frame {S} {V} m old new index late (frames.drops ignored is) = ap frame_of is

-- ---- stops
pub stop_frame : {S V : Type 0} (m : Meaning S V) (old new : View S V) (id : ℕ) → StepCrashAcceptor m old id new → frame_of new ≡ frame_of old
stop_frame {S} {V} m old new id (step.crashes acceptor now at crashes is) = ap frame_of is

pub start_frame : {S V : Type 0} (m : Meaning S V) (old new : View S V) (id : ℕ) → StepRestartAcceptor m old id new → frame_of new ≡ frame_of old
start_frame {S} {V} m old new id (step.was_up acceptor at up is) = ap frame_of is
start_frame {S} {V} m old new id (step.starts acceptor now at starts is) = ap frame_of is
start_frame {S} {V} m old new id (step.fails acceptor now at fails is) = ap frame_of is

pub left_frame : {S V : Type 0} (DeskTurns : DeskView V → DeskView V → Type 0) (closed : CallView → CallView) (old new : View S V) (id : ℕ) → LeavesRound DeskTurns closed old id new
    → frame_of new ≡ frame_of old
left_frame {S} {V} DeskTurns closed old new id (stops.idle desk now at none turns is) = ap frame_of is
left_frame {S} {V} DeskTurns closed old new id (stops.closes desk now round at there is_round turns is) = ap frame_of is

-- an exchange that is broken off asks what it asked
broken_exchange : (old : Council) (now : ExchangeView) → option_map broken_off old.exchange ≡ Some now → HadExchange old now
broken_exchange old now is = by_exchange old.exchange refl is
  where
    by_exchange : (e : Option ExchangeView) → old.exchange ≡ e → option_map broken_off e ≡ Some now → HadExchange old now
    by_exchange None none is = absurd (cc is)
    by_exchange (Some before) has is = let same = some_is is in record {
      before = before;
      is_open = has;
      question = ap (λ (e : ExchangeView). e.question) (sym same);
      tag = ap (λ (e : ExchangeView). e.tag) (sym same);
      members = ap (λ (e : ExchangeView). e.members) (sym same);
    }

pub broken_collecting : {S V : Type 0} (old : View S V) → IsCollectingSafe old → IsCollectingSafe (broken_off_view old)
broken_collecting old was = left_alone (frame_of old) (frame_of (broken_off_view old)) (record {
  collection = refl;
  last_proposer = refl;
  exchange = λ now is asks. broken_exchange old.council now is;
  order = λ order key is_open is_for none. record { order_now = order; is_open = is_open; asked = refl; none_planned = none; era = refl };
}) was

pub down_collecting : {S V : Type 0} (DeskTurns : DeskView V → DeskView V → Type 0) (old new : View S V) (id : ℕ) → GoesDown DeskTurns old id new → IsCollectingSafe old → IsCollectingSafe new
down_collecting DeskTurns old new id (stops.of_client client leaves) was = same_collecting old new (left_frame DeskTurns stops.closed_by_crash old new id leaves) was
down_collecting {S} {V} DeskTurns old new id (stops.of_operator middle operator leaves is) was =
    same_collecting (broken_off_view middle) new (ap frame_of is) (broken_collecting middle (same_collecting old middle (left_frame DeskTurns stops.closed_by_crash old middle id leaves) was))

-- with no change of membership a proposer that is up again works where it worked
put_again : (eras : List Era) (id : ℕ) (other : Era) → other ≡ era_in eras id → era_in (slice_set eras id other) 0 ≡ era_in eras 0
put_again [] id other same = refl
put_again (era ∷ eras) zero other same = same
put_again (era ∷ eras) (suc id) other same = refl

pub restart_collecting : {S V : Type 0} (m : Meaning S V) (old new : View S V) (id : ℕ) → StepRestartProposer m old id new → IsCollectingSafe old → IsCollectingSafe new
restart_collecting {S} {V} m old new id (step.was_up_already desk at up is) was = same_collecting old new (ap frame_of is) was
restart_collecting {S} {V} m old new id (step.restarts desk now caller at at_c down by is) was = subst (λ (v : View S V). IsCollectingSafe v) (sym is) (by_down now.down)
  where
    now_is : List Era → View S V
    now_is eras = record (with_desk old id now) { eras = eras }

    era_now : Era
    era_now = era_shown old.council.plan (era_at old id) (kept_of now.vault).era

    by_down : (b : Bool) → IsCollectingSafe (now_is (if b then old.eras else slice_set old.eras id era_now))
    by_down true = was
    by_down false = left_alone (frame_of old) (frame_of (now_is (slice_set old.eras id era_now))) (record {
      collection = refl;
      last_proposer = refl;
      exchange = λ open_now at_it asks. same_exchange old.council open_now at_it;
      order = λ order key is_open is_for none. record {
        order_now = order;
        is_open = is_open;
        asked = refl;
        none_planned = none;
        era = put_again old.eras id era_now (ap (λ (p : Option PlanView). era_shown p (era_at old id) (kept_of now.vault).era) none);
      };
    }) was

-- ---- the operator's calls
pub order_collecting : {S V : Type 0} (old new : View S V) (of : Asked) → StepOrder old of new → IsCollectingSafe old → IsCollectingSafe new
order_collecting {S} {V} old new of by was =
    subst (λ (v : View S V). IsCollectingSafe v) (sym by.view)
    (left_alone (frame_of old) (record (frame_of old) { council = record old.council { order = Some (record { asked = of; told = None }) } }) alone was)
  where
    alone : LeavesAlone (frame_of old) (record (frame_of old) { council = record old.council { order = Some (record { asked = of; told = None }) } })
    alone = record {
      collection = refl;
      last_proposer = refl;
      exchange = λ now is asks. same_exchange old.council now is;
      order = λ order key is_open is_for none. absurd (cc (is_open, by.none_open));
    }

-- nothing is under way once it is told its answer
rested_collecting : (council : Council) (era : Era) (last_proposer : ℕ) → IsCollectingIn (at_rest council) era last_proposer
rested_collecting council era last_proposer = record { each = λ collection is. absurd (cc is); exchange = λ now is asks. absurd (cc is) }

pub tell_collecting : {S V : Type 0} (old new : View S V) (answer : OpAnswer) → StepTell old answer new → IsCollectingSafe new
tell_collecting {S} {V} old new answer (council.tells order said is_open told same view) =
    subst (λ (v : View S V). IsCollectingSafe v) (sym view) (rested_collecting old.council (era_at old 0) old.last_proposer)
tell_collecting {S} {V} old new answer (council.finishes order is_open by view) =
    subst (λ (v : View S V). IsCollectingSafe v) (sym view) (rested_collecting (record old.council { plan = None }) (era_at old 0) old.last_proposer)
tell_collecting {S} {V} old new answer (council.collects order is_open by view) =
    subst (λ (v : View S V). IsCollectingSafe v) (sym view) (rested_collecting old.council (era_at old 0) old.last_proposer)

-- all members are asked, and not for a collection
asked_collecting : {S V : Type 0} (old : View S V) (question : Question) (tag : Ballot) (tos : List ℕ) → is_of_collection question ≡ false
    → (old.council.plan ≡ None → plan_asked question tag old.council.plan ≡ None)
    → IsCollectingSafe old → IsCollectingIn (record old.council { exchange = Some (new_exchange question tag tos (length old.marks) (council.read_era old question)); plan = plan_asked question tag old.council.plan }) (era_at old 0) old.last_proposer
asked_collecting old question tag tos apart unplanned was = left_alone (frame_of old) (record (frame_of old) { council = record old.council { exchange = Some (new_exchange question tag tos (length old.marks) (council.read_era old question)); plan = plan_asked question tag old.council.plan } }) (record {
  collection = refl;
  last_proposer = refl;
  exchange = λ now is asks. absurd (cc (apart, asks, ap (λ (e : ExchangeView). is_of_collection e.question) (some_is is)));
  order = λ order key is_open is_for none. record { order_now = order; is_open = is_open; asked = refl; none_planned = unplanned none; era = refl };
}) was

-- what is asked without a collection
asks_apart : (members : List ℕ) (council : Council) (call : Option CallView) (of : Asked) (question : Question) → IsForQuestion members council call of question → is_of_collection question ≡ false
asks_apart members council call of (Probe key) is_for = refl
asks_apart members council call of (NextKeys places) is_for = refl
asks_apart members council call of (NewAges key least) is_for = absurd is_for
asks_apart members council call of (Removal key) is_for = absurd is_for

none_listed : (question : Question) (tag : Ballot) (plan : Option PlanView) → plan ≡ None → plan_asked question tag plan ≡ None
none_listed (Probe key) tag plan none = none
none_listed (NextKeys places) tag plan none = ap (option_map (listing_begun places tag)) none
none_listed (NewAges key least) tag plan none = none
none_listed (Removal key) tag plan none = none

pub ask_collecting : {S V : Type 0} (m : Meaning S V) (old new : View S V) (question : Question) → StepAskAll m old question new → IsCollectingSafe old → IsCollectingSafe new
ask_collecting {S} {V} m old new question by was = in_case by.asks
  where
    in_case : council.AsksAll m old question by.desk new → IsCollectingSafe new
    in_case (council.asks now tag flow up room drawn now_is sends is) = subst (λ (v : View S V). IsCollectingSafe v) (sym is)
        (asked_collecting old question tag (council.asked_by old question) (asks_apart (council.everyone old) old.council by.may.caller.call by.may.order.asked question by.may.is_for) (none_listed question tag old.council.plan) was)
    in_case (council.is_down down is) = same_collecting (told_view old _) new (ap frame_of is) (told_collecting old _ was)
    in_case (council.is_full up full is) = same_collecting (told_view old _) new (ap frame_of is) (told_collecting old _ was)
    in_case (council.is_spent now up spent kept now_is is) = same_collecting (told_view old _) new (ap frame_of is) (told_collecting old _ was)
    in_case (council.fails now up fails is) = same_collecting (told_view old _) new (ap frame_of is) (told_collecting old _ was)
    in_case (council.no_memory now tag up loses is) = same_collecting (told_view old _) new (ap frame_of is) (told_collecting old _ was)

-- the open exchange goes on, and asks what it asked
exchanged_collecting : {S V : Type 0} (old new : View S V) (exchange now : ExchangeView) → old.council.exchange ≡ Some exchange → now.question ≡ exchange.question → now.tag ≡ exchange.tag
    → now.members ≡ exchange.members
    → frame_of new ≡ record (frame_of old) { council = record old.council { exchange = Some now } } → IsCollectingSafe old → IsCollectingSafe new
exchanged_collecting old new exchange now is_open question tag members same was =
    subst IsCollectingBy (sym same) (left_alone (frame_of old) (record (frame_of old) { council = record old.council { exchange = Some now } }) (record {
      collection = refl;
      last_proposer = refl;
      exchange = λ other is asks. let one = some_is is in record {
        before = exchange;
        is_open = is_open;
        question = ap (λ (e : ExchangeView). e.question) (sym one) ∙ question;
        tag = ap (λ (e : ExchangeView). e.tag) (sym one) ∙ tag;
        members = ap (λ (e : ExchangeView). e.members) (sym one) ∙ members;
      };
      order = λ order key is_open is_for none. record { order_now = order; is_open = is_open; asked = refl; none_planned = none; era = refl };
    }) was)

pub turn_collecting : {S V : Type 0} (m : Meaning S V) (old new : View S V) (v : Verdict) → StepTurnExchange m old v new → IsCollectingSafe old → IsCollectingSafe new
turn_collecting {S} {V} m old new v by was = in_turn by.turn
  where
    harmed : (member : ℕ) → frame_of new ≡ record (frame_of old) { council = record old.council { exchange = Some (council.harmed_exchange by.at.exchange member) } } → IsCollectingSafe new
    harmed member same = exchanged_collecting old new by.at.exchange (council.harmed_exchange by.at.exchange member) by.at.is_open refl refl refl same was

    in_turn : council.TurnsExchange m old v by.front by.at.exchange new → IsCollectingSafe new
    in_turn (council.held fall is) = same_collecting old new (ap frame_of is) was
    in_turn (council.gone fall is) = harmed (head_of by.front).1 (ap frame_of is)
    in_turn (council.answers request acceptor now reply fall front_is there table is) = same_collecting old new (ap frame_of is) was
    in_turn (council.finds_down request acceptor fall front_is there down is) = harmed request.to (ap frame_of is)
    in_turn (council.brings_down request acceptor now fall front_is there stops is) = harmed request.to (ap frame_of is)
    in_turn (council.arrives reply fall front_is to_it is) =
        exchanged_collecting old new by.at.exchange (record by.at.exchange { told = council.hears reply by.at.exchange.told }) by.at.is_open refl refl refl (ap frame_of is) was

-- a change of membership goes on, so no collection is under way
planned_alone : (old new : Frame) (plan : PlanView) → old.council.plan ≡ Some plan → new.council.collection ≡ old.council.collection → new.last_proposer ≡ old.last_proposer
    → ((now : ExchangeView) → new.council.exchange ≡ Some now → HadExchange old.council now) → LeavesAlone old new
planned_alone old new plan is_plan collection last_proposer exchange = record {
  collection = collection;
  last_proposer = last_proposer;
  exchange = λ now is asks. exchange now is;
  order = λ order key is_open is_for none. absurd (cc (is_plan, none));
}

pub gather_collecting : {S V : Type 0} (old new : View S V) → StepGather old new → IsCollectingSafe old → IsCollectingSafe new
gather_collecting {S} {V} old new by was = in_case by.gathers
  where
    over : (answer : OpAnswer) → new ≡ council.gathered old answer → IsCollectingSafe new
    over answer is = same_collecting (council.gathered old answer) new (ap frame_of is) (gathered_collecting old answer was)

    in_case : council.Gathers old by.at.exchange new → IsCollectingSafe new
    in_case (council.crashed down is) = over _ is
    in_case (council.probed key found up question plain keeps is) = over _ is
    in_case (council.read key era found marks up question reads keeps counts is) =
        same_collecting (council.gathered old (Probed key found)) new (ap frame_of is) (gathered_collecting old (Probed key found) was)
    in_case (council.lists of listing up enough on is) = same_collecting (council.listed_view old of.plan listing) new (ap frame_of is)
        (left_alone (frame_of old) (frame_of (council.listed_view old of.plan listing)) (planned_alone (frame_of old) (frame_of (council.listed_view old of.plan listing)) of.plan of.is_plan refl refl (λ now none. absurd (cc none))) was)
    in_case (council.is_short of short up missing is) = over _ is
    in_case (council.no_memory up is) = same_collecting (told_view old _) new (ap frame_of is) (told_collecting old _ was)

-- ---- changes of membership
welcome_frame : {S V : Type 0} (m : Meaning S V) (old middle : View S V) (of : Asked) → Welcomes m old of middle → frame_of middle ≡ frame_of old
welcome_frame {S} {V} m old middle of (plans.starts id acceptor now joins at starts view) = ap frame_of view
welcome_frame {S} {V} m old middle of (plans.fails id acceptor now joins at fails view) = ap frame_of view
welcome_frame {S} {V} m old middle of (plans.is_up id acceptor joins at up view) = ap frame_of view
welcome_frame {S} {V} m old middle of (plans.stays joins_none view) = ap frame_of view

-- what a change of membership is planned for is no collection
planned_apart : (era : Era) (used : List ℕ) (of : Asked) (planned : _) (key : List ℕ) → IsPlanned era used of planned → of ≡ asked.Collect key → ⊥
planned_apart era used of planned key (plans.joins id is same) other = cc (is, other)
planned_apart era used of planned key (plans.leaves id is same) other = cc (is, other)
planned_apart era used of planned key (plans.resizes need_prep need_acc is same) other = cc (is, other)

pub open_collecting : {S V : Type 0} (m : Meaning S V) (old new : View S V) → StepOpenPlan m old new → IsCollectingSafe old → IsCollectingSafe new
open_collecting {S} {V} m old new by was = in_case by.opens
  where
    told : (answer : OpAnswer) → new ≡ told_view old answer → IsCollectingSafe new
    told answer is = same_collecting (told_view old answer) new (ap frame_of is) (told_collecting old answer was)

    in_case : plans.OpensPlan m old by.order.asked by.desk new → IsCollectingSafe new
    in_case (plans.is_down down is) = told _ is
    in_case (plans.is_busy plan up busy is) = told _ is
    in_case (plans.refuses fault up none planned is) = told _ is
    in_case (plans.opens progress middle up none planned welcomes is) = same_collecting (plans.opened_plan middle by.order.asked progress) new (ap frame_of is)
        (left_alone (frame_of middle) (frame_of (plans.opened_plan middle by.order.asked progress)) (record {
          collection = refl;
          last_proposer = refl;
          exchange = λ now at_it asks. same_exchange middle.council now at_it;
          order = λ order key is_open is_for unplanned.
              let same : by.order ≡ order = some_is (sym by.is_open ∙ ap (λ (f : Frame). f.council.order) (sym (welcome_frame m old middle by.order.asked welcomes)) ∙ is_open) in
              absurd (planned_apart (era_at old 0) old.council.used by.order.asked _ key planned (ap (λ (o : OrderView). o.asked) same ∙ is_for));
        }) (same_collecting old middle (welcome_frame m old middle by.order.asked welcomes) was))
    in_case (plans.no_memory progress middle up none planned welcomes is) =
        same_collecting (told_view middle _) new (ap frame_of is) (told_collecting middle _ (same_collecting old middle (welcome_frame m old middle by.order.asked welcomes) was))

pub enter_collecting : {S V : Type 0} (m : Meaning S V) (old new : View S V) (id : ℕ) → StepEnterEra m old id new → IsCollectingSafe old → IsCollectingSafe new
enter_collecting {S} {V} m old new id by was = in_case by.enters
  where
    told : (answer : OpAnswer) → new ≡ told_view old answer → IsCollectingSafe new
    told answer is = same_collecting (told_view old answer) new (ap frame_of is) (told_collecting old answer was)

    in_case : plans.EntersNext m old by.plan by.next by.desk new → IsCollectingSafe new
    in_case (plans.enters middle room leaves is) =
        let same = left_frame _ _ old middle by.plan.entered leaves in
        same_collecting (plans.entered_view middle by.plan by.next) new (ap frame_of is)
        (left_alone (frame_of middle) (frame_of (plans.entered_view middle by.plan by.next))
        (planned_alone (frame_of middle) (frame_of (plans.entered_view middle by.plan by.next)) by.plan (ap (λ (f : Frame). f.council.plan) same ∙ by.may.is_plan) refl refl (λ now at_it. same_exchange middle.council now at_it))
        (same_collecting old middle same was))
    in_case (plans.is_full full is) = told _ is
    in_case (plans.is_down room down is) = told _ is
    in_case (plans.fails middle room down is) = same_collecting (told_view middle _) new (ap frame_of is) (told_collecting middle _ (down_collecting _ old middle by.plan.entered down was))
    in_case (plans.no_memory now room up kept now_is is) = same_collecting (told_view old _) new (ap frame_of is) (told_collecting old _ was)
