-- What each call on the world for the call of a collection's round does.
use Rattle.std.proofs.Common.{◌≡◌, ◌≢◌, ◌≤◌, ◌<◌, ◌+◌, ◌-◌, ◌^◌, ℕ, suc, Bool, true, false, if◌then◌else◌, List, [], ◌∷◌, ◌++◌, Option, None, Some, IsSome, is_some, option_map, slice_get, slice_set, refl, sym, ap, ap₂, subst, ◌∙◌, append-nil, arith}
use Rattle.std.specs.Prelude.{All, IfSome}
use Rattle.std.proofs.lemmas.List.Elements.{All-cons}
use Rattle.std.proofs.Math.Nat.{min-le_left}
use Rattle.cas_change.specs.declared.program.Clause.{Clause}
use Rattle.cas_collect.specs.declared.collect.CollectStep.TheVariants as step
use Rattle.cas_fate.specs.declared.fate.Verdict.{Verdict}
use Rattle.cas_proposer.specs.Desk.{DeskView}
use Rattle.cas_proposer.specs.declared.round.Round.{Round}
use Rattle.cas_round.specs.declared.verdict.RoundVerdict.{RoundVerdict}
use Rattle.cas_round.specs.declared.verdict.RoundVerdict.TheVariants as verdicts
use Rattle.cas_model.specs.Stops.Step.{OpenCallAt}
use Rattle.cas_record.specs.declared.answer.Answer.{Answer}
use Rattle.cas_record.specs.declared.answer.Answer.TheVariants as answer
use Rattle.cas_record.specs.declared.mark.Mark.{Mark}
use Rattle.cas_record.specs.declared.mark.Mark.TheVariants as kinds
use Rattle.cas_record.specs.declared.operator.Asked.TheVariants as asked
use Rattle.cas_record.specs.declared.operator.OpAnswer.{OpAnswer}
use Rattle.cas_record.specs.declared.operator.OpAnswer.TheVariants as op
use Rattle.cas_world_calls.specs.Collecting.{is_sought}
use Rattle.cas_model.specs.Collection.State.{CollectionView, new_collection}
use Rattle.cas_model.specs.Council.{Council, OrderView, told_so}
use Rattle.cas_protocol.specs.Protocol.{is_done}
use Rattle.cas_model.specs.Step.{Step, StepBegin, StepTurn, StepRefuseTurn, StepPropose, StepCount, StepEnd}
use Rattle.cas_model.specs.Calls.Step as calls
use Rattle.cas_model.specs.Calls.Step.{one_more}
use Rattle.cas_model.specs.Frames.Step as frames
use Rattle.cas_model.specs.Collection.Step as collect
use Rattle.cas_model.specs.Collection.Step.{keep_always, stopped_by, IsCollecting, StepBeginCollect, BeginsCollection, StepCountCollect, StepEndCollect}
use Rattle.cas_model.specs.Exchanges.Step.{StepTell, told_view}
use Rattle.cas_model.specs.View.{Meaning, View, CallView, CallerView, IsAt, era_at}
use Rattle.cas_model.proofs.Places.{at_one, at_set, some_is}
use Rattle.cas_turn.specs.Seen.{OnlyOwnedBy}
use Rattle.cas_world.specs.Calls.Beginning.{MayBegin, first, another}
use Rattle.cas_world.specs.Collection.Collect.{MayCollectKey, HasCollected, CollectsNot, is_refused, is_told, leaves_no_call, IsCollectingCall}
use Rattle.cas_flow.specs.Flow.{queue_at}
use Rattle.cas_world.specs.Exchanges.Exchange.{WasToldOrder, place_of, turn_of, refusal_of}
use Rattle.cas_world.specs.Eras.Plans.{rescanned_of}
use Rattle.cas_world.specs.Readers.{closed_in, next_number}
use Rattle.cas_world.specs.Calls.Reading.{HasProposed}
use Rattle.cas_world.specs.World.{WasTold}
use Rattle.cas_board_steps.specs.Collection.Collecting as collecting_
use Rattle.cas_board_steps.specs.Eras.Counting.{EntersEras}
use Rattle.cas_board_steps.specs.Collection.Collecting.{CollectsAt, HasTombstoneCall, IsTombstoneMark, IsCollectAnswer, IsCollectingMark, IsRefusedTombstone, HasRoundsWithin, TellsRefusal, Stops}
use Rattle.cas_board_steps.specs.Calls.Conflicts.{is_conflict, told_conflict}
use Rattle.cas_board_steps.specs.Calls.Changes.{harm_by}
use Rattle.cas_board_steps.specs.Kept.{IsStaged, running, is_met, is_closed, IsKept}
use Rattle.cas_board_steps.specs.Mine.{mine, losses, Wanted, wants, wanted_after, wanted_by}
use Rattle.cas_board_steps.specs.Calls.Open.{rounds_in, is_met_in}
use Rattle.cas_board_steps.specs.Exchanges.Orders.{new_order, HasOrder, OperatesIn, IsToldIn}
use Rattle.cas_board_steps.specs.Owners.{owner_of, MayAdd}
use Rattle.cas_board_steps.specs.OwnParts.{round_part, own_part}
use Rattle.cas_board_steps.proofs.Collection.Rounds.{LeadsOperator, leads_acts, leads_council, makes_led, kept_led, none_rescanned, ReachesEnd, reaches_over, asks_there, tombstone_held, stops_held, such_marks}
use Rattle.cas_board_steps.proofs.Collection.Collecting.{IsSettingTombstone, is_setting_tombstone, has_tombstone, IsKeeping, is_keeping}
use Rattle.cas_board_steps.proofs.Collection.Steps.{stopped_held, no_call_at}
use Rattle.cas_board_steps.proofs.Exchanges.Councils.{IsOrderedOnBoard, is_ordered}
use Rattle.cas_board_steps.proofs.Calls.Events.{CallBegins, CallGoesOn, CallIsOver, over_where_told, count_unmet, first_begins, again_goes_on, turn_goes_on, refused_turn_goes_on, propose_goes_on, count_is_over, told_in}
use Rattle.cas_board_steps.proofs.Fronts.{mine_own, wanted_append}
use Rattle.cas_board_steps.proofs.Calls.Holds.{Held, over_at_once}
use Rattle.cas_board_steps.proofs.Exchanges.Operating.{LeavesOtherCalls, leaves_desks, leaves_others}
use Rattle.cas_board_steps.proofs.Parts.{rounds_part, met_part}
use Rattle.cas_board_steps.proofs.Calls.Stages.{next_at, desk_of, running_call, runs_there, unmet_there, turn_running, proposed_running, propose_met, met_told, waits_there, as_turn, as_refusal}
use Rattle.cas_board_steps.proofs.Calls.Tries.{tombstone_within}
use Rattle.cas_board_steps.proofs.Collection.RoundStages.{tombstone_open}

-- ---- what its calls ask
calling_is : (c : CollectionView) → round_part c ≡ 0 → c.calling ≡ true
calling_is c e = by_tests c.calling (is_sought c.tombstone) e
  where
    by_tests : (calling sought : Bool) → ◌≡◌ {A = ℕ} (if calling then 0 else if sought then 1 else 2) 0 → calling ≡ true
    by_tests true sought is = refl
    by_tests false true is = absurd (let h : 1 ≡ 0 = is in omega (arith, h))
    by_tests false false is = absurd (let h : 2 ≡ 0 = is in omega (arith, h))

pub is_collecting : (key : List ℕ) (council : Council) → CollectsAt key step.Round 0 council → IsCollecting council key
is_collecting key council at = record {
  at = record { order = new_order (asked.Collect key); is_open = at.order; collection = at.collection; is_collection = at.is_collection; is_for = ap asked.Collect (sym at.same_key) };
  is_due = at.is_due;
  calling = calling_is at.collection at.round_is;
  same_key = at.same_key;
}

pub may_first : {S V : Type 0} (view : View S V) (key : List ℕ) → HasOrder (asked.Collect key) (own_part view 0) → MayCollectKey view key
may_first view key has =
    let is = is_ordered view (asked.Collect key) has in
    record { order = new_order (asked.Collect key); is_open = is.order; is_for = refl; none_asked = is.exchange; goes_on = λ caller call at is_call. absurd (cc (sym (is.no_call caller at) ∙ is_call)) }

pub first_may : {S V : Type 0} (view : View S V) (key : List ℕ) (call : ℕ) (program : List Clause) → option_map next_number (slice_get view.callers 0) ≡ Some call → HasOrder (asked.Collect key) (own_part view 0) → MayBegin view 0 call key program
first_may view key call program next has =
    let is = is_ordered view (asked.Collect key) has in
    let at = next_at view 0 call next in
    first at.caller at.at_caller (is.no_call at.caller at.at_caller) (let k = at.number in omega (arith, k))

pub may_again : {S V : Type 0} (view : View S V) (key : List ℕ) (call : ℕ) (marks : List Mark) → HasTombstoneCall key call (own_part view 0) marks → MayCollectKey view key
may_again view key call marks has =
    let is = is_setting_tombstone view key call marks has in
    record { order = new_order (asked.Collect key); is_open = is.at.order; is_for = refl; none_asked = is.none_asked; goes_on = λ caller one at is_call. is_collecting key view.council is.at }

pub again_may : {S V : Type 0} (view : View S V) (key : List ℕ) (call : ℕ) (program : List Clause) → program ≡ keep_always → IsKept view → HasTombstoneCall key call (own_part view 0) view.marks → ((desk : DeskView V) → IsAt view.desks 0 desk → desk.round ≡ None)
    → ((caller : CallerView) → IsAt view.callers 0 caller → closed_in caller.call ≡ None) → MayBegin view 0 call key program
again_may {S} {V} view key call program keeps kept has idle unclosed =
    let is = is_setting_tombstone view key call view.marks has in
    let d = desk_of view 0 is.caller is.at_caller kept in
    by_stage is (is_keeping view key call is has.wanted kept) (kept.staged 0 d.desk is.caller is.open_call d.at_desk is.at_caller is.is_open) (idle d.desk d.at_desk)
  where
    by_stage : (is : IsSettingTombstone view key call) → IsKeeping is.open_call key → {desk : DeskView V} → IsStaged desk is.open_call → desk.round ≡ None → MayBegin view 0 call key program
    by_stage is keeping (running some unmet unclosed_) none = absurd (cc (subst IsSome none some))
    by_stage is keeping (is_met no_round met unproposed unclosed_) none = another is.caller is.open_call is.at_caller is.is_open (sym is.number) keeping.key_is (keeping.program_is ∙ sym keeps) unproposed met idle
    by_stage is keeping (is_closed no_round closed unmet) none = absurd (cc (subst IsSome (ap closed_in (sym is.is_open) ∙ unclosed is.caller is.at_caller) closed))

-- ---- it begins
-- behind a call that was begun the operator's collection is under way
new_at : (key : List ℕ) (council : Council) (order : OrderView) (c : CollectionView) → order.asked ≡ asked.Collect key → council.plan ≡ None → c.course.step ≡ step.Round → c.course.key ≡ key → c.calling ≡ true → CollectsAt key step.Round 0 (record council { order = Some (record order { told = None }); collection = Some c })
new_at key council order c asks none due same calling = record {
  order = ap (λ a. Some (record { asked = a; told = None })) asks;
  none_planned = none;
  collection = c;
  is_collection = refl;
  is_due = due;
  same_key = same;
  round_is = ap (λ (b : Bool). if b then 0 else if is_sought c.tombstone then 1 else 2) calling;
}

begun_marks : (number : ℕ) (key : List ℕ) (more : List Mark) → OnlyOwnedBy owner_of 0 more → OnlyOwnedBy owner_of 0 (kinds.Begun 0 number key keep_always ∷ more)
begun_marks number key more only = All-cons (λ i. (m : ℕ) → owner_of i ≡ Some m → m ≡ 0) (kinds.Begun 0 number key keep_always) more (λ m e. sym (some_is e)) only

begun_such : (number : ℕ) (key : List ℕ) (more : List Mark) → All (IsTombstoneMark key) (mine 0 more) → All (IsTombstoneMark key) (mine 0 (kinds.Begun 0 number key keep_always ∷ more))
begun_such number key more such = subst (All (IsTombstoneMark key)) (sym (mine_own 0 (kinds.Begun 0 number key keep_always) more refl)) (All-cons (IsTombstoneMark key) (kinds.Begun 0 number key keep_always) (mine 0 more) (refl, refl) such)

begun_few : (number most : ℕ) (key : List ℕ) (more : List Mark) → losses (mine 0 more) ≤ most → losses (mine 0 (kinds.Begun 0 number key keep_always ∷ more)) ≤ most
begun_few number most key more few = subst (λ (l : List Mark). losses l ≤ most) (sym (mine_own 0 (kinds.Begun 0 number key keep_always) more refl)) few

wanted_begun : (number : ℕ) (key : List ℕ) (old more : List Mark) → ((before : Option Wanted) → wanted_after 0 before more ≡ before) → wanted_by 0 (old ++ kinds.Begun 0 number key keep_always ∷ more) ≡ Some (wants number key keep_always)
wanted_begun number key old more asks = wanted_append 0 None old (kinds.Begun 0 number key keep_always ∷ more) ∙ asks (Some (wants number key keep_always))

-- by what its beginning does
data BeginsTombstone {S V : Type 0} (m : Meaning S V) (key : List ℕ) (old new : View S V) : Type 0 where
  refuses : LeavesOtherCalls old new [] → (said : OpAnswer) → new.council.order ≡ Some (told_so said (new_order (asked.Collect key))) → IsCollectAnswer key said
      → rescanned_of new.council.plan ≡ rescanned_of old.council.plan → BeginsTombstone m key old new
  begins : (caller : CallerView) → IsAt old.callers 0 caller → (middle : View S V) → CallBegins 0 0 old middle (suc caller.number) key keep_always → (council : Council) → new ≡ record middle { council = council } → CollectsAt key step.Round 0 council → council.exchange ≡ None → old.council.plan ≡ None → BeginsTombstone m key old new

begins_tombstone : {S V : Type 0} (m : Meaning S V) (key : List ℕ) (old new : View S V) → IsOrderedOnBoard old (asked.Collect key) → StepBeginCollect m (λ before after. StepBegin m before 0 key keep_always after) old key new → BeginsTombstone m key old new
begins_tombstone {S} {V} m key old new was by = by_case by.begins
  where
    told_order : (said : OpAnswer) (council : Council) → council.order ≡ old.council.order → option_map (told_so said) council.order ≡ Some (told_so said (new_order (asked.Collect key)))
    told_order said council same = ap (option_map (told_so said)) (same ∙ was.order)

    by_refusal : (middle : View S V) → old.council.plan ≡ None → calls.RefusesCall m old 0 key middle → new ≡ told_view middle (op.Stopped (answer.NoMemory false)) → BeginsTombstone m key old new
    by_refusal middle none (calls.stays told council refusal anew same) is =
        refuses (leaves_desks old (told_view middle (op.Stopped (answer.NoMemory false))) new [] is (ap (λ (w : View S V). w.last_proposer) same) (ap (λ (w : View S V). w.desks) same) (ap (λ (w : View S V). w.callers) same) (ap (λ (w : View S V). w.marks) same ∙ sym (append-nil old.marks)))
        (op.Stopped (answer.NoMemory false)) (ap (λ (w : View S V). w.council.order) is ∙ told_order (op.Stopped (answer.NoMemory false)) middle.council (ap (λ (w : View S V). w.council.order) same ∙ ap (λ (c : Council). c.order) (none_rescanned key told old.council council none anew))) tt
        (ap (λ (w : View S V). rescanned_of w.council.plan) is ∙ ap (λ (w : View S V). rescanned_of w.council.plan) same ∙ ap (λ (c : Council). rescanned_of c.plan) (none_rescanned key told old.council council none anew))
    by_refusal middle none (calls.loses caller desk now ballot council at_caller at_desk no_round up loses anew same) is =
        refuses (leaves_others old (told_view middle (op.Stopped (answer.NoMemory false))) new now [] is (ap (λ (w : View S V). w.last_proposer) same) (ap (λ (w : View S V). w.desks) same) (ap (λ (w : View S V). w.callers) same) (ap (λ (w : View S V). w.marks) same ∙ sym (append-nil old.marks)))
        (op.Stopped (answer.NoMemory false)) (ap (λ (w : View S V). w.council.order) is ∙ told_order (op.Stopped (answer.NoMemory false)) middle.council (ap (λ (w : View S V). w.council.order) same ∙ ap (λ (c : Council). c.order) (none_rescanned key (answer.NoMemory false) old.council council none anew))) tt
        (ap (λ (w : View S V). rescanned_of w.council.plan) is ∙ ap (λ (w : View S V). rescanned_of w.council.plan) same ∙ ap (λ (c : Council). rescanned_of c.plan) (none_rescanned key (answer.NoMemory false) old.council council none anew))

    by_case : BeginsCollection m (λ before after. StepBegin m before 0 key keep_always after) old key by.may.order by.desk by.caller new → BeginsTombstone m key old new
    by_case (collect.is_down none down is) = refuses (leaves_desks old _ new [] is refl refl refl (sym (append-nil old.marks))) (op.Stopped answer.Down) (ap (λ (w : View S V). w.council.order) is ∙ told_order (op.Stopped answer.Down) old.council refl) tt (ap (λ (w : View S V). rescanned_of w.council.plan) is)
    by_case (collect.is_busy plan none up planned is) = refuses (leaves_desks old _ new [] is refl refl refl (sym (append-nil old.marks))) (op.Busy (era_at old 0).number) (ap (λ (w : View S V). w.council.order) is ∙ told_order (op.Busy (era_at old 0).number) old.council refl) tt (ap (λ (w : View S V). rescanned_of w.council.plan) is)
    by_case (collect.is_full none up unplanned full is) = refuses (leaves_desks old _ new [] is refl refl refl (sym (append-nil old.marks))) (op.Stopped answer.RecordFull) (ap (λ (w : View S V). w.council.order) is ∙ told_order (op.Stopped answer.RecordFull) old.council refl) tt (ap (λ (w : View S V). rescanned_of w.council.plan) is)
    by_case (collect.no_memory middle none up unplanned refused is) = by_refusal middle unplanned refused is
    by_case (collect.begins middle none unplanned begun is) =
        let b = first_begins m 0 0 key keep_always old middle by.caller by.may.at_caller none begun in
        begins by.caller by.may.at_caller middle b _ is (new_at key middle.council by.may.order (new_collection key (era_at old 0) old.last_proposer) by.may.is_for (ap (λ (c : Council). c.plan) b.acts.council ∙ unplanned) refl refl refl) (ap (λ (c : Council). c.exchange) b.acts.council ∙ was.exchange) unplanned
    by_case (collect.goes_on middle call is_it open_ begun is) = absurd (cc (sym (was.no_call by.caller by.may.at_caller) ∙ open_))

pub begun_held : {S V : Type 0} (m : Meaning S V) (key : List ℕ) (call most : ℕ) (old new : View S V) → option_map next_number (slice_get old.callers 0) ≡ Some call → HasOrder (asked.Collect key) (own_part old 0) → IsKept old → StepBeginCollect m (λ before after. StepBegin m before 0 key keep_always after) old key new → HasCollected new call key
    → Held old new (OperatesIn (IsTombstoneMark key) most old new × HasTombstoneCall key call (own_part new 0) new.marks)
begun_held {S} {V} m key call most old new next has kept by round = by_case (begins_tombstone m key old new was by)
  where
    was : IsOrderedOnBoard old (asked.Collect key)
    was = is_ordered old (asked.Collect key) has

    by_case : BeginsTombstone m key old new → Held old new (OperatesIn (IsTombstoneMark key) most old new × HasTombstoneCall key call (own_part new 0) new.marks)
    by_case (refuses leaves said order answers planned) = absurd (cc (sym (was.no_call round.of_round.caller (subst (λ (l : List CallerView). IsAt l 0 round.of_round.caller) leaves.callers round.of_round.at_caller)) ∙ round.of_round.is_call))
    by_case (begins caller at_old middle b council is at none_asked unplanned) =
        let there = next_at old 0 call next in
        let number : suc caller.number ≡ call = ap (λ (c : CallerView). suc c.number) (at_one old.callers 0 at_old there.at_caller) ∙ there.number in
        let now : CallerView = record { number = suc caller.number; call = Some b.next } in
        let all : List Mark = kinds.Begun 0 (suc caller.number) key keep_always ∷ b.more in
        let leads : LeadsOperator old new all = leads_council old middle new all council (leads_acts old middle all b.acts) is in
        let only = begun_marks (suc caller.number) key b.more b.fine.only in
        let at_next : IsAt new.callers 0 now = subst (λ (w : View S V). IsAt w.callers 0 now) (sym is) b.at_next in
        let wanted : wanted_by 0 new.marks ≡ Some (wants (suc caller.number) key keep_always) = ap (wanted_by 0) leads.made ∙ wanted_begun (suc caller.number) key old.marks b.more b.fine.asks in
        record {
          does = (
            record { marks = all; makes = makes_led old new all leads (tt, b.fine.may_add) only; all_such = begun_such (suc caller.number) key b.more (such_marks key (suc caller.number) b.more b.fine.of_call (b.fine.asks None)); few = begun_few (suc caller.number) most key b.more (let low : losses (mine 0 b.more) ≤ 0 = b.fine.few in omega (arith, low)); counts = λ enters. absurd (enters 0 0); keeps = λ not. ap (λ (w : View S V). rescanned_of w.council.plan) is ∙ ap rescanned_of (at.none_planned ∙ sym unplanned) },
            has_tombstone new key call (record { caller = now; at_caller = at_next; number = number; open_call = b.next; is_open = refl; at = subst (λ (w : View S V). CollectsAt key step.Round 0 w.council) (sym is) at; none_asked = ap (λ (w : View S V). w.council.exchange) is ∙ none_asked }) (wanted ∙ ap (λ (k : ℕ). Some (wants k key keep_always)) number),
          );
          kept = kept_led old new all leads only kept (record {
            staged = λ desk one open_ at_desk at_one_ is_open.
                let some : IsSome desk.round = subst (λ (d : DeskView V). IsSome d.round) (at_one new.desks 0 round.of_round.at_desk at_desk) round.of_round.is_open in
                subst (λ (c : CallView). IsStaged desk c) (some_is (ap (λ (c : CallerView). c.call) (at_one new.callers 0 at_next at_one_) ∙ is_open)) (running some (b.told desk (subst (λ (l : List (DeskView V)). IsAt l 0 desk) (ap (λ (w : View S V). w.desks) is) at_desk) some) b.closed);
            wanted = λ one open_ at_one_ is_open.
                let same : now ≡ one = at_one new.callers 0 at_next at_one_ in
                let same_call : b.next ≡ open_ = some_is (ap (λ (c : CallerView). c.call) same ∙ is_open) in
                wanted ∙ ap₂ (λ (k : List ℕ) (p : List Clause). Some (wants (suc caller.number) k p)) (sym b.key_is) (sym b.program_is) ∙ ap₂ (λ (c : CallerView) (o : CallView). Some (wants c.number o.key o.program)) same same_call;
          });
          last_proposer = leads.last_proposer;
        }

-- a call that was told something is that of the collection
told_call : {S V : Type 0} (view : View S V) (call : ℕ) (key : List ℕ) (said : Answer) → (was : WasTold view 0 call said) → was.call.key ≡ key → IsCollecting view.council key → IsCollectingCall view
told_call {S} {V} view call key said was same is = record { of_call = record { caller = was.caller; at_caller = was.at_caller; call = was.call; is_open = was.is_open }; is = subst (IsCollecting view.council) (sym same) is }

pub refused_tombstone : {S V : Type 0} (m : Meaning S V) (key : List ℕ) (call : ℕ) (old new : View S V) (told : OpAnswer) → IsKept old → HasOrder (asked.Collect key) (own_part old 0) → StepBeginCollect m (λ before after. StepBegin m before 0 key keep_always after) old key new → CollectsNot old new call key told → IsRefusedTombstone new call told
refused_tombstone {S} {V} m key call old new told kept has by (is_refused none_old none_new was leaves) = collecting_.not_begun leaves was
refused_tombstone {S} {V} m key call old new told kept has by (is_told said is undone fresh was is_it) = by_case (begins_tombstone m key old new ordered by)
  where
    ordered : IsOrderedOnBoard old (asked.Collect key)
    ordered = is_ordered old (asked.Collect key) has

    by_case : BeginsTombstone m key old new → IsRefusedTombstone new call told
    by_case (refuses leaves other order answers planned) = absurd (cc (sym (ordered.no_call was.caller (subst (λ (l : List CallerView). IsAt l 0 was.caller) leaves.callers was.at_caller)) ∙ was.is_open))
    by_case (begins caller at_old middle b council same at none_asked unplanned) =
        let now : CallerView = record { number = suc caller.number; call = Some b.next } in
        let at_next : IsAt new.callers 0 now = subst (λ (w : View S V). IsAt w.callers 0 now) (sym same) b.at_next in
        let same_call : b.next ≡ was.call = some_is (ap (λ (c : CallerView). c.call) (at_one new.callers 0 at_next was.at_caller) ∙ was.is_open) in
        collecting_.begun said is (fresh (no_call_at old kept ordered.no_call)) undone was (told_call new call key said was (ap (λ (c : CallView). c.key) (sym same_call) ∙ b.key_is) is_it)

-- what it was told is no conflict where its call says none
no_conflict_where : {S V : Type 0} (view : View S V) (call : ℕ) (said : Answer) → WasTold view 0 call said → (caller : CallerView) (one : CallView) → IsAt view.callers 0 caller → caller.call ≡ Some one → told_conflict one.told ≡ false → is_conflict said ≡ false
no_conflict_where view call said was caller one at is unmet = ap told_conflict (sym (told_in view 0 call said was caller one at is)) ∙ unmet

-- the call that was begun is told something at once
reaches_begun : {S V : Type 0} (key : List ℕ) (call most : ℕ) (old middle mid : View S V) (caller : CallerView) (council : Council) (said : Answer) → suc caller.number ≡ call → (b : CallBegins 0 0 old middle (suc caller.number) key keep_always) → mid ≡ record middle { council = council } → WasTold mid 0 call said → ReachesEnd key call most old mid
reaches_begun {S} {V} key call most old middle mid caller council said number b is was =
    let all : List Mark = kinds.Begun 0 (suc caller.number) key keep_always ∷ b.more in
    let at_middle : IsAt middle.callers 0 was.caller = subst (λ (l : List CallerView). IsAt l 0 was.caller) (ap (λ (w : View S V). w.callers) is) was.at_caller in
    let none : b.more ≡ [] = b.silent call said (record { caller = was.caller; at_caller = at_middle; same_number = was.same_number; call = was.call; is_open = was.is_open; told = was.told }) in
    record {
      marks = all;
      leads = leads_council old middle mid all council (leads_acts old middle all b.acts) is;
      only = begun_marks (suc caller.number) key b.more b.fine.only;
      such = begun_such (suc caller.number) key b.more (such_marks key (suc caller.number) b.more b.fine.of_call (b.fine.asks None));
      few = begun_few (suc caller.number) most key b.more (let low : losses (mine 0 b.more) ≤ 0 = b.fine.few in omega (arith, low));
      caller = record { number = suc caller.number; call = Some b.next };
      at_caller = subst (λ (w : View S V). IsAt w.callers 0 (record { number = suc caller.number; call = Some b.next })) (sym is) b.at_next;
      number = number;
      may_end = λ rounds told. subst (λ (l : List Mark). MayAdd (kinds.Begun 0 (suc caller.number) key keep_always ∷ l ++ kinds.Ended 0 call rounds told ∷ [])) (sym none) (tt, (tt, tt));
    }

pub refusal_held : {S V : Type 0} (m : Meaning S V) (key : List ℕ) (call most : ℕ) (old mid new : View S V) (told : OpAnswer) → option_map next_number (slice_get old.callers 0) ≡ Some call → HasOrder (asked.Collect key) (own_part old 0) → IsKept old → StepBeginCollect m (λ before after. StepBegin m before 0 key keep_always after) old key mid → CollectsNot old mid call key told → TellsRefusal m mid told new
    → Held old new (IsToldIn (asked.Collect key) (IsTombstoneMark key) most old new told × IsCollectAnswer key told)
refusal_held {S} {V} m key call most old mid new told next has kept by not ends = by_case not (begins_tombstone m key old mid was by)
  where
    was : IsOrderedOnBoard old (asked.Collect key)
    was = is_ordered old (asked.Collect key) has

    Answered : Type 0
    Answered = Held old new (IsToldIn (asked.Collect key) (IsTombstoneMark key) most old new told × IsCollectAnswer key told)

    tell_held : leaves_no_call told ≡ true → TellsRefusal m mid told new → StepTell mid told new
    tell_held leaves (collecting_.tells is_yes tells) = tells
    tell_held leaves (collecting_.stops said is is_no stops) = absurd (cc (leaves, is_no))

    stop_held : leaves_no_call told ≡ false → (said : Answer) → told ≡ op.Stopped said → TellsRefusal m mid told new → Stops m mid said new
    stop_held is_no said is (collecting_.tells is_yes tells) = absurd (cc (is_yes, is_no))
    stop_held is_no said is (collecting_.stops other is_other leaves stops) = let same : other ≡ said = cc (sym is_other ∙ is) in subst (λ (a : Answer). Stops m mid a new) same stops

    by_case : CollectsNot old mid call key told → BeginsTombstone m key old mid → Held old new (IsToldIn (asked.Collect key) (IsTombstoneMark key) most old new told × IsCollectAnswer key told)
    by_case (is_refused none_old none_new said leaves) (refuses left what order answers planned) = stopped_held key most old mid new told (record { leaves = left; said = what; order = order; answers = answers; planned = planned }) said (tell_held leaves ends) kept was.no_call
    by_case (is_refused none_old none_new said leaves) (begins caller at_old middle b council is at none_asked unplanned) =
        absurd (cc (sym none_new.none_open ∙ ap (λ (c : CallerView). c.call) (at_one mid.callers 0 none_new.at_caller (subst (λ (w : View S V). IsAt w.callers 0 (record { number = suc caller.number; call = Some b.next })) (sym is) b.at_next))))
    by_case (is_told said is undone fresh told_ of_it) (refuses left what order answers planned) = absurd (cc (sym (was.no_call told_.caller (subst (λ (l : List CallerView). IsAt l 0 told_.caller) left.callers told_.at_caller)) ∙ told_.is_open))
    by_case (is_told said is undone fresh told_ of_it) (begins caller at_old middle b council same at none_asked unplanned) =
        let there = next_at old 0 call next in
        let number : suc caller.number ≡ call = ap (λ (c : CallerView). suc c.number) (at_one old.callers 0 at_old there.at_caller) ∙ there.number in
        subst (λ (a : OpAnswer). Held old new (IsToldIn (asked.Collect key) (IsTombstoneMark key) most old new a × IsCollectAnswer key a)) (sym is)
        (stops_held (IsTombstoneMark key) m key call most old mid new said (λ mark such. such) (λ enters. enters 0 0) (no_conflict_where mid call said told_ (record { number = suc caller.number; call = Some b.next }) b.next (subst (λ (w : View S V). IsAt w.callers 0 (record { number = suc caller.number; call = Some b.next })) (sym same) b.at_next) refl b.unmet)
        (reaches_begun key call most old middle mid caller council said number b same told_)
        (λ order is_order. ap (λ (o : OrderView). o.asked) (some_is (sym is_order ∙ ap (λ (w : View S V). w.council.order) same ∙ at.order))) unplanned (ap (λ (w : View S V). w.council.plan) same ∙ at.none_planned) undone kept (stop_held (fresh (no_call_at old kept was.no_call)) said is ends))

-- ---- another round of it
again_begins : {S V : Type 0} (m : Meaning S V) (key : List ℕ) (call : ℕ) (old new : View S V) (was : IsSettingTombstone old key call) → StepBeginCollect m (λ before after. StepBegin m before 0 key keep_always after) old key new
    → (middle : View S V) × StepBegin m old 0 key keep_always middle × (council : Council) × (new ≡ record middle { council = council }) × (middle.council ≡ old.council → CollectsAt key step.Round 0 council × (council.exchange ≡ None))
again_begins {S} {V} m key call old new was by = by_case by.begins
  where
    open_here : {A : Type 0} → by.caller.call ≡ None → A
    open_here none = absurd (cc (sym none ∙ ap (λ (c : CallerView). c.call) (at_one old.callers 0 by.may.at_caller was.at_caller) ∙ was.is_open))

    by_case : BeginsCollection m (λ before after. StepBegin m before 0 key keep_always after) old key by.may.order by.desk by.caller new
        → (middle : View S V) × StepBegin m old 0 key keep_always middle × (council : Council) × (new ≡ record middle { council = council }) × (middle.council ≡ old.council → CollectsAt key step.Round 0 council × (council.exchange ≡ None))
    by_case (collect.is_down none down is) = open_here none
    by_case (collect.is_busy plan none up planned is) = open_here none
    by_case (collect.is_full none up unplanned full is) = open_here none
    by_case (collect.no_memory middle none up unplanned refused is) = open_here none
    by_case (collect.begins middle none unplanned begun is) = open_here none
    by_case (collect.goes_on middle one is_it open_ begun is) = (middle, begun, _, is, λ same. (new_at key middle.council by.may.order is_it.at.collection by.may.is_for (ap (λ (c : Council). c.plan) same ∙ was.at.none_planned) is_it.is_due is_it.same_key is_it.calling, ap (λ (c : Council). c.exchange) same ∙ was.none_asked))

pub again_held : {S V : Type 0} (m : Meaning S V) (key : List ℕ) (call most : ℕ) (old new : View S V) → HasTombstoneCall key call (own_part old 0) old.marks → IsKept old → StepBeginCollect m (λ before after. StepBegin m before 0 key keep_always after) old key new → HasCollected new call key
    → Held old new (OperatesIn (IsTombstoneMark key) most old new × HasTombstoneCall key call (own_part new 0) new.marks)
again_held {S} {V} m key call most old new has kept by round =
    let was = is_setting_tombstone old key call old.marks has in
    let keeping = is_keeping old key call was has.wanted kept in
    let parts = again_begins m key call old new was by in
    let again = again_goes_on m 0 most key keep_always old parts.0 was.caller was.open_call was.at_caller was.is_open parts.1 in
    let goes = again.round.goes in
    let council = parts.4 goes.acts.council in
    tombstone_held key call most old parts.0 new was.caller (calls.tried_again was.open_call again.reserved) parts.2 was.number goes parts.3 council.0 council.1 was.at.none_planned (record { key_is = keeping.key_is; program_is = keeping.program_is }) has.wanted
    (λ desk at_desk. let some : IsSome desk.round = subst (λ (d : DeskView V). IsSome d.round) (at_one new.desks 0 round.of_round.at_desk (subst (λ (w : View S V). IsAt w.desks 0 desk) (sym parts.3) at_desk)) round.of_round.is_open in running some (goes.told desk at_desk some refl) (goes.closed refl)) kept

-- where no round of it begins, its call was told why
pub again_stops : {S V : Type 0} (m : Meaning S V) (key : List ℕ) (call most : ℕ) (old mid new : View S V) (said : Answer) → HasTombstoneCall key call (own_part old 0) old.marks → IsKept old → StepBeginCollect m (λ before after. StepBegin m before 0 key keep_always after) old key mid → WasTold mid 0 call said → is_done said ≡ false → Stops m mid said new
    → Held old new (IsToldIn (asked.Collect key) (IsTombstoneMark key) most old new (op.Stopped said) × IsCollectAnswer key (op.Stopped said))
again_stops {S} {V} m key call most old mid new said has kept by told undone ends =
    let was = is_setting_tombstone old key call old.marks has in
    let parts = again_begins m key call old mid was by in
    let again = again_goes_on m 0 most key keep_always old parts.0 was.caller was.open_call was.at_caller was.is_open parts.1 in
    let is = parts.3 in
    let at_middle : IsAt parts.0.callers 0 told.caller = subst (λ (l : List CallerView). IsAt l 0 told.caller) (ap (λ (w : View S V). w.callers) is) told.at_caller in
    let over = over_where_told 0 most old parts.0 was.caller (calls.tried_again was.open_call again.reserved) call said again.round (record { caller = told.caller; at_caller = at_middle; same_number = told.same_number; call = told.call; is_open = told.is_open; told = told.told }) in
    let reaches = reaches_over key call most old parts.0 was.caller (calls.tried_again was.open_call again.reserved) was.number over in
    stops_held (IsTombstoneMark key) m key call most old mid new said (λ mark such. such) (λ enters. enters 0 0) (no_conflict_where mid call said told (record was.caller { call = Some again.round.goes.next }) again.round.goes.next (subst (λ (w : View S V). IsAt w.callers 0 (record was.caller { call = Some again.round.goes.next })) (sym is) again.round.goes.at_next) refl again.unmet) (record {
      marks = reaches.marks;
      leads = leads_council old parts.0 mid reaches.marks parts.2 reaches.leads is;
      only = reaches.only;
      such = reaches.such;
      few = reaches.few;
      caller = reaches.caller;
      at_caller = subst (λ (w : View S V). IsAt w.callers 0 reaches.caller) (sym is) reaches.at_caller;
      number = reaches.number;
      may_end = reaches.may_end;
    }) (λ order is_order. ap (λ (o : OrderView). o.asked) (some_is (sym is_order ∙ ap (λ (w : View S V). w.council.order) is ∙ (parts.4 over.goes.acts.council).0.order))) was.at.none_planned (ap (λ (w : View S V). w.council.plan) is ∙ (parts.4 over.goes.acts.council).0.none_planned) undone kept ends

-- ---- a turn
same_council : {S V : Type 0} (old mid : View S V) → mid.council ≡ old.council → mid ≡ record mid { council = old.council }
same_council {S} {V} old mid same = ap (λ (c : Council). record mid { council = c }) same

pub turn_held : {S V : Type 0} (m : Meaning S V) (key : List ℕ) (call : ℕ) (v : Verdict) (old new : View S V) → HasTombstoneCall key call (own_part old 0) old.marks → IsKept old → ((desk : DeskView V) → IsAt old.desks 0 desk → IsSome desk.round) → StepTurn m old 0 v new
    → Held old new (OperatesIn (IsTombstoneMark key) (harm_by v) old new × HasTombstoneCall key call (own_part new 0) new.marks)
turn_held {S} {V} m key call v old new has kept was by =
    let is = is_setting_tombstone old key call old.marks has in
    let same : by.of_call.caller ≡ is.caller = at_one old.callers 0 by.of_call.at_caller is.at_caller in
    let same_call : by.of_call.call ≡ is.open_call = some_is (sym by.of_call.is_open ∙ ap (λ (c : CallerView). c.call) same ∙ is.is_open) in
    let goes = turn_goes_on m 0 v old new by in
    let runs = runs_there old 0 by.of_call.caller by.of_call.call kept by.of_call.at_caller by.of_call.is_open was in
    let keeping : IsKeeping by.of_call.call key = subst (λ (c : CallView). IsKeeping c key) (sym same_call) (is_keeping old key call is has.wanted kept) in
    tombstone_held key call (harm_by v) old new new by.of_call.caller by.of_call.call old.council (ap (λ (c : CallerView). c.number) same ∙ is.number) goes (same_council old new goes.acts.council) is.at is.none_asked is.at.none_planned keeping has.wanted
    (λ desk at_desk. let some = turn_running m 0 v old new was by desk at_desk in running some (goes.told desk at_desk some runs.unmet) (goes.closed runs.unclosed)) kept

-- ---- it ends
stopped_is : (told : Answer) → is_done told ≡ false → stopped_by told ≡ Some (op.Stopped told)
stopped_is (answer.Done state took ballot) e = absurd (cc e)
stopped_is (answer.Conflict met) e = refl
stopped_is (answer.Aged least) e = refl
stopped_is (answer.Full acceptor) e = refl
stopped_is (answer.Short got need) e = refl
stopped_is (answer.Moved era) e = refl
stopped_is answer.Crashed e = refl
stopped_is (answer.Unsettled why) e = refl
stopped_is answer.Down e = refl
stopped_is answer.VaultFault e = refl
stopped_is answer.Spent e = refl
stopped_is answer.RecordFull e = refl
stopped_is (answer.NoMemory proposed) e = refl

pub stopped_told : {S V : Type 0} (m : Meaning S V) (old mid : View S V) (told : Answer) → is_done told ≡ false → StepEndCollect (λ before after. StepEnd m before 0 told after) old told mid → WasToldOrder mid (op.Stopped told)
stopped_told {S} {V} m old mid told undone by = record { order = record by.is.at.order { told = stopped_by told }; is_open = ap (λ (w : View S V). w.council.order) by.view; said = op.Stopped told; was_said = stopped_is told undone; same = refl }

pub stops_by : {S V : Type 0} (m : Meaning S V) (old mid new : View S V) (told said : Answer) → said ≡ told → StepEndCollect (λ before after. StepEnd m before 0 told after) old told mid → StepTell mid (op.Stopped said) new → Stops m old told new
stops_by {S} {V} m old mid new told said same by tells = (mid, by, subst (λ (a : Answer). StepTell mid (op.Stopped a) new) same tells)

-- its phases end
-- where the operator's collection stays
tombstone_over : {S V : Type 0} (such : Mark → Type 0) (m : Meaning S V) (key : List ℕ) (call most : ℕ) (old mid new : View S V) (said : Answer) (caller : CallerView) (one : CallView) → ((mark : Mark) → IsTombstoneMark key mark → such mark) → (EntersEras such → ⊥) → such (kinds.Ended 0 call (rounds_in (own_part mid 0)) said) → HasTombstoneCall key call (own_part old 0) old.marks → IsAt old.callers 0 caller → CallIsOver 0 most old mid caller one → IsKept old → is_done said ≡ false → Stops m mid said new
    → Held old new (IsToldIn (asked.Collect key) such most old new (op.Stopped said) × IsCollectAnswer key (op.Stopped said))
tombstone_over such m key call most old mid new said caller one weaker not_entering last has at over kept undone ends =
    let is = is_setting_tombstone old key call old.marks has in
    stops_held such m key call most old mid new said weaker not_entering last (reaches_over key call most old mid caller one (ap (λ (c : CallerView). c.number) (at_one old.callers 0 at is.at_caller) ∙ is.number) over) (asks_there key old mid call is over.goes.acts.council) is.at.none_planned (ap (λ (c : Council). c.plan) over.goes.acts.council ∙ is.at.none_planned) undone kept ends

pub turn_stops : {S V : Type 0} (m : Meaning S V) (key : List ℕ) (call most : ℕ) (old mid new : View S V) (said : Answer) → HasTombstoneCall key call (own_part old 0) old.marks → IsKept old → StepRefuseTurn m old 0 mid → WasTold mid 0 call said → is_done said ≡ false → is_conflict said ≡ false → Stops m mid said new
    → Held old new (IsToldIn (asked.Collect key) (IsTombstoneMark key) most old new (op.Stopped said) × IsCollectAnswer key (op.Stopped said))
turn_stops m key call most old mid new said has kept by was undone no_conflict ends =
    tombstone_over (IsTombstoneMark key) m key call most old mid new said by.of_call.caller by.of_call.call (λ mark such. such) (λ enters. enters 0 0) no_conflict has by.of_call.at_caller (over_where_told 0 most old mid by.of_call.caller by.of_call.call call said (refused_turn_goes_on m 0 most old mid by) was) kept undone ends

-- a turn, or the end of a phase, leaves it the rounds that it had
same_rounds : {S V : Type 0} (most : ℕ) (old new : View S V) (caller : CallerView) (one : CallView) → IsAt old.callers 0 caller → caller.call ≡ Some one → (goes : CallGoesOn 0 most old new caller one) → rounds_in (own_part new 0) ≡ rounds_in (own_part old 0)
same_rounds most old new caller one at is goes = rounds_part new 0 (record caller { call = Some goes.next }) goes.next goes.at_next refl ∙ goes.rounds ∙ sym (rounds_part old 0 caller one at is)

propose_rounds : {S V : Type 0} (m : Meaning S V) (old new : View S V) → StepPropose m old 0 new → rounds_in (own_part new 0) ≡ rounds_in (own_part old 0)
propose_rounds m old new by = same_rounds 0 old new by.at_round.of_call.caller by.at_round.of_call.call by.at_round.of_call.at_caller by.at_round.of_call.is_open (propose_goes_on m 0 0 old new by).goes

pub propose_stops : {S V : Type 0} (tries : ℕ) (m : Meaning S V) (key : List ℕ) (call most : ℕ) (old mid new : View S V) (said : Answer) → (is_conflict said ≡ true → rounds_in (own_part old 0) ≡ tries) → HasTombstoneCall key call (own_part old 0) old.marks → IsKept old → StepPropose m old 0 mid → WasTold mid 0 call said → is_done said ≡ false → Stops m mid said new
    → Held old new (IsToldIn (asked.Collect key) (IsCollectingMark key tries) most old new (op.Stopped said) × IsCollectAnswer key (op.Stopped said))
propose_stops tries m key call most old mid new said spent has kept by was undone ends =
    tombstone_over (IsCollectingMark key tries) m key call most old mid new said by.at_round.of_call.caller by.at_round.of_call.call (tombstone_within key tries) (λ enters. enters 0 0) (λ conflict. propose_rounds m old mid by ∙ spent conflict) has by.at_round.of_call.at_caller (over_where_told 0 most old mid by.at_round.of_call.caller by.at_round.of_call.call call said (propose_goes_on m 0 most old mid by) was) kept undone ends

pub count_stops : {S V : Type 0} (m : Meaning S V) (key : List ℕ) (call most : ℕ) (old mid new : View S V) (said : Answer) → HasTombstoneCall key call (own_part old 0) old.marks → IsKept old → StepCount m old 0 mid → WasTold mid 0 call said → is_done said ≡ false → Stops m mid said new
    → Held old new (IsToldIn (asked.Collect key) (IsTombstoneMark key) most old new (op.Stopped said) × IsCollectAnswer key (op.Stopped said))
count_stops m key call most old mid new said has kept by was undone ends =
    tombstone_over (IsTombstoneMark key) m key call most old mid new said by.at_round.of_call.caller by.at_round.of_call.call (λ mark such. such) (λ enters. enters 0 0) (no_conflict_where mid call said was was.caller was.call was.at_caller was.is_open (count_unmet m 0 old mid by was.caller was.call was.at_caller was.is_open)) has by.at_round.of_call.at_caller (count_is_over m 0 most old mid by) kept undone ends

pub closed_stops : {S V : Type 0} (m : Meaning S V) (key : List ℕ) (call most : ℕ) (old new : View S V) (said : Answer) → HasTombstoneCall key call (own_part old 0) old.marks → IsKept old → is_done said ≡ false → is_conflict said ≡ false → Stops m old said new
    → Held old new (IsToldIn (asked.Collect key) (IsTombstoneMark key) most old new (op.Stopped said) × IsCollectAnswer key (op.Stopped said))
closed_stops m key call most old new said has kept undone no_conflict ends =
    let is = is_setting_tombstone old key call old.marks has in
    tombstone_over (IsTombstoneMark key) m key call most old old new said is.caller is.open_call (λ mark such. such) (λ enters. enters 0 0) no_conflict has is.at_caller (over_at_once 0 most old is.caller is.open_call is.at_caller is.is_open) kept undone ends

-- the tombstone is proposed, or another round may follow a conflict
pub proposed_held : {S V : Type 0} (m : Meaning S V) (key : List ℕ) (call most : ℕ) (old new : View S V) → HasTombstoneCall key call (own_part old 0) old.marks → IsKept old → HasProposed new 0 → StepPropose m old 0 new
    → Held old new (OperatesIn (IsTombstoneMark key) most old new × HasTombstoneCall key call (own_part new 0) new.marks)
proposed_held {S} {V} m key call most old new has kept proposed by =
    let is = is_setting_tombstone old key call old.marks has in
    let at = by.at_round.of_call in
    let same : at.caller ≡ is.caller = at_one old.callers 0 at.at_caller is.at_caller in
    let same_call : at.call ≡ is.open_call = some_is (sym at.is_open ∙ ap (λ (c : CallerView). c.call) same ∙ is.is_open) in
    let goes = (propose_goes_on m 0 most old new by).goes in
    let runs = running_call old 0 at.caller at.call by.at_round.desk kept at.at_caller at.is_open by.at_round.at_desk (subst IsSome (sym by.at_round.is_open) refl) in
    tombstone_held key call most old new new at.caller at.call old.council (ap (λ (c : CallerView). c.number) same ∙ is.number) goes (same_council old new goes.acts.council) is.at is.none_asked is.at.none_planned
    (subst (λ (c : CallView). IsKeeping c key) (sym same_call) (is_keeping old key call is has.wanted kept)) has.wanted
    (λ desk at_desk. let some = proposed_running new 0 proposed desk at_desk in running some (goes.told desk at_desk some runs.unmet) (goes.closed runs.unclosed)) kept

pub met_held : {S V : Type 0} (m : Meaning S V) (key : List ℕ) (call most : ℕ) (old new : View S V) (said : Answer) → HasTombstoneCall key call (own_part old 0) old.marks → IsKept old → ((caller : CallerView) → IsAt old.callers 0 caller → IfSome caller.call (λ one. one.proposed ≡ None)) → WasTold new 0 call said → is_conflict said ≡ true → StepPropose m old 0 new
    → Held old new (OperatesIn (IsTombstoneMark key) most old new × HasTombstoneCall key call (own_part new 0) new.marks)
met_held {S} {V} m key call most old new said has kept unproposed was conflict by =
    let is = is_setting_tombstone old key call old.marks has in
    let at = by.at_round.of_call in
    let same : at.caller ≡ is.caller = at_one old.callers 0 at.at_caller is.at_caller in
    let same_call : at.call ≡ is.open_call = some_is (sym at.is_open ∙ ap (λ (c : CallerView). c.call) same ∙ is.is_open) in
    let goes = (propose_goes_on m 0 most old new by).goes in
    let runs = running_call old 0 at.caller at.call by.at_round.desk kept at.at_caller at.is_open by.at_round.at_desk (subst IsSome (sym by.at_round.is_open) refl) in
    tombstone_held key call most old new new at.caller at.call old.council (ap (λ (c : CallerView). c.number) same ∙ is.number) goes (same_council old new goes.acts.council) is.at is.none_asked is.at.none_planned
    (subst (λ (c : CallView). IsKeeping c key) (sym same_call) (is_keeping old key call is has.wanted kept)) has.wanted
    (λ desk at_desk. propose_met m 0 call said old new unproposed was conflict by (record at.caller { call = Some goes.next }) goes.next goes.at_next refl (goes.closed runs.unclosed) desk at_desk) kept

-- ---- its frames
pub tombstone_waits : {S V : Type 0} (view : View S V) (key : List ℕ) (call : ℕ) → HasTombstoneCall key call (own_part view 0) view.marks → (queue_at view.flow 0).messages ≢ [] → (queue_at view.flow (place_of view 0)).messages ≢ []
tombstone_waits view key call has waits = waits_there view 0 (λ first_. (is_setting_tombstone view key call view.marks has).none_asked) waits

pub tombstone_turn : {S V : Type 0} (m : Meaning S V) (old new : View S V) (key : List ℕ) (call : ℕ) (v : Verdict) → HasTombstoneCall key call (own_part old 0) old.marks → Step m old (turn_of old 0 v) new → StepTurn m old 0 v new
tombstone_turn m old new key call v has by = as_turn m old new 0 v (λ first_. (is_setting_tombstone old key call old.marks has).none_asked) by

pub tombstone_refusal : {S V : Type 0} (m : Meaning S V) (old new : View S V) (key : List ℕ) (call : ℕ) → HasTombstoneCall key call (own_part old 0) old.marks → Step m old (refusal_of old 0) new → StepRefuseTurn m old 0 new
tombstone_refusal m old new key call has by = as_refusal m old new 0 (λ first_. (is_setting_tombstone old key call old.marks has).none_asked) by

-- an open call is that of the collection, and keeps its key
pub calling_there : {S V : Type 0} (view : View S V) (key : List ℕ) (call : ℕ) → HasTombstoneCall key call (own_part view 0) view.marks → IsKept view → IsCollectingCall view
calling_there {S} {V} view key call has kept =
    let is = is_setting_tombstone view key call view.marks has in
    record { of_call = record { caller = is.caller; at_caller = is.at_caller; call = is.open_call; is_open = is.is_open }; is = subst (IsCollecting view.council) (sym (is_keeping view key call is has.wanted kept).key_is) (is_collecting key view.council is.at) }

-- behind a step of it the call that was told something is so still
pub calling_after : {S V : Type 0} (key : List ℕ) (call most : ℕ) (old mid : View S V) (said : Answer) (caller : CallerView) (one : CallView) → HasTombstoneCall key call (own_part old 0) old.marks → IsKept old → IsAt old.callers 0 caller → caller.call ≡ Some one → (goes : CallGoesOn 0 most old mid caller one) → WasTold mid 0 call said → IsCollectingCall mid
calling_after {S} {V} key call most old mid said caller one has kept at is_one goes was =
    let is = is_setting_tombstone old key call old.marks has in
    let same : one ≡ is.open_call = some_is (sym is_one ∙ ap (λ (c : CallerView). c.call) (at_one old.callers 0 at is.at_caller) ∙ is.is_open) in
    let same_next : goes.next ≡ was.call = some_is (ap (λ (c : CallerView). c.call) (at_one mid.callers 0 goes.at_next was.at_caller) ∙ was.is_open) in
    told_call mid call key said was (ap (λ (c : CallView). c.key) (sym same_next) ∙ goes.key ∙ ap (λ (c : CallView). c.key) same ∙ (is_keeping old key call is has.wanted kept).key_is) (subst (λ (c : Council). IsCollecting c key) (sym goes.acts.council) (is_collecting key old.council is.at))

-- what its call was told at the end of a phase
pub propose_told : {S V : Type 0} (view new : View S V) (key : List ℕ) (call : ℕ) (said : Answer) → HasTombstoneCall key call (own_part view 0) view.marks → ((caller : CallerView) → IsAt view.callers 0 caller → WasTold new 0 caller.number said) → WasTold new 0 call said
propose_told {S} {V} view new key call said has tells = let is = is_setting_tombstone view key call view.marks has in subst (λ (k : ℕ). WasTold new 0 k said) is.number (tells is.caller is.at_caller)

pub propose_calling : {S V : Type 0} (m : Meaning S V) (old new : View S V) (key : List ℕ) (call : ℕ) (said : Answer) → HasTombstoneCall key call (own_part old 0) old.marks → IsKept old → StepPropose m old 0 new → WasTold new 0 call said → IsCollectingCall new
propose_calling m old new key call said has kept by was = calling_after key call 0 old new said by.at_round.of_call.caller by.at_round.of_call.call has kept by.at_round.of_call.at_caller by.at_round.of_call.is_open (propose_goes_on m 0 0 old new by).goes was

pub turn_calling : {S V : Type 0} (m : Meaning S V) (old new : View S V) (key : List ℕ) (call : ℕ) (said : Answer) → HasTombstoneCall key call (own_part old 0) old.marks → IsKept old → StepRefuseTurn m old 0 new → WasTold new 0 call said → IsCollectingCall new
turn_calling m old new key call said has kept by was = calling_after key call 0 old new said by.of_call.caller by.of_call.call has kept by.of_call.at_caller by.of_call.is_open (refused_turn_goes_on m 0 0 old new by).goes was

pub count_calling : {S V : Type 0} (m : Meaning S V) (old new : View S V) (key : List ℕ) (call : ℕ) (said : Answer) → HasTombstoneCall key call (own_part old 0) old.marks → IsKept old → StepCount m old 0 new → WasTold new 0 call said → IsCollectingCall new
count_calling m old new key call said has kept by was = calling_after key call 0 old new said by.at_round.of_call.caller by.at_round.of_call.call has kept by.at_round.of_call.at_caller by.at_round.of_call.is_open (count_is_over m 0 0 old new by).goes was

-- why no round of it begins
pub record TellsAgain {S V : Type 0} (mid : View S V) (call : ℕ) (said : Answer) : Type 0 where
  pub undone : is_done said ≡ false
  pub was : WasTold mid 0 call said

pub again_told : {S V : Type 0} (old mid : View S V) (key : List ℕ) (call : ℕ) (told : OpAnswer) (said : Answer) → HasTombstoneCall key call (own_part old 0) old.marks → CollectsNot old mid call key told → told ≡ op.Stopped said → TellsAgain mid call said
again_told {S} {V} old mid key call told said has (is_refused none_old none_new was leaves) is =
    let there = is_setting_tombstone old key call old.marks has in
    absurd (cc (sym none_old.none_open ∙ ap (λ (c : CallerView). c.call) (at_one old.callers 0 none_old.at_caller there.at_caller) ∙ there.is_open))
again_told {S} {V} old mid key call told said has (is_told other is_other undone fresh was of_it) is =
    let same : other ≡ said = cc (sym is_other ∙ is) in
    record { undone = subst (λ (a : Answer). is_done a ≡ false) same undone; was = subst (λ (a : Answer). WasTold mid 0 call a) same was }

pub again_calling : {S V : Type 0} (m : Meaning S V) (old mid : View S V) (key : List ℕ) (call : ℕ) (said : Answer) → HasTombstoneCall key call (own_part old 0) old.marks → IsKept old → StepBeginCollect m (λ before after. StepBegin m before 0 key keep_always after) old key mid → WasTold mid 0 call said → IsCollectingCall mid
again_calling {S} {V} m old mid key call said has kept by told =
    let was = is_setting_tombstone old key call old.marks has in
    let parts = again_begins m key call old mid was by in
    let again = again_goes_on m 0 0 key keep_always old parts.0 was.caller was.open_call was.at_caller was.is_open parts.1 in
    let goes = again.round.goes in
    let at_next = subst (λ (w : View S V). IsAt w.callers 0 (record was.caller { call = Some goes.next })) (sym parts.3) goes.at_next in
    let same_next : goes.next ≡ told.call = some_is (ap (λ (c : CallerView). c.call) (at_one mid.callers 0 at_next told.at_caller) ∙ told.is_open) in
    told_call mid call key said told (ap (λ (c : CallView). c.key) (sym same_next) ∙ goes.key ∙ (is_keeping old key call was has.wanted kept).key_is)
    (subst (λ (w : View S V). IsCollecting w.council key) (sym parts.3) (is_collecting key parts.2 (parts.4 goes.acts.council).0))

-- what its call is told at the end of a prepare phase is not that it is done
refusal_undone : (v : RoundVerdict) (told : Answer) → calls.refusal_by v ≡ Some told → is_done told ≡ false
refusal_undone verdicts.Quorum told e = absurd (cc e)
refusal_undone (verdicts.Met ballot) told e = ap is_done (sym (some_is e))
refusal_undone (verdicts.Aged least) told e = ap is_done (sym (some_is e))
refusal_undone (verdicts.Full acceptor) told e = ap is_done (sym (some_is e))
refusal_undone (verdicts.Short got need) told e = ap is_done (sym (some_is e))

pub propose_undone : {S V : Type 0} (m : Meaning S V) (call : ℕ) (old new : View S V) (said : Answer) → StepPropose m old 0 new → WasTold new 0 call said → is_done said ≡ false
propose_undone {S} {V} m call old new said by was = by_case by.at_round.of_call by.at_round.desk by.at_round.round by.proposes
  where
    told_this : (at : OpenCallAt old 0) (next : CallView) (callers : List CallerView) → new.callers ≡ slice_set old.callers 0 (record at.caller { call = Some next }) → next.told ≡ Some said
    told_this at next callers same = told_in new 0 call said was (record at.caller { call = Some next }) next (subst (λ (l : List CallerView). IsAt l 0 (record at.caller { call = Some next })) (sym same) (at_set old.callers 0 at.caller (record at.caller { call = Some next }) at.at_caller)) refl

    by_case : (at : OpenCallAt old 0) (desk : DeskView V) (round : Round) → calls.ProposesOrEnds m old 0 desk round at.caller at.call new → is_done said ≡ false
    by_case at desk round (calls.proposes now turned read by_ ride outcome flow quorum confirmers reads turns made sends same) = absurd (cc (told_this at (calls.proposing at.call outcome) [] (ap (λ (w : View S V). w.callers) same)))
    by_case at desk round (calls.ends now v told is_verdict why ends same) = let e : Some told ≡ Some said = told_this at (calls.over at.call told) [] (ap (λ (w : View S V). w.callers) same) in ap is_done (sym (some_is e)) ∙ refusal_undone v told why
    by_case at desk round (calls.fails now fails same) = let e : Some answer.VaultFault ≡ Some said = told_this at (calls.over at.call answer.VaultFault) [] (ap (λ (w : View S V). w.callers) same) in ap is_done (sym (some_is e))
    by_case at desk round (calls.loses now ballot loses same) = let e : Some (answer.NoMemory false) ≡ Some said = told_this at (calls.over at.call (answer.NoMemory false)) [] (ap (λ (w : View S V). w.callers) same) in ap is_done (sym (some_is e))

-- no memory was found for a turn
pub turn_said : {S V : Type 0} (m : Meaning S V) (old mid : View S V) (key : List ℕ) (call : ℕ) (proposed : Bool) → HasTombstoneCall key call (own_part old 0) old.marks → StepRefuseTurn m old 0 mid → ((seen : CallerView) → IsAt mid.callers 0 seen → IfSome seen.call (λ open_call. proposed ≡ is_some open_call.proposed)) → WasTold mid 0 call (answer.NoMemory proposed)
turn_said {S} {V} m old mid key call proposed has by says =
    let is = is_setting_tombstone old key call old.marks has in
    let goes = (refused_turn_goes_on m 0 0 old mid by).goes in
    let next : CallView = calls.telling by.of_call.call (answer.NoMemory (is_some by.of_call.call.proposed)) in
    let next_caller : CallerView = record by.of_call.caller { call = Some next } in
    let at_next : IsAt mid.callers 0 next_caller = subst (λ (l : List CallerView). IsAt l 0 next_caller) (sym (ap (λ (w : View S V). w.callers) by.view ∙ ap (λ (l : List CallerView). slice_set l 0 next_caller) (same_callers by.refuses))) (at_set old.callers 0 by.of_call.caller next_caller by.of_call.at_caller) in
    record {
      caller = next_caller;
      at_caller = at_next;
      same_number = ap (λ (c : CallerView). c.number) (at_one old.callers 0 by.of_call.at_caller is.at_caller) ∙ is.number;
      call = next;
      is_open = refl;
      told = ap (λ (b : Bool). Some (answer.NoMemory b)) (sym (says next_caller at_next));
    }
  where
    same_callers : {middle : View S V} → frames.FindsNoRoom m old middle → middle.callers ≡ old.callers
    same_callers (frames.stays same) = ap (λ (w : View S V). w.callers) same
    same_callers (frames.kept id acceptor now there finds same) = ap (λ (w : View S V). w.callers) same

-- the tombstone is counted, and its call may be ended
pub done_calling : {S V : Type 0} (m : Meaning S V) (old new : View S V) (key : List ℕ) (call : ℕ) (said : Answer) → HasTombstoneCall key call (own_part old 0) old.marks → IsKept old → StepCountCollect (λ before after. StepCount m before 0 after) old new → WasTold new 0 call said → IsCollectingCall new
done_calling {S} {V} m old new key call said has kept by was =
    let is = is_setting_tombstone old key call old.marks has in
    let at = by.counts.at_round.of_call in
    let goes = (count_is_over m 0 0 old by.middle by.counts).goes in
    let at_next : IsAt new.callers 0 (record at.caller { call = Some goes.next }) = subst (λ (w : View S V). IsAt w.callers 0 (record at.caller { call = Some goes.next })) (sym by.view) goes.at_next in
    let same : at.call ≡ is.open_call = some_is (sym at.is_open ∙ ap (λ (c : CallerView). c.call) (at_one old.callers 0 at.at_caller is.at_caller) ∙ is.is_open) in
    let same_next : goes.next ≡ was.call = some_is (ap (λ (c : CallerView). c.call) (at_one new.callers 0 at_next was.at_caller) ∙ was.is_open) in
    let key_is : was.call.key ≡ key = ap (λ (c : CallView). c.key) (sym same_next) ∙ goes.key ∙ ap (λ (c : CallView). c.key) same ∙ (is_keeping old key call is has.wanted kept).key_is in
    let first : by.is.at.collection ≡ is.at.collection = some_is (sym by.is.at.is_collection ∙ is.at.is_collection) in
    told_call new call key said was key_is (subst (λ (w : View S V). IsCollecting w.council key) (sym by.view) (counted_still key by.middle.council by.is.at.order by.is.at.collection by.now (by_counts by.counted) by.is.at.is_for by.is.is_due by.is.calling (ap (λ (c : CollectionView). c.course.key) first ∙ is.at.same_key)))
  where
    by_counts : {before middle : View S V} {one : CallView} {c now : CollectionView} → collect.CountedAs before middle one c now → (now.course ≡ c.course) × (now.calling ≡ c.calling)
    by_counts (collect.acknowledges took a told made key_ era is) = (ap (λ (k : CollectionView). k.course) is, ap (λ (k : CollectionView). k.calling) is)
    by_counts (collect.finds_held version body took ballot told is) = (ap (λ (k : CollectionView). k.course) is, ap (λ (k : CollectionView). k.calling) is)

    counted_still : (k : List ℕ) (council : Council) (order : OrderView) (c now : CollectionView) → (now.course ≡ c.course) × (now.calling ≡ c.calling) → order.asked ≡ asked.Collect c.course.key → c.course.step ≡ step.Round → c.calling ≡ true → c.course.key ≡ k
        → IsCollecting (record council { order = Some (record order { told = None }); collection = Some now }) k
    counted_still k council order c now same asks due calling key_ = record {
      at = record { order = record order { told = None }; is_open = refl; collection = now; is_collection = refl; is_for = asks ∙ ap asked.Collect (ap (λ o. o.key) (sym same.0)) };
      is_due = ap (λ o. o.step) same.0 ∙ due;
      calling = same.1 ∙ calling;
      same_key = ap (λ o. o.key) same.0 ∙ key_;
    }

-- ---- its rounds
pub keeps_within : (tries rounds : ℕ) (own now : List ℕ) → rounds_in now ≡ rounds_in own → (is_met_in now ≡ true → rounds < tries) → HasRoundsWithin tries rounds own → HasRoundsWithin tries rounds now
keeps_within tries rounds own now same more w = record { counted = same ∙ w.counted; some = w.some; within = w.within; more = more }

pub begun_within : {S V : Type 0} (m : Meaning S V) (key : List ℕ) (call tries : ℕ) (old new : View S V) → HasOrder (asked.Collect key) (own_part old 0) → StepBeginCollect m (λ before after. StepBegin m before 0 key keep_always after) old key new → HasCollected new call key → 1 ≤ tries → HasRoundsWithin tries 1 (own_part new 0)
begun_within {S} {V} m key call tries old new has by round some = by_case (begins_tombstone m key old new was by)
  where
    was : IsOrderedOnBoard old (asked.Collect key)
    was = is_ordered old (asked.Collect key) has

    by_case : BeginsTombstone m key old new → HasRoundsWithin tries 1 (own_part new 0)
    by_case (refuses leaves said order answers planned) = absurd (cc (sym (was.no_call round.of_round.caller (subst (λ (l : List CallerView). IsAt l 0 round.of_round.caller) leaves.callers round.of_round.at_caller)) ∙ round.of_round.is_call))
    by_case (begins caller at_old middle b council is at none_asked unplanned) =
        let now : CallerView = record { number = suc caller.number; call = Some b.next } in
        let at_next : IsAt new.callers 0 now = subst (λ (w : View S V). IsAt w.callers 0 now) (sym is) b.at_next in
        let unmet : is_met_in (own_part new 0) ≡ false = met_part new 0 now b.next at_next refl ∙ b.unmet in
        record { counted = rounds_part new 0 now b.next at_next refl ∙ b.rounds_is; some = omega arith; within = some; more = λ met. absurd (cc (unmet, met)) }

one_more_some : (n : ℕ) → 1 ≤ one_more n
one_more_some n = omega arith

pub again_within : {S V : Type 0} (m : Meaning S V) (key : List ℕ) (call tries rounds now : ℕ) (old new : View S V) → HasTombstoneCall key call (own_part old 0) old.marks → StepBeginCollect m (λ before after. StepBegin m before 0 key keep_always after) old key new → now ≡ one_more rounds → HasRoundsWithin tries rounds (own_part old 0) → HasRoundsWithin tries now (own_part new 0)
again_within {S} {V} m key call tries rounds now old new has by is_now w =
    let was = is_setting_tombstone old key call old.marks has in
    let parts = again_begins m key call old new was by in
    let again = again_goes_on m 0 0 key keep_always old parts.0 was.caller was.open_call was.at_caller was.is_open parts.1 in
    let goes = again.round.goes in
    let next : CallerView = record was.caller { call = Some goes.next } in
    let at_next : IsAt new.callers 0 next = subst (λ (v : View S V). IsAt v.callers 0 next) (sym parts.3) goes.at_next in
    let had : was.open_call.rounds ≡ rounds = sym (rounds_part old 0 was.caller was.open_call was.at_caller was.is_open) ∙ w.counted in
    let met : is_met_in (own_part old 0) ≡ true = met_part old 0 was.caller was.open_call was.at_caller was.is_open ∙ met_told was.open_call.told again.met in
    let unmet : is_met_in (own_part new 0) ≡ false = met_part new 0 next goes.next at_next refl ∙ again.unmet in
    let low : rounds < tries = w.more met in
    let few : one_more rounds ≤ rounds + 1 = min-le_left (rounds + 1) (2 ^ 32 - 1) in
    let many : 1 ≤ one_more rounds = one_more_some rounds in
    record {
      counted = rounds_part new 0 next goes.next at_next refl ∙ goes.rounds ∙ ap one_more had ∙ sym is_now;
      some = omega (arith, is_now, many);
      within = omega (arith, is_now, few, low);
      more = λ now_met. absurd (cc (unmet, now_met));
    }

pub turn_within : {S V : Type 0} (m : Meaning S V) (key : List ℕ) (call tries rounds : ℕ) (v : Verdict) (old new : View S V) → HasTombstoneCall key call (own_part old 0) old.marks → IsKept old → ((desk : DeskView V) → IsAt old.desks 0 desk → IsSome desk.round) → StepTurn m old 0 v new → HasRoundsWithin tries rounds (own_part old 0) → HasRoundsWithin tries rounds (own_part new 0)
turn_within {S} {V} m key call tries rounds v old new has kept was by w =
    let held = turn_held m key call v old new has kept was by in
    let unmet = unmet_there new 0 call (tombstone_open key call (own_part new 0) new.marks held.does.1) held.kept (turn_running m 0 v old new was by) in
    keeps_within tries rounds (own_part old 0) (own_part new 0) (same_rounds (harm_by v) old new by.of_call.caller by.of_call.call by.of_call.at_caller by.of_call.is_open (turn_goes_on m 0 v old new by)) (λ met. absurd (cc (unmet, met))) w

pub proposed_within : {S V : Type 0} (m : Meaning S V) (key : List ℕ) (call tries rounds : ℕ) (old new : View S V) → HasTombstoneCall key call (own_part old 0) old.marks → IsKept old → HasProposed new 0 → StepPropose m old 0 new → HasRoundsWithin tries rounds (own_part old 0) → HasRoundsWithin tries rounds (own_part new 0)
proposed_within m key call tries rounds old new has kept proposed by w =
    let held = proposed_held m key call 0 old new has kept proposed by in
    let unmet = unmet_there new 0 call (tombstone_open key call (own_part new 0) new.marks held.does.1) held.kept (proposed_running new 0 proposed) in
    keeps_within tries rounds (own_part old 0) (own_part new 0) (propose_rounds m old new by) (λ met. absurd (cc (unmet, met))) w

pub met_within : {S V : Type 0} (m : Meaning S V) (tries rounds : ℕ) (old new : View S V) → StepPropose m old 0 new → rounds < tries → HasRoundsWithin tries rounds (own_part old 0) → HasRoundsWithin tries rounds (own_part new 0)
met_within m tries rounds old new by low w = keeps_within tries rounds (own_part old 0) (own_part new 0) (propose_rounds m old new by) (λ met. low) w
