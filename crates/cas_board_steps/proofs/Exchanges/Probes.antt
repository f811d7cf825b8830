-- What a hold does for a probe.
use Rattle.std.proofs.Common.{◌≡◌, ◌≢◌, ℕ, true, false, if◌then◌else◌, List, [], ◌∷◌, ◌++◌, length, ◌+◌, ◌≤◌, length-append, map, reverse, Option, None, Some, IsSome, is_some, option_map, slice_get, inl, inr, refl, sym, ap, subst, ◌∙◌, append-nil, arith}
use Rattle.std.specs.Prelude.{◌⊎◌, All, take}
use Rattle.std.proofs.lemmas.List.Elements.{All-nil}
use Rattle.cas_ballot.specs.Members.{union_of}
use Rattle.cas_fate.specs.declared.fate.Leg.{Leg}
use Rattle.cas_quorum.specs.declared.era.Era.{Era}
use Rattle.cas_record.specs.Agreement.{IsAgreementOf}
use Rattle.cas_record.specs.declared.agreement.Agreement.{Agreement}
use Rattle.cas_fate.specs.declared.fate.Verdict.{Verdict}
use Rattle.cas_flow.specs.Flow.{queue_at}
use Rattle.cas_flow.specs.Message.{head_of}
use Rattle.cas_record.specs.declared.answer.Answer.{Answer}
use Rattle.cas_record.specs.declared.answer.Answer.TheVariants as answer
use Rattle.cas_record.specs.declared.operator.Asked.{Asked}
use Rattle.cas_record.specs.declared.operator.OpAnswer.{OpAnswer}
use Rattle.cas_record.specs.declared.operator.OpAnswer.TheVariants as op
use Rattle.cas_record.specs.declared.operator.Probe.{Probe as ProbeOf}
use Rattle.cas_record.specs.declared.operator.Probes.{Probes}
use Rattle.cas_world_calls.specs.declared.council.Gathered.{Gathered}
use Rattle.cas_model.specs.Council.{ExchangeView, OrderView, Question, Probe, NextKeys, NewAges, Removal, Council, exchange_place, told_so}
use Rattle.cas_model.specs.Safe.{IsAskingSafe, IsExchangeSafe, IsReadSafe, is_of_collection}
use Rattle.cas_model.specs.Step as step
use Rattle.cas_model.specs.Step.{Step}
use Rattle.cas_model.specs.Exchanges.Step as council
use Rattle.cas_model.specs.Exchanges.Step.{StepOrder, StepTell, StepAskAll, AsksAll, StepTurnExchange, StepRefuseTurnExchange, StepGather, Gathers, SaysTheSame, everyone, told_marks}
use Rattle.cas_model.specs.View.{Meaning, View, CallerView, IsAt, era_at, era_in}
use Rattle.cas_model.proofs.Places.{some_is}
use Rattle.cas_model.proofs.Safety.Parts.{at_low}
use Rattle.cas_world.specs.Calls.Beginning.{HasNoCall}
use Rattle.cas_world.specs.Exchanges.Exchange as world
use Rattle.cas_world.specs.declared.exchange.Exchange.{Exchange}
use Rattle.cas_board_steps.specs.declared.orders.Inquiry.{Inquiry}
use Rattle.cas_board_steps.specs.declared.orders.Inquiry.TheVariants as inquiry
use Rattle.cas_world.specs.Exchanges.Exchange.{MayAskKey, MayAskThis, asking_of, MayGather, MayGatherMembers, HasGathered, IsStopped, WasToldOrder, asks_as, place_of, turn_of, refusal_of, gathering_by, gathering_of}
use Rattle.cas_world.specs.Eras.Plans.{rescanned_of}
use Rattle.cas_board_steps.specs.Calls.Changes.{harm_by}
use Rattle.cas_board_steps.specs.Kept.{IsKept, Makes}
use Rattle.cas_board_steps.specs.Calls.Open.{NothingIsOpen}
use Rattle.cas_board_steps.specs.Exchanges.Orders.{asked_for, exchange_for, order_for, reads_flag, new_order, HasOrder, HasProbe, HasHarms, WasAskedBehind, OperatesIn, IsToldIn, IsAskingHarm, IsProbeAnswer, IsSilentAtMost, IsProbeStop, IsTrueProbe, AreAllConfirmers, IsAgreedIn, IsAgreedSo, IsTrueAgreement, IsTrueRead, IsOfKey, HasParts, MarksHarms, named_in, stops_probe, IsOrderOf, IsHeardTrue}
use Rattle.cas_board_steps.specs.OwnParts.{asked_of, harms_part, reads_part, own_part}
use Rattle.cas_model_causes.specs.Exchanges.Answering.{silent_in, tellers_of, IsHearing}
use Rattle.cas_model_causes.specs.Exchanges.Current.{AreCurrentTells}
use Rattle.cas_model_causes.specs.Exchanges.Unaged.{AreToldSo}
use Rattle.cas_model_causes.proofs.Exchanges.Answering.{silent_are_harmed}
use Rattle.cas_model_causes.specs.Exchanges.Confirmed.{era_marked}
use Rattle.cas_model_causes.proofs.Exchanges.Current.{fewer_current}
use Rattle.cas_model_causes.proofs.Exchanges.TooOld.{probes_are_told_so}
use Rattle.cas_board_world.specs.Steady.{IsSteady}
use Rattle.cas_board_world.proofs.Forwards.{gathers_steady}
use Rattle.cas_board_steps.specs.Mine.{mine, losses}
use Rattle.cas_board_steps.specs.Owners.{MayAdd}
use Rattle.cas_agreement.specs.Told.{Rises}
use Rattle.cas_agreement.proofs.Agreed.{set_rises}
use Rattle.cas_board_steps.proofs.Exchanges.Truth.{read_truly}
use Rattle.cas_board_steps.proofs.Exchanges.Reads.{AreNobodys, nobodys_none, read_nobodys, told_still, current_still, era_is_marked, all_confirmers}
use Rattle.cas_board_steps.proofs.Fronts.{mine_append}
use Rattle.cas_record.specs.declared.mark.Mark.{Mark}
use Rattle.cas_board_steps.proofs.Eras.Counting.{lasts_told}
use Rattle.cas_board_steps.proofs.Exchanges.Councils.{IsOrderedOnBoard, IsProbed, has_order, is_ordered, has_probe, is_probed, has_harms, harms_are, asked_behind, behind_is, free_idle}
use Rattle.cas_board_steps.specs.Calls.Stages.{IsFirst, HasFirst, front_of}
use Rattle.cas_board_steps.specs.declared.changes.Waiting.{Waiting}
use Rattle.cas_board_steps.specs.declared.orders.ProbeOrder.{ProbeOrder}
use Rattle.std.specs.Prelude.{IfSome}
use Rattle.cas_board_steps.proofs.Calls.Holds.{Held}
use Rattle.cas_board_steps.proofs.Calls.Stages.{some_waits, none_waits}
use Rattle.cas_board_steps.proofs.Exchanges.Operating.{LeavesOtherCalls, leaves_desks, leaves_others, none_then, silently, operates, own_step_of, tells_after, tells_in, told_may_add, TurnsAsking, turns_asking, refuses_asking, refusal_planned, says_same, turns_planned, was_told_so}

-- ---- its order
-- the question that it holds
pub order_asks : {asks_for : Inquiry} {key : List ℕ} {order : ProbeOrder} {own : List ℕ} → IsOrderOf asks_for key order own → order.question ≡ exchange_for asks_for key
order_asks by = ap (λ (o : ProbeOrder). o.question) by.is

-- which inquiry it is of, and the key
pub order_inquiry : {asks_for : Inquiry} {key : List ℕ} {order : ProbeOrder} {own : List ℕ} → IsOrderOf asks_for key order own → order.inquiry ≡ asks_for
order_inquiry by = ap (λ (o : ProbeOrder). o.inquiry) by.is

pub order_key : {asks_for : Inquiry} {key : List ℕ} {order : ProbeOrder} {own : List ℕ} → IsOrderOf asks_for key order own → order.key ≡ key
order_key by = ap (λ (o : ProbeOrder). o.key) by.is

-- it is one of what it holds itself
pub own_order : {asks_for : Inquiry} {key : List ℕ} {order : ProbeOrder} {own : List ℕ} → IsOrderOf asks_for key order own → IsOrderOf order.inquiry order.key order own
own_order {own = own} by = record {
  is = by.is ∙ sym (ap (λ (o : ProbeOrder). order_for o.inquiry o.key) by.is);
  ordered = subst (λ (o : ProbeOrder). HasOrder (asked_for o.inquiry o.key) own) (sym by.is) by.ordered;
}

pub order_held : {S V : Type 0} (old new : View S V) (asked : Asked) → NothingIsOpen (own_part old 0) → IsKept old → StepOrder old asked new → Held old new (Makes 0 old new [] × HasOrder asked (own_part new 0))
order_held {S} {V} old new asked free kept by =
    let idle = free_idle old free in
    let leaves : LeavesOtherCalls old new [] = leaves_desks old _ new [] by.view refl refl refl (sym (append-nil old.marks)) in
    let held = silently old new leaves kept idle.no_call in
    record {
      does = (
        held.does,
        has_order new asked (record {
          no_call = none_then old new [] leaves idle.no_call;
          order = ap (λ (w : View S V). w.council.order) by.view;
          exchange = ap (λ (w : View S V). w.council.exchange) by.view ∙ idle.exchange;
          collection = ap (λ (w : View S V). w.council.collection) by.view ∙ idle.collection;
        }),
      );
      kept = held.kept;
      last_proposer = held.last_proposer;
    }

-- it is refused, or no memory was found for it
pub unordered : {S V : Type 0} (old new : View S V) → new ≡ old → NothingIsOpen (own_part old 0) → IsKept old → Held old new (Makes 0 old new [])
unordered old new same free kept = silently old new (leaves_desks old old new [] same refl refl refl (sym (append-nil old.marks))) kept (free_idle old free).no_call

pub free_still : {S V : Type 0} (old new : View S V) → new ≡ old → NothingIsOpen (own_part old 0) → NothingIsOpen (own_part new 0)
free_still {S} {V} old new same free = subst (λ (w : View S V). NothingIsOpen (own_part w 0)) (sym same) free

-- ---- its question
pub no_call_at : {S V : Type 0} (view : View S V) → IsKept view → ((caller : CallerView) → IsAt view.callers 0 caller → caller.call ≡ None) → HasNoCall view 0
no_call_at view kept none = let there = at_low view.callers 0 (let long = kept.places.callers in omega (arith, long)) in record { caller = there.0; at_caller = there.1; none_open = none there.0 there.1 }

-- the call is for that, and its exchange asks for that
may_this : {S V : Type 0} (view : View S V) (asks_for : Inquiry) (key : List ℕ) → MayAskKey view (asked_for asks_for key) → MayAskThis view (exchange_for asks_for key)
may_this view inquiry.Probe key may = may
may_this view inquiry.Read key may = may

step_this : {S V : Type 0} (m : Meaning S V) (old new : View S V) (asks_for : Inquiry) (key : List ℕ) → Step m old (asking_of old (exchange_for asks_for key)) new → StepAskAll m old (Probe key) new
step_this m old new inquiry.Probe key by = by
step_this m old new inquiry.Read key by = by

-- no change of membership ends with it
unfinished : (asks_for : Inquiry) (key : List ℕ) (era rescanned : ℕ) (told : OpAnswer) → council.finished (asked_for asks_for key) era rescanned told → ⊥
unfinished inquiry.Probe key era rescanned told is = is
unfinished inquiry.Read key era rescanned told is = is

-- the exchange reads the key where the call does
read_flag : (era : Era) (asks_for : Inquiry) (key : List ℕ) → reads_part (if council.asks_to_read (asked_for asks_for key) then Some era else None) ≡ reads_flag asks_for
read_flag era inquiry.Probe key = refl
read_flag era inquiry.Read key = refl

pub may_probe : {S V : Type 0} (view : View S V) (asks_for : Inquiry) (key : List ℕ) → IsKept view → HasOrder (asked_for asks_for key) (own_part view 0) → MayAskKey view (asked_for asks_for key)
may_probe view asks_for key kept has =
    let is = is_ordered view (asked_for asks_for key) has in
    record { order = new_order (asked_for asks_for key); is_open = is.order; is_for = refl; none_open = is.exchange; idle = no_call_at view kept is.no_call }

-- the members are asked, or the operator is told why not
record AsksOrTells {S V : Type 0} (old new : View S V) (asks_for : Inquiry) (key : List ℕ) : Type 0 where
  leaves : LeavesOtherCalls old new []
  order : new.council.order ≡ Some (new_order (asked_for asks_for key))
  exchange : ExchangeView
  is_open : new.council.exchange ≡ Some exchange
  question : exchange.question ≡ Probe key
  reads : reads_part exchange.reads ≡ reads_flag asks_for
  everyone : asked_of exchange ≡ everyone old
  harmless : harms_part exchange.question exchange.harmed ≡ 0
  planned : rescanned_of new.council.plan ≡ rescanned_of old.council.plan
  since : exchange.since ≡ length old.marks

record AsksNobody {S V : Type 0} (old new : View S V) (asks_for : Inquiry) (key : List ℕ) : Type 0 where
  leaves : LeavesOtherCalls old new []
  why : Answer
  order : new.council.order ≡ Some (told_so (op.Stopped why) (new_order (asked_for asks_for key)))
  exchange : new.council.exchange ≡ None
  planned : rescanned_of new.council.plan ≡ rescanned_of old.council.plan
  stops : stops_probe why ≡ true

names_each : (members : List ℕ) → map (λ (p : ProbeOf). p.acceptor) (map (λ member. record { acceptor = member; told = None }) members) ≡ members
names_each [] = refl
names_each (member ∷ members) = ap (λ (l : List ℕ). member ∷ l) (names_each members)

asks_or_not : {S V : Type 0} (m : Meaning S V) (old new : View S V) (asks_for : Inquiry) (key : List ℕ) → IsOrderedOnBoard old (asked_for asks_for key) → StepAskAll m old (Probe key) new → AsksOrTells old new asks_for key ⊎ AsksNobody old new asks_for key
asks_or_not {S} {V} m old new asks_for key was by = by_case by.asks
  where
    stopped : (why : Answer) → LeavesOtherCalls old new [] → new.council.order ≡ option_map (told_so (op.Stopped why)) old.council.order → new.council.exchange ≡ old.council.exchange → rescanned_of new.council.plan ≡ rescanned_of old.council.plan → stops_probe why ≡ true → AsksOrTells old new asks_for key ⊎ AsksNobody old new asks_for key
    stopped why leaves order exchange planned stops = inr (record { leaves = leaves; why = why; order = order ∙ ap (option_map (told_so (op.Stopped why))) was.order; exchange = exchange ∙ was.exchange; planned = planned; stops = stops })

    by_case : AsksAll m old (Probe key) by.desk new → AsksOrTells old new asks_for key ⊎ AsksNobody old new asks_for key
    by_case (council.asks now tag flow up room drawn is_now sends is) = inl (record {
      leaves = leaves_others old _ new now [] is refl refl refl (sym (append-nil old.marks));
      order = ap (λ (w : View S V). w.council.order) is ∙ was.order;
      exchange = council.new_exchange (Probe key) tag (everyone old) (length old.marks) (council.read_era old (Probe key));
      is_open = ap (λ (w : View S V). w.council.exchange) is;
      question = refl;
      reads = ap (λ (o : Option OrderView). reads_part (if council.reads_by o (Probe key) then Some (era_at old 0) else None)) was.order ∙ read_flag (era_at old 0) asks_for key;
      everyone = names_each (everyone old);
      harmless = refl;
      planned = ap (λ (w : View S V). rescanned_of w.council.plan) is;
      since = refl;
    })
    by_case (council.is_down down is) = stopped answer.Down (leaves_desks old _ new [] is refl refl refl (sym (append-nil old.marks))) (ap (λ (w : View S V). w.council.order) is) (ap (λ (w : View S V). w.council.exchange) is) (ap (λ (w : View S V). rescanned_of w.council.plan) is) refl
    by_case (council.is_full up full is) = stopped answer.RecordFull (leaves_desks old _ new [] is refl refl refl (sym (append-nil old.marks))) (ap (λ (w : View S V). w.council.order) is) (ap (λ (w : View S V). w.council.exchange) is) (ap (λ (w : View S V). rescanned_of w.council.plan) is) refl
    by_case (council.is_spent now up spent kept is_now is) = stopped answer.Spent (leaves_others old _ new now [] is refl refl refl (sym (append-nil old.marks))) (ap (λ (w : View S V). w.council.order) is) (ap (λ (w : View S V). w.council.exchange) is) (ap (λ (w : View S V). rescanned_of w.council.plan) is) refl
    by_case (council.fails now up fault is) = stopped answer.VaultFault (leaves_others old _ new now [] is refl refl refl (sym (append-nil old.marks))) (ap (λ (w : View S V). w.council.order) is) (ap (λ (w : View S V). w.council.exchange) is) (ap (λ (w : View S V). rescanned_of w.council.plan) is) refl
    by_case (council.no_memory now tag up loss is) = stopped (answer.NoMemory false) (leaves_others old _ new now [] is refl refl refl (sym (append-nil old.marks))) (ap (λ (w : View S V). w.council.order) is) (ap (λ (w : View S V). w.council.exchange) is) (ap (λ (w : View S V). rescanned_of w.council.plan) is) refl

-- the step of the store by which the members are asked
asks_by : {S V : Type 0} (m : Meaning S V) (old new : View S V) (what : Exchange) (asks_for : Inquiry) (key : List ℕ) → what ≡ exchange_for asks_for key → Step m old (asking_of old what) new → StepAskAll m old (Probe key) new
asks_by {S} {V} m old new what asks_for key is by = step_this m old new asks_for key (subst (λ (e : Exchange). Step m old (asking_of old e) new) is by)

pub may_ask : {S V : Type 0} (view : View S V) (what : Exchange) (asks_for : Inquiry) (key : List ℕ) → what ≡ exchange_for asks_for key → IsKept view → HasOrder (asked_for asks_for key) (own_part view 0) → MayAskThis view what
may_ask view what asks_for key is kept has = subst (MayAskThis view) (sym is) (may_this view asks_for key (may_probe view asks_for key kept has))

pub ask_held : {S V : Type 0} (m : Meaning S V) (old new : View S V) (what : Exchange) (asks_for : Inquiry) (key : List ℕ) → what ≡ exchange_for asks_for key → HasOrder (asked_for asks_for key) (own_part old 0) → IsKept old → Step m old (asking_of old what) new → IsSome new.council.exchange
    → Held old new (Makes 0 old new [] × HasProbe asks_for key (everyone old) (own_part new 0) × HasHarms 0 (own_part new 0) × WasAskedBehind (length old.marks) (own_part new 0) × (rescanned_of new.council.plan ≡ rescanned_of old.council.plan))
ask_held {S} {V} m old new what asks_for key is has kept by_what some = elim (asks_or_not m old new asks_for key was (asks_by m old new what asks_for key is by_what)) [
  | inl asks ↦ let held = silently old new asks.leaves kept was.no_call in record {
    does = (held.does, has_probe new asks_for key (everyone old) (record { no_call = none_then old new [] asks.leaves was.no_call; order = asks.order; exchange = asks.exchange; is_open = asks.is_open; question = asks.question; reads = asks.reads; asks = asks.everyone }), subst (λ (n : ℕ). HasHarms n (own_part new 0)) asks.harmless (has_harms new asks.exchange (none_then old new [] asks.leaves was.no_call) asks.is_open), asked_behind new asks.exchange (length old.marks) (none_then old new [] asks.leaves was.no_call) asks.is_open (omega (arith, asks.since)), asks.planned);
    kept = held.kept;
    last_proposer = held.last_proposer;
  }
  | inr stopped ↦ absurd (cc (subst (λ (o : Option ExchangeView). IsSome o) stopped.exchange some))
]
  where
    was : IsOrderedOnBoard old (asked_for asks_for key)
    was = is_ordered old (asked_for asks_for key) has

-- what a stop says is what the operator is told
stopped_says : (why : Answer) (told : OpAnswer) → stops_probe why ≡ true → SaysTheSame (op.Stopped why) told → IsProbeStop told
stopped_says why told stops same = record { why = why; is = sym same; stops = stops }

-- it names nobody, and is true
pub stopped_answers : (key members : List ℕ) (told : OpAnswer) → IsProbeStop told → IsProbeAnswer key members told
stopped_answers key members told is = subst (IsProbeAnswer key members) (sym is.is) is.stops

pub stopped_silent : (most : ℕ) (told : OpAnswer) → IsProbeStop told → IsSilentAtMost most told
stopped_silent most told is = subst (IsSilentAtMost most) (sym is.is) tt

pub stopped_truly : (before marks : List Mark) (told : OpAnswer) → IsProbeStop told → IsTrueProbe before marks told
stopped_truly before marks told is = subst (IsTrueProbe before marks) (sym is.is) tt

pub stop_agrees : (acceptors vaults : Type 0) (marks : List Mark) (told : OpAnswer) (agreement : Option Agreement) → IsProbeStop told → IsAgreedSo acceptors vaults marks told agreement
stop_agrees acceptors vaults marks told agreement is = subst (λ (a : OpAnswer). IsAgreedSo acceptors vaults marks a agreement) (sym is.is) tt

pub stopped_agrees : (acceptors vaults : Type 0) (marks : List Mark) (told : OpAnswer) (agreement : Option Agreement) → IsStopped told → IsAgreedSo acceptors vaults marks told agreement
stopped_agrees acceptors vaults marks (op.Probed key found) agreement is = absurd is
stopped_agrees acceptors vaults marks (op.Joined id era rescanned) agreement is = tt
stopped_agrees acceptors vaults marks (op.Left id era rescanned) agreement is = tt
stopped_agrees acceptors vaults marks (op.Resized need_prep need_acc era rescanned) agreement is = tt
stopped_agrees acceptors vaults marks (op.Refused fault) agreement is = tt
stopped_agrees acceptors vaults marks (op.Busy era) agreement is = tt
stopped_agrees acceptors vaults marks (op.Collected other ballot removed kept) agreement is = tt
stopped_agrees acceptors vaults marks (op.NotEmpty version) agreement is = tt
stopped_agrees acceptors vaults marks (op.Absent acceptor) agreement is = tt
stopped_agrees acceptors vaults marks (op.ProposerDown proposer) agreement is = tt
stopped_agrees acceptors vaults marks (op.Stopped why) agreement is = tt

pub ask_told : {S V : Type 0} (m : Meaning S V) (old mid new : View S V) (what : Exchange) (asks_for : Inquiry) (key : List ℕ) (told : OpAnswer) → what ≡ exchange_for asks_for key → HasOrder (asked_for asks_for key) (own_part old 0) → IsKept old → Step m old (asking_of old what) mid → mid.council.exchange ≡ None → WasToldOrder mid told → StepTell mid told new
    → Held old new (IsToldIn (asked_for asks_for key) IsAskingHarm 0 old new told × IsProbeStop told)
ask_told {S} {V} m old mid new what asks_for key told is has kept by_what none said ends = elim (asks_or_not m old mid asks_for key was (asks_by m old mid what asks_for key is by_what)) [
  | inl asks ↦ absurd (cc (sym none ∙ asks.is_open))
  | inr stopped ↦ let held = tells_in IsAskingHarm 0 old mid new (asked_for asks_for key) told (told_so (op.Stopped stopped.why) (new_order (asked_for asks_for key))) stopped.leaves stopped.order refl ends kept was.no_call (λ enters. absurd (enters 0 0))
      (λ not. lasts_told mid new (asked_for asks_for key) told (told_so (op.Stopped stopped.why) (new_order (asked_for asks_for key))) stopped.order refl (λ era rescanned is. unfinished asks_for key era rescanned told is) ends ∙ stopped.planned) in record {
        does = (held.does, stopped_says stopped.why told stopped.stops (says_same mid (new_order (asked_for asks_for key)) (op.Stopped stopped.why) told stopped.order said));
        kept = held.kept;
        last_proposer = held.last_proposer;
      }
]
  where
    was : IsOrderedOnBoard old (asked_for asks_for key)
    was = is_ordered old (asked_for asks_for key) has

-- ---- its frames
-- those that wait are of its exchange
pub asking_place : {S V : Type 0} (view : View S V) (asks_for : Inquiry) (key members : List ℕ) → HasProbe asks_for key members (own_part view 0) → place_of view 0 ≡ exchange_place
asking_place view asks_for key members has = let is = is_probed view asks_for key members has in ap (λ (o : Option ExchangeView). if asks_as o 0 then exchange_place else 0) is.is_open

pub frame_waits : {S V : Type 0} (view : View S V) (asks_for : Inquiry) (key members : List ℕ) → HasProbe asks_for key members (own_part view 0) → (queue_at view.flow exchange_place).messages ≢ [] → (queue_at view.flow (place_of view 0)).messages ≢ []
frame_waits view asks_for key members has waits = subst (λ (p : ℕ). (queue_at view.flow p).messages ≢ []) (sym (asking_place view asks_for key members has)) waits

-- what is read of them
pub has_first : {S V : Type 0} (view : View S V) (n : ℕ) (waits : Option Waiting) → IfSome waits (IsFirst view n) → (waits ≡ None → front_of view n ≡ None) → HasFirst view n waits
has_first view n None some none = none refl
has_first view n (Some frame) some none = some

-- whether one waits
pub one_waits : {S V : Type 0} (view : View S V) (asks_for : Inquiry) (key members : List ℕ) (front : Option (Leg × ℕ)) → HasProbe asks_for key members (own_part view 0) → front ≡ option_map head_of (slice_get (queue_at view.flow (place_of view 0)).messages 0) → is_some front ≡ true → (queue_at view.flow exchange_place).messages ≢ []
one_waits view asks_for key members front has shown some = some_waits (queue_at view.flow exchange_place).messages front (subst (λ (p : ℕ). front ≡ option_map head_of (slice_get (queue_at view.flow p).messages 0)) (asking_place view asks_for key members has) shown) some

pub no_frame_waits : {S V : Type 0} (view : View S V) (asks_for : Inquiry) (key members : List ℕ) (front : Option (Leg × ℕ)) → HasProbe asks_for key members (own_part view 0) → front ≡ option_map head_of (slice_get (queue_at view.flow (place_of view 0)).messages 0) → is_some front ≡ false → (queue_at view.flow exchange_place).messages ≡ []
no_frame_waits view asks_for key members front has shown none = none_waits (queue_at view.flow exchange_place).messages front (subst (λ (p : ℕ). front ≡ option_map head_of (slice_get (queue_at view.flow p).messages 0)) (asking_place view asks_for key members has) shown) none

turn_is : {S V : Type 0} (view : View S V) (asks_for : Inquiry) (key members : List ℕ) (v : Verdict) → HasProbe asks_for key members (own_part view 0) → turn_of view 0 v ≡ step.TurnExchange v
turn_is view asks_for key members v has = let is = is_probed view asks_for key members has in ap (λ (o : Option ExchangeView). if asks_as o 0 then step.TurnExchange v else step.Turn 0 v) is.is_open

refusal_is : {S V : Type 0} (view : View S V) (asks_for : Inquiry) (key members : List ℕ) → HasProbe asks_for key members (own_part view 0) → refusal_of view 0 ≡ step.RefuseTurnExchange
refusal_is view asks_for key members has = let is = is_probed view asks_for key members has in ap (λ (o : Option ExchangeView). if asks_as o 0 then step.RefuseTurnExchange else step.RefuseTurn 0) is.is_open

-- it goes on as one of the same
probe_then : {S V : Type 0} (most : ℕ) (old new : View S V) (asks_for : Inquiry) (key them : List ℕ) (exchange : ExchangeView) → old.council.exchange ≡ Some exchange → TurnsAsking most old new exchange → HasProbe asks_for key them (own_part old 0) → HasProbe asks_for key them (own_part new 0)
probe_then {S} {V} most old new asks_for key them exchange is_open turns has =
    let was = is_probed old asks_for key them has in
    let same : was.exchange ≡ exchange = some_is (sym was.is_open ∙ is_open) in
    has_probe new asks_for key them (record {
      no_call = none_then old new turns.marks turns.leaves was.no_call;
      order = ap (λ (c : Council). c.order) turns.council ∙ was.order;
      exchange = turns.next;
      is_open = ap (λ (c : Council). c.exchange) turns.council;
      question = turns.question ∙ ap (λ (x : ExchangeView). x.question) (sym same) ∙ was.question;
      reads = ap reads_part turns.reads ∙ ap (λ (x : ExchangeView). reads_part x.reads) (sym same) ∙ was.reads;
      asks = turns.asked ∙ ap asked_of (sym same) ∙ was.asks;
    })

-- asked when they were
behind_then : {S V : Type 0} (most : ℕ) (old new : View S V) (exchange : ExchangeView) (many : ℕ) → old.council.exchange ≡ Some exchange → TurnsAsking most old new exchange → ((caller : CallerView) → IsAt old.callers 0 caller → caller.call ≡ None) → WasAskedBehind many (own_part old 0) → WasAskedBehind many (own_part new 0)
behind_then most old new exchange many is_open turns none has =
    asked_behind new turns.next many (none_then old new turns.marks turns.leaves none) (ap (λ (c : Council). c.exchange) turns.council) (omega (arith, behind_is old exchange many is_open has, turns.since))

-- and those that are harmed are no more than what was marked since
harms_then : {S V : Type 0} (most : ℕ) (old new : View S V) (exchange : ExchangeView) → old.council.exchange ≡ Some exchange → TurnsAsking most old new exchange → ((caller : CallerView) → IsAt old.callers 0 caller → caller.call ≡ None) → MarksHarms old new
harms_then most old new exchange is_open turns none harms has = (
  harms_part turns.next.question turns.next.harmed,
  has_harms new turns.next (none_then old new turns.marks turns.leaves none) (ap (λ (c : Council). c.exchange) turns.council),
  more (harms_are old exchange harms is_open has),
)
  where
    counted : (q : Question) (now before : List ℕ) (marks : ℕ) → length now ≤ length before + marks → harms_part q now ≤ harms_part q before + marks
    counted (Probe key) now before marks few = few
    counted (NextKeys places) now before marks few = omega arith
    counted (NewAges key least) now before marks few = omega arith
    counted (Removal key) now before marks few = omega arith

    more : harms_part exchange.question exchange.harmed ≡ harms → harms_part turns.next.question turns.next.harmed + length (mine 0 old.marks) ≤ harms + length (mine 0 new.marks)
    more is =
        let joined : length (mine 0 new.marks) ≡ length (mine 0 old.marks ++ mine 0 turns.marks) = ap (λ (l : List Mark). length (mine 0 l)) turns.leaves.made ∙ ap (λ (l : List Mark). length l) (mine_append 0 old.marks turns.marks) in
        omega (
          arith,
          counted exchange.question turns.next.harmed exchange.harmed (length (mine 0 turns.marks)) turns.harmed,
          ap (λ (q : Question). harms_part q turns.next.harmed) turns.question,
          is,
          joined,
          length-append (mine 0 old.marks) (mine 0 turns.marks),
        )

pub turn_held : {S V : Type 0} (m : Meaning S V) (old new : View S V) (asks_for : Inquiry) (key members : List ℕ) (v : Verdict) → HasProbe asks_for key members (own_part old 0) → IsKept old → Step m old (turn_of old 0 v) new → Held old new (OperatesIn IsAskingHarm (harm_by v) old new × ((them : List ℕ) → HasProbe asks_for key them (own_part old 0) → HasProbe asks_for key them (own_part new 0)) × MarksHarms old new × ((many : ℕ) → WasAskedBehind many (own_part old 0) → WasAskedBehind many (own_part new 0)))
turn_held {S} {V} m old new asks_for key members v has kept step_ =
    let by : StepTurnExchange m old v new = subst (λ (e : step.Event). Step m old e new) (turn_is old asks_for key members v has) step_ in
    let was = is_probed old asks_for key members has in
    let turns = turns_asking m v old new by in
    let held = operates (harm_by v) old new turns.marks turns.leaves turns.of_asking kept was.no_call (turns_planned turns) in
    record { does = (held.does, λ them asks. probe_then (harm_by v) old new asks_for key them by.at.exchange by.at.is_open turns asks, harms_then (harm_by v) old new by.at.exchange by.at.is_open turns was.no_call, λ many asked_then. behind_then (harm_by v) old new by.at.exchange many by.at.is_open turns was.no_call asked_then); kept = held.kept; last_proposer = held.last_proposer }

pub turn_may_tell : {S V : Type 0} (m : Meaning S V) (old mid : View S V) (asks_for : Inquiry) (key members : List ℕ) → HasProbe asks_for key members (own_part old 0) → Step m old (refusal_of old 0) mid → WasToldOrder mid (op.Stopped (answer.NoMemory false))
turn_may_tell {S} {V} m old mid asks_for key members has step_ =
    let by : StepRefuseTurnExchange m old mid = subst (λ (e : step.Event). Step m old e mid) (refusal_is old asks_for key members has) step_ in
    let was = is_probed old asks_for key members has in
    was_told_so mid (new_order (asked_for asks_for key)) (op.Stopped (answer.NoMemory false)) (refuses_asking m old mid (new_order (asked_for asks_for key)) was.order by).1 refl

pub turn_told : {S V : Type 0} (m : Meaning S V) (most : ℕ) (old mid new : View S V) (asks_for : Inquiry) (key members : List ℕ) (told : OpAnswer) → HasProbe asks_for key members (own_part old 0) → IsKept old → Step m old (refusal_of old 0) mid → StepTell mid told new → Held old new (IsToldIn (asked_for asks_for key) IsAskingHarm most old new told)
turn_told {S} {V} m most old mid new asks_for key members told has kept step_ ends =
    let by : StepRefuseTurnExchange m old mid = subst (λ (e : step.Event). Step m old e mid) (refusal_is old asks_for key members has) step_ in
    let was = is_probed old asks_for key members has in
    let refuses = refuses_asking m old mid (new_order (asked_for asks_for key)) was.order by in
    tells_in IsAskingHarm most old mid new (asked_for asks_for key) told (told_so (op.Stopped (answer.NoMemory false)) (new_order (asked_for asks_for key))) refuses.0 refuses.1 refl ends kept was.no_call (λ enters. absurd (enters 0 0))
    (λ not. lasts_told mid new (asked_for asks_for key) told (told_so (op.Stopped (answer.NoMemory false)) (new_order (asked_for asks_for key))) refuses.1 refl (λ era rescanned is. unfinished asks_for key era rescanned told is) ends ∙ refusal_planned m old mid by)

-- ---- what it found
pub may_gather_members : {S V : Type 0} (view : View S V) (asks_for : Inquiry) (key members : List ℕ) → HasProbe asks_for key members (own_part view 0) → (queue_at view.flow exchange_place).messages ≡ [] → MayGatherMembers view
may_gather_members view asks_for key members has none =
    let is = is_probed view asks_for key members has in
    record { order = new_order (asked_for asks_for key); is_order = is.order; exchange = is.exchange; is_open = is.is_open; beside = ap is_of_collection is.question; none_waits = none }

pub may_gather : {S V : Type 0} (view : View S V) (asks_for : Inquiry) (key members : List ℕ) → HasProbe asks_for key members (own_part view 0) → (queue_at view.flow exchange_place).messages ≡ [] → MayGather view
may_gather view asks_for key members has none = world.members (may_gather_members view asks_for key members has none)

gathering_is : {S V : Type 0} (view : View S V) (asks_for : Inquiry) (key members : List ℕ) → HasProbe asks_for key members (own_part view 0) → gathering_of view ≡ step.Gather
gathering_is view asks_for key members has =
    let is = is_probed view asks_for key members has in
    ap gathering_by is.is_open ∙ ap (λ (q : Question). if is_of_collection q then step.GatherCollect else step.Gather) is.question

gathers_by : {S V : Type 0} (m : Meaning S V) (old new : View S V) (asks_for : Inquiry) (key members : List ℕ) → HasProbe asks_for key members (own_part old 0) → Step m old (gathering_of old) new → StepGather old new
gathers_by {S} {V} m old new asks_for key members has step_ = subst (λ (e : step.Event). Step m old e new) (gathering_is old asks_for key members has) step_

-- it tells what was found, with its key, or that it stops; what it marks is nobody's
record GathersProbe {S V : Type 0} (m : Meaning S V) (old new : View S V) (asks_for : Inquiry) (key members : List ℕ) : Type 0 where
  marks : List Mark
  leaves : LeavesOtherCalls old new marks
  nobodys : AreNobodys marks
  said : OpAnswer
  order : new.council.order ≡ Some (told_so said (new_order (asked_for asks_for key)))
  planned : rescanned_of new.council.plan ≡ rescanned_of old.council.plan
  alone : (told : OpAnswer) → SaysTheSame said told → (marks ≡ []) ⊎ (told_marks (asked_for asks_for key) told ≡ [])
  answer : (told : OpAnswer) → SaysTheSame said told → IsProbeAnswer key members told
  silent : IsSteady m old → (harms : ℕ) → HasHarms harms (own_part old 0) → (told : OpAnswer) → SaysTheSame said told → IsSilentAtMost harms told
  truly : m.shelves.tells → m.disks.tells → IsSteady m old → IsSteady m new → (many : ℕ) → WasAskedBehind many (own_part old 0) → (told : OpAnswer) → SaysTheSame said told → IsTrueProbe (take many new.marks) new.marks told

-- what they found of the key is true of what says the same
truly_says : (before marks : List Mark) (key : List ℕ) (found : Probes) (told : OpAnswer) → AreToldSo (reverse marks) key found.probes.items → AreCurrentTells (reverse marks) before key found.probes.items → AreAllConfirmers (reverse marks) (named_in found) → SaysTheSame (op.Probed key found) told → IsTrueProbe before marks told
truly_says before marks key found (op.Probed other seen) so current all same = (
  subst (λ (k : List ℕ). AreToldSo (reverse marks) k seen.probes.items) same.0 (subst (AreToldSo (reverse marks) key) same.1 so),
  subst (λ (k : List ℕ). AreCurrentTells (reverse marks) before k seen.probes.items) same.0 (subst (AreCurrentTells (reverse marks) before key) same.1 current),
  subst (AreAllConfirmers (reverse marks)) (ap (map (λ (p : ProbeOf). p.acceptor)) same.1) all,
)
truly_says before marks key found (op.Joined id era rescanned) so current all same = tt
truly_says before marks key found (op.Left id era rescanned) so current all same = tt
truly_says before marks key found (op.Resized need_prep need_acc era rescanned) so current all same = tt
truly_says before marks key found (op.Refused fault) so current all same = tt
truly_says before marks key found (op.Busy era) so current all same = tt
truly_says before marks key found (op.Collected other ballot removed kept) so current all same = tt
truly_says before marks key found (op.NotEmpty version) so current all same = tt
truly_says before marks key found (op.Absent acceptor) so current all same = tt
truly_says before marks key found (op.ProposerDown proposer) so current all same = tt
truly_says before marks key found (op.Stopped why) so current all same = tt

-- what was found is not marked
found_adds_none : {S V : Type 0} (mid new : View S V) (key : List ℕ) (found : Probes) → StepTell mid (op.Probed key found) new → new.marks ≡ mid.marks
found_adds_none {S} {V} mid new key found (council.tells open_order said is_open says same is_new) = ap (λ (w : View S V). w.marks) is_new ∙ append-nil mid.marks
found_adds_none {S} {V} mid new key found (council.finishes open_order is_open finished is_new) = ap (λ (w : View S V). w.marks) is_new ∙ append-nil mid.marks
found_adds_none {S} {V} mid new key found (council.collects open_order is_open collected is_new) = ap (λ (w : View S V). w.marks) is_new ∙ append-nil mid.marks

-- so it is true of the record then
truly_then : {S V : Type 0} (mid new : View S V) (many : ℕ) (told : OpAnswer) → StepTell mid told new → IsTrueProbe (take many mid.marks) mid.marks told → IsTrueProbe (take many new.marks) new.marks told
truly_then mid new many (op.Probed key found) by is = subst (λ (marks : List Mark). IsTrueProbe (take many marks) marks (op.Probed key found)) (sym (found_adds_none mid new key found by)) is
truly_then mid new many (op.Joined id era rescanned) by is = tt
truly_then mid new many (op.Left id era rescanned) by is = tt
truly_then mid new many (op.Resized need_prep need_acc era rescanned) by is = tt
truly_then mid new many (op.Refused fault) by is = tt
truly_then mid new many (op.Busy era) by is = tt
truly_then mid new many (op.Collected other ballot removed kept) by is = tt
truly_then mid new many (op.NotEmpty version) by is = tt
truly_then mid new many (op.Absent acceptor) by is = tt
truly_then mid new many (op.ProposerDown proposer) by is = tt
truly_then mid new many (op.Stopped why) by is = tt

-- where those that told nothing are no more than this, it is told so
silent_says : (most : ℕ) (key : List ℕ) (found : Probes) (told : OpAnswer) → silent_in found.probes.items ≤ most → SaysTheSame (op.Probed key found) told → IsSilentAtMost most told
silent_says most key found (op.Probed other seen) few same = subst (λ (l : List ProbeOf). silent_in l ≤ most) same.1 few
silent_says most key found (op.Joined id era rescanned) few same = tt
silent_says most key found (op.Left id era rescanned) few same = tt
silent_says most key found (op.Resized need_prep need_acc era rescanned) few same = tt
silent_says most key found (op.Refused fault) few same = tt
silent_says most key found (op.Busy era) few same = tt
silent_says most key found (op.Collected other ballot removed kept) few same = tt
silent_says most key found (op.NotEmpty version) few same = tt
silent_says most key found (op.Absent acceptor) few same = tt
silent_says most key found (op.ProposerDown proposer) few same = tt
silent_says most key found (op.Stopped why) few same = tt

-- what says the same of what was found is such an answer, too
found_says : (key members : List ℕ) (found : Probes) (told : OpAnswer) → named_in found ≡ members → SaysTheSame (op.Probed key found) told → IsProbeAnswer key members told
found_says key members found (op.Probed other seen) names same = (sym same.0, ap (map (λ (p : ProbeOf). p.acceptor)) (sym same.1) ∙ names)
found_says key members found (op.Joined id era rescanned) names same = absurd (cc same)
found_says key members found (op.Left id era rescanned) names same = absurd (cc same)
found_says key members found (op.Resized need_prep need_acc era rescanned) names same = absurd (cc same)
found_says key members found (op.Refused fault) names same = absurd (cc same)
found_says key members found (op.Busy era) names same = absurd (cc same)
found_says key members found (op.Collected other ballot removed kept) names same = absurd (cc same)
found_says key members found (op.NotEmpty version) names same = absurd (cc same)
found_says key members found (op.Absent acceptor) names same = absurd (cc same)
found_says key members found (op.ProposerDown proposer) names same = absurd (cc same)
found_says key members found (op.Stopped why) names same = absurd (cc same)

-- it leaves no mark
found_unmarked : (asks : Asked) (key : List ℕ) (found : Probes) (told : OpAnswer) → SaysTheSame (op.Probed key found) told → told_marks asks told ≡ []
found_unmarked asks key found (op.Probed other seen) same = refl
found_unmarked asks key found (op.Joined id era rescanned) same = absurd (cc same)
found_unmarked asks key found (op.Left id era rescanned) same = absurd (cc same)
found_unmarked asks key found (op.Resized need_prep need_acc era rescanned) same = absurd (cc same)
found_unmarked asks key found (op.Refused fault) same = absurd (cc same)
found_unmarked asks key found (op.Busy era) same = absurd (cc same)
found_unmarked asks key found (op.Collected other ballot removed kept) same = absurd (cc same)
found_unmarked asks key found (op.NotEmpty version) same = absurd (cc same)
found_unmarked asks key found (op.Absent acceptor) same = absurd (cc same)
found_unmarked asks key found (op.ProposerDown proposer) same = absurd (cc same)
found_unmarked asks key found (op.Stopped why) same = absurd (cc same)

-- those who tell are those who were asked
heard_all : {S V : Type 0} (m : Meaning S V) (old : View S V) (exchange : ExchangeView) → old.council.exchange ≡ Some exchange → IsSteady m old → tellers_of exchange.told ≡ exchange.members
heard_all m old exchange is_open steady = (subst (λ (o : Option ExchangeView). IsHearing o (queue_at old.flow exchange_place).messages) is_open steady.answering).tellers

gathers_probe : {S V : Type 0} (m : Meaning S V) (old new : View S V) (asks_for : Inquiry) (key members : List ℕ) → IsProbed old asks_for key members → StepGather old new → GathersProbe m old new asks_for key members
gathers_probe {S} {V} m old new asks_for key members was by = by_case by.gathers
  where
    same_exchange : by.at.exchange ≡ was.exchange
    same_exchange = some_is (sym by.at.is_open ∙ was.is_open)

    asks : by.at.exchange.question ≡ Probe key
    asks = ap (λ (x : ExchangeView). x.question) same_exchange ∙ was.question

    leaves : (changed : View S V) → new ≡ changed → changed.last_proposer ≡ old.last_proposer → changed.desks ≡ old.desks → changed.callers ≡ old.callers → changed.marks ≡ old.marks → LeavesOtherCalls old new []
    leaves changed is last_proposer desks callers marks = leaves_desks old changed new [] is last_proposer desks callers (marks ∙ sym (append-nil old.marks))

    stopped : (why : Answer) → LeavesOtherCalls old new [] → new.council.order ≡ option_map (told_so (op.Stopped why)) old.council.order → rescanned_of new.council.plan ≡ rescanned_of old.council.plan → stops_probe why ≡ true → GathersProbe m old new asks_for key members
    stopped why left order planned stops = record {
      marks = [];
      leaves = left;
      nobodys = nobodys_none;
      said = op.Stopped why;
      order = order ∙ ap (option_map (told_so (op.Stopped why))) was.order;
      planned = planned;
      alone = λ told same. inl refl;
      answer = λ told same. stopped_answers key members told (stopped_says why told stops same);
      silent = λ steady harms has told same. stopped_silent harms told (stopped_says why told stops same);
      truly = λ shelves disks steady now many asked_then told same. stopped_truly (take many new.marks) new.marks told (stopped_says why told stops same);
    }

    few : IsSteady m old → (harms : ℕ) → HasHarms harms (own_part old 0) → (found : Probes) → found.probes.items ≡ by.at.exchange.told → by.at.exchange.crashed ≡ false → silent_in found.probes.items ≤ harms
    few steady harms has found keeps up =
        let harmed : length by.at.exchange.harmed ≡ harms = ap (λ (q : Question). harms_part q by.at.exchange.harmed) (sym asks) ∙ harms_are old by.at.exchange harms by.at.is_open has in
        omega (arith, silent_are_harmed old by.at.exchange steady.safe steady.answering by.at.is_open up by.none_waits, ap silent_in keeps, harmed)

    -- each that tells the key, and all who confirmed, are those that were asked
    so : m.shelves.tells → m.disks.tells → IsSteady m old → (found : Probes) → found.probes.items ≡ by.at.exchange.told → AreToldSo (reverse old.marks) key found.probes.items
    so shelves disks steady found keeps = subst (AreToldSo (reverse old.marks) key) (sym keeps) (probes_are_told_so m old by.at.exchange key (steady.probing shelves disks) (steady.unaged shelves disks) by.at.is_open asks)

    current : m.shelves.tells → m.disks.tells → IsSteady m old → (many : ℕ) → WasAskedBehind many (own_part old 0) → (found : Probes) → found.probes.items ≡ by.at.exchange.told → AreCurrentTells (reverse old.marks) (take many old.marks) key found.probes.items
    current shelves disks steady many asked_then found keeps =
        subst (AreCurrentTells (reverse old.marks) (take many old.marks) key) (sym keeps)
        (λ place one t at told. fewer_current old.marks key many by.at.exchange.since one.acceptor t (behind_is old by.at.exchange many by.at.is_open asked_then) (((steady.current shelves disks) by.at.exchange key by.at.is_open asks).told place one t at told))

    all : m.shelves.tells → m.disks.tells → IsSteady m old → IsSteady m new → new.eras ≡ old.eras → (found : Probes) → found.probes.items ≡ by.at.exchange.told → AreAllConfirmers (reverse new.marks) (named_in found)
    all shelves disks steady now eras found keeps =
        let same : everyone new ≡ named_in found = ap (λ (l : List Era). union_of (era_in l 0).prep (era_in l 0).acc) eras ∙ sym (steady.asking.asks by.at.exchange key by.at.is_open asks).1 ∙ sym (heard_all m old by.at.exchange by.at.is_open steady) ∙ ap tellers_of (sym keeps) in
        subst (AreAllConfirmers (reverse new.marks)) same (all_confirmers m new now.safe (now.remembered shelves disks) now.asking.unled)

    finds : (other : List ℕ) (found : Probes) (marks : List Mark) → by.at.exchange.crashed ≡ false → by.at.exchange.question ≡ Probe other → found.probes.items ≡ by.at.exchange.told → LeavesOtherCalls old new marks → AreNobodys marks → new.eras ≡ old.eras → new.council.order ≡ option_map (told_so (op.Probed other found)) old.council.order
        → rescanned_of new.council.plan ≡ rescanned_of old.council.plan → GathersProbe m old new asks_for key members
    finds other found marks up question keeps left nobodys eras order planned =
        let same_key : other ≡ key = cc (sym question ∙ asks) in
        record {
          marks = marks;
          leaves = left;
          nobodys = nobodys;
          said = op.Probed other found;
          order = order ∙ ap (option_map (told_so (op.Probed other found))) was.order;
          planned = planned;
          alone = λ told same. inr (found_unmarked (asked_for asks_for key) other found told same);
          answer = λ told same. found_says key members found told (ap (map (λ (p : ProbeOf). p.acceptor)) keeps ∙ ap asked_of same_exchange ∙ was.asks) (subst (λ (k : List ℕ). SaysTheSame (op.Probed k found) told) same_key same);
          silent = λ steady harms has told same. silent_says harms other found told (few steady harms has found keeps up) same;
          truly = λ shelves disks steady now many asked_then told same.
              let low : many ≤ length old.marks = omega (arith, behind_is old by.at.exchange many by.at.is_open asked_then, ((steady.current shelves disks) by.at.exchange key by.at.is_open asks).since) in
              truly_says (take many new.marks) new.marks other found told (subst (λ (k : List ℕ). AreToldSo (reverse new.marks) k found.probes.items) (sym same_key) (told_still m new old.marks marks left.made key (now.remembered shelves disks) found.probes.items (so shelves disks steady found keeps)))
              (subst (λ (k : List ℕ). AreCurrentTells (reverse new.marks) (take many new.marks) k found.probes.items) (sym same_key) (current_still m new old.marks marks left.made key many found.probes.items low (current shelves disks steady many asked_then found keeps))) (all shelves disks steady now eras found keeps) same;
        }

    by_case : Gathers old by.at.exchange new → GathersProbe m old new asks_for key members
    by_case (council.crashed down is) = stopped answer.Crashed (leaves _ is refl refl refl refl) (ap (λ (w : View S V). w.council.order) is) (ap (λ (w : View S V). rescanned_of w.council.plan) is) refl
    by_case (council.probed other found up question plain keeps is) = finds other found [] up question keeps (leaves _ is refl refl refl refl) nobodys_none (ap (λ (w : View S V). w.eras) is) (ap (λ (w : View S V). w.council.order) is) (ap (λ (w : View S V). rescanned_of w.council.plan) is)
    by_case (council.read other era found marks up question reads keeps made is) =
        finds other found marks up question keeps (leaves_desks old _ new marks is refl refl refl refl) (read_nobodys era other by.at.exchange.told (reverse old.marks) marks made) (ap (λ (w : View S V). w.eras) is) (ap (λ (w : View S V). w.council.order) is) (ap (λ (w : View S V). rescanned_of w.council.plan) is)
    by_case (council.lists of listing up enough on is) = absurd (cc (sym asks ∙ of.question))
    by_case (council.is_short of short up few is) = absurd (cc (sym asks ∙ of.question))
    by_case (council.no_memory up is) = stopped (answer.NoMemory false) (leaves _ is refl refl refl refl) (ap (λ (w : View S V). w.council.order) is) (ap (λ (w : View S V). rescanned_of w.council.plan) is) refl

-- nothing stands behind what is nobody's but what tells nothing
told_behind : (asks : Asked) (told : OpAnswer) (marks : List Mark) → AreNobodys marks → (marks ≡ []) ⊎ (told_marks asks told ≡ []) → MayAdd (marks ++ told_marks asks told)
told_behind asks told marks nobodys alone = elim alone [
  | inl none ↦ subst (λ (l : List Mark). MayAdd (l ++ told_marks asks told)) (sym none) (told_may_add asks told)
  | inr none ↦ subst (λ (l : List Mark). MayAdd (marks ++ l)) (sym none) (subst MayAdd (sym (append-nil marks)) nobodys.may_add)
]

pub gather_told : {S V : Type 0} (m : Meaning S V) (most : ℕ) (old mid new : View S V) (asks_for : Inquiry) (key members : List ℕ) (told : OpAnswer) → HasProbe asks_for key members (own_part old 0) → IsKept old → Step m old (gathering_of old) mid → WasToldOrder mid told → StepTell mid told new
    → Held old new (IsToldIn (asked_for asks_for key) IsAskingHarm most old new told × IsProbeAnswer key members told)
gather_told {S} {V} m most old mid new asks_for key members told has kept step_ said ends =
    let was = is_probed old asks_for key members has in
    let gathers = gathers_probe m old mid asks_for key members was (gathers_by m old mid asks_for key members has step_) in
    let same = says_same mid (new_order (asked_for asks_for key)) gathers.said told gathers.order said in
    let held = tells_after IsAskingHarm most old mid new gathers.marks (asked_for asks_for key) told (told_so gathers.said (new_order (asked_for asks_for key))) (own_step_of old mid gathers.marks gathers.leaves gathers.nobodys.may_add gathers.nobodys.only kept was.no_call)
    (subst (All IsAskingHarm) (sym gathers.nobodys.none_mine) (All-nil IsAskingHarm)) (omega (arith, ap losses gathers.nobodys.none_mine)) (told_behind (asked_for asks_for key) told gathers.marks gathers.nobodys (gathers.alone told same)) gathers.order refl ends (λ enters. absurd (enters 0 0))
    (λ not. lasts_told mid new (asked_for asks_for key) told (told_so gathers.said (new_order (asked_for asks_for key))) gathers.order refl (λ era rescanned is. unfinished asks_for key era rescanned told is) ends ∙ gathers.planned) in
    record { does = (held.does, gathers.answer told same); kept = held.kept; last_proposer = held.last_proposer }

-- no more are silent than were harmed
pub gather_silent : {S V : Type 0} (m : Meaning S V) (old mid : View S V) (asks_for : Inquiry) (key members : List ℕ) (told : OpAnswer) → HasProbe asks_for key members (own_part old 0) → Step m old (gathering_of old) mid → WasToldOrder mid told → IsSteady m old → (harms : ℕ) → HasHarms harms (own_part old 0) → IsSilentAtMost harms told
gather_silent {S} {V} m old mid asks_for key members told has step_ said steady harms harmed =
    let gathers = gathers_probe m old mid asks_for key members (is_probed old asks_for key members has) (gathers_by m old mid asks_for key members has step_) in
    gathers.silent steady harms harmed told (says_same mid (new_order (asked_for asks_for key)) gathers.said told gathers.order said)

-- and what is told is true
pub gather_truly : {S V : Type 0} (m : Meaning S V) (old mid new : View S V) (asks_for : Inquiry) (key members : List ℕ) (told : OpAnswer) → HasProbe asks_for key members (own_part old 0) → Step m old (gathering_of old) mid → WasToldOrder mid told → StepTell mid told new → IsSteady m old → m.shelves.tells → m.disks.tells
    → (many : ℕ) → WasAskedBehind many (own_part old 0) → IsTrueProbe (take many new.marks) new.marks told
gather_truly {S} {V} m old mid new asks_for key members told has step_ said ends steady shelves disks many asked_then =
    let gathers = gathers_probe m old mid asks_for key members (is_probed old asks_for key members has) (gathers_by m old mid asks_for key members has step_) in
    truly_then mid new many told ends (gathers.truly shelves disks steady (gathers_steady m old mid steady step_) many asked_then told (says_same mid (new_order (asked_for asks_for key)) gathers.said told gathers.order said))

-- ---- the members' answers were gathered
pub is_of_key : {S V : Type 0} (old new : View S V) (asks_for : Inquiry) (key members : List ℕ) (result : Gathered) → HasProbe asks_for key members (own_part old 0) → HasGathered old result new → IsOfKey result
is_of_key old new asks_for key members result has by = by_case by
  where
    was : IsProbed old asks_for key members
    was = is_probed old asks_for key members has

    by_case : HasGathered old result new → IsOfKey result
    by_case (world.probed exchange other found is_open question plain is keeps told) = subst IsOfKey (sym is) tt
    by_case (world.read exchange other era agreement found is_open question reads safe is keeps agrees told) = subst IsOfKey (sym is) tt
    by_case (world.lists exchange places plan listing is_open question is_plan is next) = absurd (cc (sym question ∙ ap (λ (x : ExchangeView). x.question) (some_is (sym is_open ∙ was.is_open)) ∙ was.question))
    by_case (world.acknowledged collection none is_collection is next) = absurd (cc (sym none ∙ was.is_open))
    by_case (world.confirmed exchange collection removed kept is_open of_it is_collection is next) =
        absurd (cc (sym of_it ∙ ap (λ (x : ExchangeView). is_of_collection x.question) (some_is (sym is_open ∙ was.is_open)) ∙ ap is_of_collection was.question))

module _ {S V : Type 0} (old mid : View S V) (asks_for : Inquiry) (key members : List ℕ) (result : Gathered) (found : Probes) (agreement : Option Agreement) (has : HasProbe asks_for key members (own_part old 0)) (parts : HasParts result found agreement) where
  was : IsProbed old asks_for key members
  was = is_probed old asks_for key members has

  asks_it : (exchange : ExchangeView) → old.council.exchange ≡ Some exchange → exchange.question ≡ Probe key
  asks_it exchange is_open = ap (λ (x : ExchangeView). x.question) (some_is (sym is_open ∙ was.is_open)) ∙ was.question

  was_found : (other : List ℕ) (it : Probes) → Probe other ≡ Probe key → found ≡ it → WasToldOrder mid (op.Probed other it) → WasToldOrder mid (op.Probed key found)
  was_found other it same same_found told =
      let same_key : other ≡ key = cc same in
      subst (λ (k : List ℕ). WasToldOrder mid (op.Probed k found)) same_key (subst (λ (f : Probes). WasToldOrder mid (op.Probed other f)) (sym same_found) told)

  pub found_told : HasGathered old result mid → WasToldOrder mid (op.Probed key found)
  found_told (world.probed exchange other it is_open question plain is keeps told) = was_found other it (sym question ∙ asks_it exchange is_open) (subst (λ (g : Gathered). HasParts g found agreement) is parts).0 told
  found_told (world.read exchange other era its it is_open question reads safe is keeps agrees told) = was_found other it (sym question ∙ asks_it exchange is_open) (subst (λ (g : Gathered). HasParts g found agreement) is parts).0 told
  found_told (world.lists exchange places plan listing is_open question is_plan is next) = absurd (cc (sym question ∙ asks_it exchange is_open))
  found_told (world.acknowledged collection none is_collection is next) = absurd (cc (sym none ∙ was.is_open))
  found_told (world.confirmed exchange collection removed kept is_open of_it is_collection is next) = absurd (cc (sym of_it ∙ ap is_of_collection (asks_it exchange is_open)))

-- no proposer enters an era
gather_eras : {S V : Type 0} (old new : View S V) → StepGather old new → new.eras ≡ old.eras
gather_eras {S} {V} old new by = by_case by.gathers
  where
    by_case : Gathers old by.at.exchange new → new.eras ≡ old.eras
    by_case (council.crashed down is) = ap (λ (w : View S V). w.eras) is
    by_case (council.probed key found up question plain keeps is) = ap (λ (w : View S V). w.eras) is
    by_case (council.read key era found marks up question reads keeps made is) = ap (λ (w : View S V). w.eras) is
    by_case (council.lists of listing up enough on is) = ap (λ (w : View S V). w.eras) is
    by_case (council.is_short of short up few is) = ap (λ (w : View S V). w.eras) is
    by_case (council.no_memory up is) = ap (λ (w : View S V). w.eras) is

-- a read is no probe
is_read : (reads : Option Era) (asks_for : Inquiry) → reads_part reads ≡ reads_flag asks_for → asks_for ≡ inquiry.Read → reads ≡ None → ⊥
is_read reads asks_for flag read none = absurd (omega (arith, ap reads_part none, flag, ap reads_flag read))

-- what is told of a read is agreed on so
pub gather_agrees : {S V : Type 0} (m : Meaning S V) (old mid new : View S V) (asks_for : Inquiry) (key members : List ℕ) (result : Gathered) (found : Probes) (agreement : Option Agreement) → HasProbe asks_for key members (own_part old 0) → HasParts result found agreement → HasGathered old result mid → Step m old (gathering_of old) mid
    → StepTell mid (op.Probed key found) new → IsSteady m old → asks_for ≡ inquiry.Read → IsAgreedSo m.shelves.tells m.disks.tells new.marks (op.Probed key found) agreement
gather_agrees {S} {V} m old mid new asks_for key members result found agreement has parts gathered_ step_ ends steady read = by_case gathered_
  where
    was : IsProbed old asks_for key members
    was = is_probed old asks_for key members has

    question_is : (exchange : ExchangeView) → old.council.exchange ≡ Some exchange → exchange.question ≡ Probe key
    question_is exchange is_open = ap (λ (x : ExchangeView). x.question) (some_is (sym is_open ∙ was.is_open)) ∙ was.question

    marked : m.shelves.tells → m.disks.tells → (era_at old 0).number ≡ era_marked 0 (reverse new.marks)
    marked shelves disks =
        let now = gathers_steady m old mid steady step_ in
        let eras : mid.eras ≡ old.eras = gather_eras old mid (gathers_by m old mid asks_for key members has step_) in
        ap (λ (l : List Era). (era_in l 0).number) (sym eras) ∙ era_is_marked m mid now.safe (now.remembered shelves disks) now.asking.unled ∙ ap (λ (l : List Mark). era_marked 0 (reverse l)) (sym (found_adds_none mid new key found ends))

    agreed : (exchange : ExchangeView) (era : Era) (its : Agreement) (it : Probes) → old.council.exchange ≡ Some exchange → exchange.reads ≡ Some era → IsReadSafe era exchange.members → it.probes.items ≡ exchange.told → IsAgreementOf era it.probes.items its → found ≡ it → IsAgreedIn m.shelves.tells m.disks.tells new.marks found its
    agreed exchange era its it is_open reads safe keeps agrees same = record {
      era = era;
      sized = safe.sized;
      meets = safe.meets;
      everyone = ap named_in same ∙ ap tellers_of keeps ∙ heard_all m old exchange is_open steady ∙ safe.everyone;
      number = λ shelves disks. ap (λ (e : Era). e.number) ((steady.asking.asks exchange key is_open (question_is exchange is_open)).2 era reads) ∙ marked shelves disks;
      agrees = subst (λ (f : Probes). IsAgreementOf era f.probes.items its) (sym same) agrees;
    }

    by_case : HasGathered old result mid → IsAgreedSo m.shelves.tells m.disks.tells new.marks (op.Probed key found) agreement
    by_case (world.probed exchange other it is_open question plain is keeps told) = absurd (is_read was.exchange.reads asks_for was.reads read (ap (λ (x : ExchangeView). x.reads) (some_is (sym was.is_open ∙ is_open)) ∙ plain))
    by_case (world.read exchange other era its it is_open question reads safe is keeps agrees told) =
        let both = subst (λ (g : Gathered). HasParts g found agreement) is parts in
        subst (IsAgreedSo m.shelves.tells m.disks.tells new.marks (op.Probed key found)) (sym both.1) (agreed exchange era its it is_open reads safe keeps agrees both.0)
    by_case (world.lists exchange places plan listing is_open question is_plan is next) = absurd (cc (sym question ∙ question_is exchange is_open))
    by_case (world.acknowledged collection none is_collection is next) = absurd (cc (sym none ∙ was.is_open))
    by_case (world.confirmed exchange collection removed kept is_open of_it is_collection is next) = absurd (cc (sym of_it ∙ ap is_of_collection (question_is exchange is_open)))

-- ---- and it is true
-- where nothing is agreed on, nothing is claimed
pub none_reads : (before all : List Mark) (told : OpAnswer) → IsTrueRead before all told None
none_reads before all (op.Probed key found) = tt
none_reads before all (op.Joined id era rescanned) = tt
none_reads before all (op.Left id era rescanned) = tt
none_reads before all (op.Resized need_prep need_acc era rescanned) = tt
none_reads before all (op.Refused fault) = tt
none_reads before all (op.Busy era) = tt
none_reads before all (op.Collected other ballot removed kept) = tt
none_reads before all (op.NotEmpty version) = tt
none_reads before all (op.Absent acceptor) = tt
none_reads before all (op.ProposerDown proposer) = tt
none_reads before all (op.Stopped why) = tt

-- so all is that was heard of what stopped it
pub stop_heard : (asks_for : Inquiry) (acceptors vaults : Type 0) (before all : List Mark) (told : OpAnswer) → IsProbeStop told → IsHeardTrue asks_for acceptors vaults before all (record { told = told; agreement = None })
stop_heard asks_for acceptors vaults before all told is = record {
  probed = λ tell keep. stopped_truly before all told is;
  agreed = λ read. stop_agrees acceptors vaults all told None is;
  read = λ tell keep. none_reads before all told;
}

-- a read that is gathered is over, and may have marked something
record ReadIsOver {S V : Type 0} (old mid : View S V) (exchange : ExchangeView) : Type 0 where
  up : exchange.crashed ≡ false
  over : mid.council.exchange ≡ None
  marks : List Mark
  made : mid.marks ≡ old.marks ++ marks

read_over : {S V : Type 0} (old mid : View S V) (asks_for : Inquiry) (key members : List ℕ) (era : Era) (told : List ℕ) (found : Probes) → IsProbed old asks_for key members → (by : StepGather old mid) → by.at.exchange.reads ≡ Some era → WasToldOrder mid (op.Probed told found) → ReadIsOver old mid by.at.exchange
read_over {S} {V} old mid asks_for key members era told found was by reads said = by_case by.gathers
  where
    asks : by.at.exchange.question ≡ Probe key
    asks = ap (λ (x : ExchangeView). x.question) (some_is (sym by.at.is_open ∙ was.is_open)) ∙ was.question

    not_stopped : (why : Answer) → mid.council.order ≡ option_map (told_so (op.Stopped why)) old.council.order → ReadIsOver old mid by.at.exchange
    not_stopped why order =
        let same : SaysTheSame (op.Stopped why) (op.Probed told found) = says_same mid (new_order (asked_for asks_for key)) (op.Stopped why) (op.Probed told found) (order ∙ ap (option_map (told_so (op.Stopped why))) was.order) said in
        absurd (cc same)

    by_case : Gathers old by.at.exchange mid → ReadIsOver old mid by.at.exchange
    by_case (council.crashed down is) = not_stopped answer.Crashed (ap (λ (w : View S V). w.council.order) is)
    by_case (council.probed other it up question plain keeps is) = absurd (cc (sym plain ∙ reads))
    by_case (council.read other its it marks up question its_era keeps made is) = record { up = up; over = ap (λ (w : View S V). w.council.exchange) is; marks = marks; made = ap (λ (w : View S V). w.marks) is }
    by_case (council.lists of listing up enough on is) = absurd (cc (sym asks ∙ of.question))
    by_case (council.is_short of short up few is) = absurd (cc (sym asks ∙ of.question))
    by_case (council.no_memory up is) = not_stopped (answer.NoMemory false) (ap (λ (w : View S V). w.council.order) is)

pub gather_reads : {S V : Type 0} (m : Meaning S V) (old mid new : View S V) (asks_for : Inquiry) (key members : List ℕ) (result : Gathered) (found : Probes) (agreement : Option Agreement) → HasProbe asks_for key members (own_part old 0) → HasParts result found agreement → HasGathered old result mid → Step m old (gathering_of old) mid
    → StepTell mid (op.Probed key found) new → IsSteady m old → m.shelves.tells → m.disks.tells → (many : ℕ) → WasAskedBehind many (own_part old 0) → IsTrueRead (take many new.marks) new.marks (op.Probed key found) agreement
gather_reads {S} {V} m old mid new asks_for key members result found agreement has parts gathered_ step_ ends steady shelves disks many asked_then = by_case gathered_
  where
    was : IsProbed old asks_for key members
    was = is_probed old asks_for key members has

    by : StepGather old mid
    by = gathers_by m old mid asks_for key members has step_

    question_is : (exchange : ExchangeView) → old.council.exchange ≡ Some exchange → exchange.question ≡ Probe key
    question_is exchange is_open = ap (λ (x : ExchangeView). x.question) (some_is (sym is_open ∙ was.is_open)) ∙ was.question

    none : agreement ≡ None → IsTrueRead (take many new.marks) new.marks (op.Probed key found) agreement
    none is = subst (IsTrueRead (take many new.marks) new.marks (op.Probed key found)) (sym is) tt

    truly : (exchange : ExchangeView) (era : Era) (its : Agreement) → old.council.exchange ≡ Some exchange → exchange.reads ≡ Some era → found.probes.items ≡ exchange.told → IsAgreementOf era found.probes.items its → WasToldOrder mid (op.Probed key found) → IsTrueAgreement (take many new.marks) new.marks key found its
    truly exchange era its is_open reads keeps agrees told =
        let same : by.at.exchange ≡ exchange = some_is (sym by.at.is_open ∙ is_open) in
        let over = subst (ReadIsOver old mid) same (read_over old mid asks_for key members era key found was by (ap (λ (x : ExchangeView). x.reads) same ∙ reads) told) in
        let asking : IsExchangeSafe exchange (queue_at old.flow exchange_place) = subst (λ (o : Option ExchangeView). IsAskingSafe o (queue_at old.flow exchange_place)) is_open steady.safe.sound.asking in
        let rises : Rises (map (λ (p : ProbeOf). p.acceptor) exchange.told) = subst Rises (sym (heard_all m old exchange is_open steady)) (set_rises exchange.members asking.member_set) in
        let it = read_truly m old mid exchange key era (steady.remembered shelves disks) ((gathers_steady m old mid steady step_).remembered shelves disks) (record { is_open = is_open; asks = question_is exchange is_open; reads = reads; up = over.up; step = by; over = over.over }) over.marks over.made
        ((steady.current shelves disks) exchange key is_open (question_is exchange is_open)).since rises many (behind_is old exchange many is_open asked_then) found its keeps agrees in
        subst (λ (l : List Mark). IsTrueAgreement (take many l) l key found its) (sym (found_adds_none mid new key found ends)) it

    by_case : HasGathered old result mid → IsTrueRead (take many new.marks) new.marks (op.Probed key found) agreement
    by_case (world.probed exchange other it is_open question plain is keeps told) = none (subst (λ (g : Gathered). HasParts g found agreement) is parts).1
    by_case (world.read exchange other era its it is_open question reads safe is keeps agrees told) =
        let both = subst (λ (g : Gathered). HasParts g found agreement) is parts in
        let kept : found.probes.items ≡ it.probes.items = ap (λ (f : Probes). f.probes.items) both.0 in
        subst (IsTrueRead (take many new.marks) new.marks (op.Probed key found)) (sym both.1)
        (truly exchange era its is_open reads (kept ∙ keeps) (subst (λ (l : List ProbeOf). IsAgreementOf era l its) (sym kept) agrees) (found_told old mid asks_for key members result found agreement has parts gathered_))
    by_case (world.lists exchange places plan listing is_open question is_plan is next) = absurd (cc (sym question ∙ question_is exchange is_open))
    by_case (world.acknowledged collection none_open is_collection is next) = absurd (cc (sym none_open ∙ was.is_open))
    by_case (world.confirmed exchange collection removed kept is_open of_it is_collection is next) = absurd (cc (sym of_it ∙ ap is_of_collection (question_is exchange is_open)))
