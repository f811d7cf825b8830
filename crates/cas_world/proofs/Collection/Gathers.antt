-- The steps of a collection in the whole: what its round and its exchanges came to, and its floor.
use Rattle.std.proofs.Common.{◌≡◌, ◌+◌, ◌≤◌, ◌<◌, ◌∷◌, ℕ, true, false, List, [], Option, None, Some, Result, Err, inl, inr, refl, sym, ap, subst, ◌∙◌, arith, length}
use Rattle.std.specs.Option.{option_map_or}
use Rattle.std.specs.Prelude.{◌⊎◌, Bool, IfErr, IfOk, is_some, option_map, if◌then◌else◌}
use Rattle.cas_change.specs.declared.state.State.TheVariants.{Empty}
use Rattle.cas_collect.specs.declared.collect.CollectStep.{CollectStep}
use Rattle.cas_collect.specs.declared.collect.CollectStep.TheVariants.{Round, Ages, Floor, Remove}
use Rattle.cas_flow.specs.Flow.{FlowView}
use Rattle.cas_proposer.specs.Desk.{DeskView}
use Rattle.cas_record.specs.declared.answer.Answer.TheVariants as answer
use Rattle.cas_record.specs.declared.mark.Mark.TheVariants as mark
use Rattle.cas_record.specs.declared.operator.OpAnswer.{OpAnswer}
use Rattle.cas_record.specs.declared.operator.OpAnswer.TheVariants as op
use Rattle.cas_model.specs.Collection.Logged.{is_after_floor}
use Rattle.cas_model.specs.Collection.State.{CollectionView, ages_of, confirmed_step, reserved_for_collection, tomb_of}
use Rattle.cas_model.specs.Council as cluster
use Rattle.cas_model.specs.Council.{exchange_place, ExchangeView, OrderView, reserved_by, telling, told_so, hushed, marks_of_read}
use Rattle.cas_model.specs.Safe.{IsSafe, IsOfCollection, is_of_collection, renewals_before}
use Rattle.cas_model.specs.Collection.Step as collect
use Rattle.cas_model.specs.Collection.Step.{CollectingAt, IsQuestionOf, IsRenewedBy, MayAskCollect, StepGatherRound, StepGatherCollect, StepMakeFloor}
use Rattle.cas_model.specs.History.{IsRemembered}
use Rattle.cas_model.specs.Parties.{IsAged}
use Rattle.cas_model.specs.Step as step
use Rattle.cas_model.specs.Step.{Step}
use Rattle.cas_model.specs.Calls.Step.{Sends, most_marks}
use Rattle.cas_model.specs.Exchanges.Step.{SaysTheSame, asked_by, everyone, new_exchange, questions_to, told_view, with_council, reads_by, read_era}
use Rattle.cas_model.specs.View.{Meaning, View, IsAt, era_at, reserved_in_all, with_marks}
use Rattle.cas_vault.specs.Vault.{kept_of}
use Rattle.cas_model.proofs.Collection.Laws.{requests_aged}
use Rattle.cas_model.proofs.Places.{some_is}
use Rattle.cas_model.proofs.Eras.Rescanning.{told_reserves}
use Rattle.cas_model.proofs.Safety.Parts.{at_low, low_at}
use Rattle.cas_model.proofs.ViewLaws.{floors_passed, members_clear}
use Rattle.cas_world_calls.specs.Collecting as gathers
use Rattle.cas_world_calls.specs.Collecting.{GathersCollectAs, GathersRoundAs, with_collection}
use Rattle.cas_world_calls.specs.Council.{exchange_view}
use Rattle.cas_world_calls.specs.declared.council.Gathered.{Gathered}
use Rattle.cas_world_calls.specs.declared.council.OpenExchange.{OpenExchange}
use Rattle.cas_world.specs.Collection.Collect.{AreFloorsPassed, GoesOnCollecting, IsDueStep}
use Rattle.cas_world.specs.Exchanges.Exchange as exchanges
use Rattle.cas_world.specs.Exchanges.Exchange.{HasGathered, MayAskCollected, MayGather, MayGatherCollected, MayGatherMembers, MayGatherRound, WasToldOrder}
use Rattle.cas_world.proofs.Exchanges.Asking.{idle_first}
use Rattle.cas_world.proofs.Collection.Collects.{hushed_so}
use Rattle.cas_world.proofs.Exchanges.Exchanges.{hushed_reserves}
use Rattle.cas_world.proofs.Eras.Planning.{told_last}
use Rattle.cas_quorum.specs.declared.era.Era.{Era}
use Rattle.cas_slot.specs.declared.ages.Ages.{Ages as LeastAges}

-- ---- the collection that is under way
-- the open call asked for it
abbrev pub collecting_at : {S V : Type 0} (view : View S V) (collection : CollectionView) → IsSafe view → view.council.collection ≡ Some collection → CollectingAt view.council
collecting_at view collection safe is = record {
  order = (safe.collection.each collection is).order;
  is_open = (safe.collection.each collection is).is_open;
  collection = collection;
  is_collection = is;
  is_for = (safe.collection.each collection is).is_for;
}

-- once all proposers are renewed for it
pub renewed_by : {S V : Type 0} (view : View S V) (collection : CollectionView) → IsSafe view → view.council.collection ≡ Some collection
    → renewals_before view.last_proposer collection.course.step ≡ view.last_proposer + 1 → (collection.course.step ≡ Round → ⊥) → IsRenewedBy view collection
renewed_by view collection safe is all past =
    let of = safe.collection.each collection is in
    let acked = of.acknowledged past in record {
      none_planned = of.none_planned;
      same_era = of.same_era;
      all_renewed = omega (arith, of.ages, all);
      ballot = acked.ballot;
      by = acked.by;
      acknowledged = acked.is;
    }

-- the operator's call is told so
told_in_view : {S V : Type 0} (view : View S V) (order : OrderView) (next : cluster.Council) (said : OpAnswer) → view.council.order ≡ Some order → next.order ≡ (telling view.council said).order
    → SaysTheSame said said → WasToldOrder (with_council view next) said
told_in_view view order next said is_open is itself = record { order = told_so said order; is_open = is ∙ ap (option_map (told_so said)) is_open; said = said; was_said = refl; same = itself }

-- ---- its round
-- the step, what is told of it, and that no more is reserved
pub record GathersByStep {S V : Type 0} (Happens : View S V → Type 0) (old : View S V) (result : Result Gathered OpAnswer) (new : View S V) : Type 0 where
  pub step_ : Happens new
  pub ok : IfOk result (λ found. HasGathered old found new)
  pub err : IfErr result (WasToldOrder new)
  pub reserves : reserved_by new.council ≤ reserved_by old.council

gathers_as : {S V : Type 0} (Happens : View S V → Type 0) (old new : View S V) (result is : Result Gathered OpAnswer) → result ≡ is → GathersByStep Happens old is new
    → GathersByStep Happens old result new
gathers_as Happens old new result is same has = subst (λ (r : Result Gathered OpAnswer). GathersByStep Happens old r new) (sym same) has

pub gathers_round : {S V : Type 0} (old : View S V) (result : Result Gathered OpAnswer) (next : cluster.Council) → IsSafe old → MayGatherRound old
    → GathersRoundAs (era_at old 0).acc old.council result next → GathersByStep (StepGatherRound old) old result (with_council old next)
gathers_round {S} {V} old result next safe may by = in_case by
  where
    step_of : (collection : CollectionView) (is : old.council.collection ≡ Some collection) → collect.GathersRound old (collecting_at old collection safe is) (with_council old next)
        → StepGatherRound old (with_council old next)
    step_of collection is gathers_ =
        let of = safe.collection.each collection is in
        let same : may.collection ≡ collection = some_is (sym may.is_collection ∙ is) in record {
          at = collecting_at old collection safe is;
          is_due = ap (λ (c : CollectionView). c.course.step) (sym same) ∙ may.is_due;
          over = ap (λ (c : CollectionView). c.calling) (sym same) ∙ may.over;
          caller = may.idle.caller;
          at_caller = may.idle.at_caller;
          idle = may.idle.none_open;
          none_planned = of.none_planned;
          same_era = of.same_era;
          gathers = gathers_;
        }

    told : (said : OpAnswer) (collection : CollectionView) (is : old.council.collection ≡ Some collection) → SaysTheSame said said → next ≡ telling old.council said
        → collect.GathersRound old (collecting_at old collection safe is) (with_council old next) → result ≡ Err said
        → GathersByStep (StepGatherRound old) old result (with_council old next)
    told said collection is itself next_is gathers_ answer_is = gathers_as (StepGatherRound old) old (with_council old next) result (Err said) answer_is (record {
      step_ = step_of collection is gathers_;
      ok = tt;
      err = told_in_view old (safe.collection.each collection is).order next said (safe.collection.each collection is).is_open (ap (λ (k : cluster.Council). k.order) next_is) itself;
      reserves = omega (arith, ap reserved_by next_is, told_reserves old.council.order said);
    })

    in_case : GathersRoundAs (era_at old 0).acc old.council result next → GathersByStep (StepGatherRound old) old result (with_council old next)
    in_case (gathers.all collection ballot by_ is acked all_ answer_is next_is) = gathers_as (StepGatherRound old) old (with_council old next) result _ answer_is (record {
      step_ = step_of collection is (collect.all ballot by_ acked all_ (ap (with_council old) next_is ∙ hushed_so old (safe.collection.each collection is).order (confirmed_step collection) (safe.collection.each collection is).is_open));
      ok =
          exchanges.acknowledged collection may.none_open is refl
          (next_is ∙ ap (λ (o : Option ExchangeView). record (hushed old.council) { exchange = o; collection = Some (confirmed_step collection) }) may.none_open);
      err = tt;
      reserves = omega (arith, ap reserved_by next_is, hushed_reserves old.council.order, ap reserved_for_collection is);
    })
    in_case (gathers.is_absent collection ballot by_ acceptor is acked least answer_is next_is) =
        told (op.Absent acceptor) collection is refl next_is (collect.is_absent ballot by_ acceptor acked least (ap (with_council old) next_is)) answer_is
    in_case (gathers.is_held collection version is held answer_is next_is) =
        told (op.NotEmpty version) collection is refl next_is (collect.is_held version held (ap (with_council old) next_is)) answer_is

-- ---- its exchanges
-- members are asked once all proposers are renewed
pub asks_late : (last_proposer : ℕ) (step : CollectStep) (collection : CollectionView) → collection.course.step ≡ step → gathers.asks_at step ≡ true
    → (renewals_before last_proposer collection.course.step ≡ last_proposer + 1) × (collection.course.step ≡ Round → ⊥)
asks_late last_proposer Ages collection is asks = (ap (renewals_before last_proposer) is, λ other. cc (is, other))
asks_late last_proposer Remove collection is asks = (ap (renewals_before last_proposer) is, λ other. cc (is, other))
asks_late last_proposer Round collection is asks = absurd (cc asks)
asks_late last_proposer Floor collection is asks = absurd (cc asks)
asks_late last_proposer other collection is asks = absurd (cc asks)

question_late : (last_proposer : ℕ) (collection : CollectionView) (question : cluster.Question) → IsQuestionOf collection question
    → (renewals_before last_proposer collection.course.step ≡ last_proposer + 1) × (collection.course.step ≡ Round → ⊥)
question_late last_proposer collection question (collect.tells_ages is asks) = asks_late last_proposer Ages collection is refl
question_late last_proposer collection question (collect.removes is asks) = asks_late last_proposer Remove collection is refl

pub gathers_collect : {S V : Type 0} (old : View S V) (result : Result Gathered OpAnswer) (next : cluster.Council) → IsSafe old → (may : MayGatherCollected old)
    → GathersCollectAs may.exchange old.council result next → GathersByStep (StepGatherCollect old) old result (with_council old next)
gathers_collect {S} {V} old result next safe may by = in_case by
  where
    of_it : IsOfCollection old.council.collection (era_at old 0) may.exchange
    of_it = safe.collection.exchange may.exchange may.is_open may.asks

    c : CollectionView
    c = of_it.collection

    is_c : old.council.collection ≡ Some c
    is_c = of_it.is_collection

    step_of : collect.GathersCollect old (collecting_at old c safe is_c) may.exchange (with_council old next) → StepGatherCollect old (with_council old next)
    step_of gathers_ =
        let late = question_late old.last_proposer c may.exchange.question of_it.asks in record {
          at = collecting_at old c safe is_c;
          of_exchange = record { exchange = may.exchange; is_open = may.is_open };
          is_renewed = renewed_by old c safe is_c late.0 late.1;
          asks = of_it.asks;
          tag = of_it.tag;
          members = of_it.members;
          none_waits = may.none_waits;
          gathers = gathers_;
        }

    told : (said : OpAnswer) → SaysTheSame said said → next ≡ record (telling old.council said) { exchange = None }
        → collect.GathersCollect old (collecting_at old c safe is_c) may.exchange (with_council old next) → result ≡ Err said → GathersByStep (StepGatherCollect old) old result (with_council old next)
    told said itself next_is gathers_ answer_is = gathers_as (StepGatherCollect old) old (with_council old next) result (Err said) answer_is (record {
      step_ = step_of gathers_;
      ok = tt;
      err = told_in_view old (safe.collection.each c is_c).order next said (safe.collection.each c is_c).is_open (ap (λ (k : cluster.Council). k.order) next_is) itself;
      reserves = omega (arith, ap reserved_by next_is, told_reserves old.council.order said);
    })

    in_case : GathersCollectAs may.exchange old.council result next → GathersByStep (StepGatherCollect old) old result (with_council old next)
    in_case (gathers.crashed crashed answer_is next_is) = told (op.Stopped answer.Crashed) refl next_is (collect.crashed crashed (ap (with_council old) next_is)) answer_is
    in_case (gathers.is_absent acceptor up least answer_is next_is) = told (op.Absent acceptor) refl next_is (collect.is_absent acceptor up least (ap (with_council old) next_is)) answer_is
    in_case (gathers.all collection up is confirmed answer_is next_is) =
        let same : collection ≡ c = some_is (sym is ∙ is_c) in
        let now : CollectionView → CollectionView =
        λ x. record (confirmed_step x) { removed = length (collect.those_telling collect.is_removed may.exchange.told); kept = length (collect.those_telling collect.is_kept may.exchange.told) } in
        let here : next ≡ record (hushed old.council) { exchange = None; collection = Some (now c) } =
        next_is ∙ ap (λ (x : CollectionView). record (hushed old.council) { exchange = None; collection = Some (now x) }) same in
        gathers_as (StepGatherCollect old) old (with_council old next) result _ answer_is (record {
          step_ = step_of (collect.all up confirmed (ap (with_council old) here
              ∙ ap (λ (o : Option OrderView). with_council old (record old.council { order = option_map cluster.silent_order o; exchange = None; collection = Some (now c) })) (safe.collection.each c is_c).is_open));
          ok = exchanges.confirmed may.exchange c _ _ may.is_open may.asks is_c refl here;
          err = tt;
          reserves = omega (arith, ap reserved_by here, hushed_reserves old.council.order, ap reserved_for_collection is_c);
        })

-- what it asks
abbrev pub may_ask_collect : {S V : Type 0} (view : View S V) (step : CollectStep) (desk : DeskView V) → IsSafe view → (may : MayAskCollected view step) → gathers.asks_at step ≡ true
    → IsAt view.desks 0 desk → MayAskCollect view desk
may_ask_collect view step desk safe may asks at =
    let late = asks_late view.last_proposer step may.collection may.is_due asks in record {
      at = collecting_at view may.collection safe may.is_collection;
      is_renewed = renewed_by view may.collection safe may.is_collection late.0 late.1;
      none_asked = may.none_open;
      caller = may.idle.caller;
      at_caller = may.idle.at_caller;
      at_desk = at;
      idle = idle_first view desk safe may.idle at;
    }

-- its question is asked of everyone
asked_all : {S V : Type 0} (view : View S V) (collection : CollectionView) (question : cluster.Question) → IsQuestionOf collection question → asked_by view question ≡ everyone view
asked_all view collection question (collect.tells_ages is asks) = ap (asked_by view) asks
asked_all view collection question (collect.removes is asks) = ap (asked_by view) asks

-- and nothing of a collection is read
ages_not_read : (order : Option OrderView) (key : List ℕ) (least : LeastAges) → reads_by order (cluster.NewAges key least) ≡ false
ages_not_read None key least = refl
ages_not_read (Some order) key least = refl

removal_not_read : (order : Option OrderView) (key : List ℕ) → reads_by order (cluster.Removal key) ≡ false
removal_not_read None key = refl
removal_not_read (Some order) key = refl

asked_plain : {S V : Type 0} (view : View S V) (collection : CollectionView) (question : cluster.Question) → IsQuestionOf collection question → read_era view question ≡ None
asked_plain view collection question (collect.tells_ages is asks) =
    ap (λ (b : Bool). if b then Some (era_at view 0) else None) (ap (reads_by view.council.order) asks ∙ ages_not_read view.council.order collection.course.key (ages_of collection.ages))
asked_plain view collection question (collect.removes is asks) =
    ap (λ (b : Bool). if b then Some (era_at view 0) else None) (ap (reads_by view.council.order) asks ∙ removal_not_read view.council.order collection.course.key)

-- whichever of its steps asks
pub record AsksAtStep {S V : Type 0} (view : View S V) : Type 0 where
  pub due : CollectStep
  pub may : MayAskCollected view due
  pub asks : gathers.asks_at due ≡ true

abbrev pub asks_either : {S V : Type 0} (view : View S V) → MayAskCollected view Ages ⊎ MayAskCollected view Remove → AsksAtStep view
asks_either view (inl may) = record { due = Ages; may = may; asks = refl }
asks_either view (inr may) = record { due = Remove; may = may; asks = refl }

question_at : (due : CollectStep) (collection : CollectionView) → collection.course.step ≡ due → gathers.asks_at due ≡ true → (question : cluster.Question) × IsQuestionOf collection question
question_at Ages collection is asks = (cluster.NewAges collection.course.key (ages_of collection.ages), collect.tells_ages is refl)
question_at Remove collection is asks = (cluster.Removal collection.course.key, collect.removes is refl)
question_at Round collection is asks = absurd (cc asks)
question_at Floor collection is asks = absurd (cc asks)
question_at other collection is asks = absurd (cc asks)

module _ {S V : Type 0} (m : Meaning S V) (old new : View S V) (desk : DeskView V) (safe : IsSafe old) (of : AsksAtStep old) (at : IsAt old.desks 0 desk) where
  abbrev at_it : CollectingAt old.council
  at_it = collecting_at old of.may.collection safe of.may.is_collection

  asks_so : collect.AsksCollect m old at_it desk new → Step m old step.AskCollect new
  asks_so by = record { desk = desk; may = may_ask_collect old of.due desk safe of.may of.asks at; asks = by }

  pub asks_down : desk.down ≡ true → new ≡ told_view old (op.Stopped answer.Down) → Step m old step.AskCollect new
  asks_down down view = asks_so (collect.is_down down view)

  pub asks_full : desk.down ≡ false → most_marks < length old.marks + reserved_in_all old + length (everyone old) → new ≡ told_view old (op.Stopped answer.RecordFull) → Step m old step.AskCollect new
  asks_full up many view =
      let one = question_at of.due of.may.collection of.may.is_due of.asks in
      asks_so (collect.is_full one.0 up one.1 (λ has. omega (arith, many, has, ap (λ (l : List ℕ). length l) (asked_all old of.may.collection one.0 one.1), ap (λ (r : Option Era). marks_of_read r (asked_by old one.0)) (asked_plain old of.may.collection one.0 one.1))) view)

  pub asks_lost : desk.down ≡ false → new ≡ told_view old (op.Stopped (answer.NoMemory false)) → Step m old step.AskCollect new
  asks_lost up view = asks_so (collect.no_memory up view)

  pub asks_all : (question : cluster.Question) (flow : FlowView) → desk.down ≡ false → IsQuestionOf of.may.collection question
      → length old.marks + reserved_in_all old + length (everyone old) ≤ most_marks → (m.disks.tells → IsAged m.disks (kept_of desk.vault).age desk.vault)
      → Sends old.flow exchange_place (questions_to (kept_of desk.vault).age (tomb_of of.may.collection.tombstone) question (everyone old)) flow
      → new ≡ with_council (record old { flow = flow }) (record old.council { exchange = Some (new_exchange question (tomb_of of.may.collection.tombstone) (everyone old) (length old.marks) None) })
      → Step m old step.AskCollect new
  asks_all question flow up is_it few aged sends view =
      asks_so (collect.asks question flow up is_it (omega (arith, few, ap (λ (l : List ℕ). length l) (asked_all old of.may.collection question is_it), ap (λ (r : Option Era). marks_of_read r (asked_by old question)) (asked_plain old of.may.collection question is_it))) aged sends view)

  -- the operator's call is told why not
  pub told_not : (said : OpAnswer) (result : OpAnswer) → new ≡ told_view old said → result ≡ said → WasToldOrder new result
  told_not said result view same = told_last old new at_it.order said result at_it.is_open view same

-- ---- its floor
pub makes_floor : {S V : Type 0} (old new : View S V) (next : cluster.Council) → IsSafe old → (due : IsDueStep old Floor)
    → next ≡ with_collection (hushed old.council) (λ c. record (confirmed_step c) { reserved = 0 })
    → new ≡ with_marks (with_council old next) (mark.Floor due.collection.course.key (tomb_of due.collection.tombstone) Empty ∷ []) → StepMakeFloor old new
makes_floor {S} {V} old new next safe due next_is is =
    let c = due.collection in
    let of = safe.collection.each c due.is_collection in record {
      at = collecting_at old c safe due.is_collection;
      is_due = due.is_due;
      is_renewed = renewed_by old c safe due.is_collection (ap (renewals_before old.last_proposer) due.is_due) (λ other. cc (due.is_due, other));
      view = is ∙ ap (λ (v : View S V). with_marks v (mark.Floor c.course.key (tomb_of c.tombstone) Empty ∷ []))
          (ap (with_council old) (next_is ∙ ap (λ (o : Option CollectionView). record (hushed old.council) { collection = option_map (λ x. record (confirmed_step x) { reserved = 0 }) o }) due.is_collection)
          ∙ hushed_so old of.order (record (confirmed_step c) { reserved = 0 }) of.is_open);
    }

-- a mark is reserved for it
pub floor_reserved : {S V : Type 0} (old : View S V) → IsSafe old → (due : IsDueStep old Floor) → 0 < due.collection.reserved
floor_reserved old safe due =
    let of = safe.collection.each due.collection due.is_collection in
    let acked = of.acknowledged (λ other. cc (due.is_due, other)) in
    of.reserved acked.ballot acked.by acked.is (ap is_after_floor due.is_due)

pub floor_goes_on : {S V : Type 0} (old new : View S V) (next : cluster.Council) → (due : IsDueStep old Floor)
    → next ≡ with_collection (hushed old.council) (λ c. record (confirmed_step c) { reserved = 0 }) → new.council ≡ next → GoesOnCollecting old new
floor_goes_on old new next due next_is is = record {
  collection = due.collection;
  was = due.is_collection;
  next = record (confirmed_step due.collection) { reserved = 0 };
  is = is ∙ next_is ∙ ap (λ (o : Option CollectionView). record (hushed old.council) { collection = option_map (λ c. record (confirmed_step c) { reserved = 0 }) o }) due.is_collection;
  course = refl;
}

-- ---- which of them is over
pub must_be_round : {S V : Type 0} (view : View S V) → view.council.exchange ≡ None → MayGather view → MayGatherRound view
must_be_round view none (exchanges.members may) = absurd (cc (none, may.is_open))
must_be_round view none (exchanges.collected may) = absurd (cc (none, may.is_open))
must_be_round view none (exchanges.its_round may) = may

abbrev asks_in : Option ExchangeView → Bool
asks_in exchange = option_map_or (λ e. is_of_collection e.question) exchange false

pub must_be_collected : {S V : Type 0} (view : View S V) → option_map_or (λ e. is_of_collection e.question) view.council.exchange false ≡ true → MayGather view → MayGatherCollected view
must_be_collected view asks (exchanges.members may) = absurd (cc (may.beside, sym (ap asks_in may.is_open) ∙ asks))
must_be_collected view asks (exchanges.collected may) = may
must_be_collected view asks (exchanges.its_round may) = absurd (cc (sym (ap asks_in may.none_open) ∙ asks))

pub must_be_members : {S V : Type 0} (view : View S V) → is_some view.council.exchange ≡ true → option_map_or (λ e. is_of_collection e.question) view.council.exchange false ≡ false
    → MayGather view → MayGatherMembers view
must_be_members view some asks (exchanges.members may) = may
must_be_members view some asks (exchanges.collected may) = absurd (cc (may.asks, sym (ap asks_in may.is_open) ∙ asks))
must_be_members view some asks (exchanges.its_round may) = absurd (cc (sym (ap is_some may.none_open) ∙ some))

pub some_seen : (exchange : Option OpenExchange) → is_some exchange ≡ true → is_some (option_map exchange_view exchange) ≡ true
some_seen None is = is
some_seen (Some exchange) is = refl

-- whatever was marked as one is passed
pub floors_kept : {S V : Type 0} (m : Meaning S V) (view : View S V) → m.shelves.tells → m.disks.tells → IsSafe view → IsRemembered m view → AreFloorsPassed m view
floors_kept m view shelves disks safe is = record {
  proposers = λ key floor id desk has at.
      let caller = at_low view.callers id (omega (arith, safe.sound.callers, safe.sound.desks, low_at view.desks id at)) in
      floors_passed m shelves disks view key floor id desk caller.0 is has at caller.1;
  members = λ key floor proposer id acceptor has known member at up left may. members_clear m shelves disks view key floor proposer id acceptor safe is has known member at up left may;
  requests =
      λ key floor id acceptor request left has member under to round same low may. requests_aged m shelves disks view key floor id acceptor request left safe is has member under to round same low may;
}
