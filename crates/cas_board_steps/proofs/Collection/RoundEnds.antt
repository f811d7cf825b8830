-- The call of a collection's round is over: a held state was read, or it is done.
use Rattle.std.proofs.Common.{◌≡◌, ℕ, Bool, true, false, if◌then◌else◌, List, [], ◌∷◌, ◌++◌, None, Some, slice_set, refl, sym, ap, subst, ◌∙◌, append-nil, arith}
use Rattle.std.proofs.lemmas.List.Elements.{All-append, All-nil}
use Rattle.cas_collect.specs.declared.collect.CollectStep.TheVariants as step
use Rattle.cas_record.specs.declared.answer.Answer.{Answer}
use Rattle.cas_record.specs.declared.answer.Answer.TheVariants as answer
use Rattle.cas_record.specs.declared.mark.Mark.{Mark}
use Rattle.cas_record.specs.declared.mark.Mark.TheVariants as kinds
use Rattle.cas_record.specs.declared.operator.Asked.TheVariants as asked
use Rattle.cas_world_calls.specs.Collecting.{is_sought}
use Rattle.cas_model.specs.Collection.State as cluster
use Rattle.cas_model.specs.Collection.State.{CollectionView, called}
use Rattle.cas_model.specs.Council.{Council, OrderView}
use Rattle.cas_protocol.specs.Protocol.{is_done}
use Rattle.cas_model.specs.Step.{StepCount, StepEnd}
use Rattle.cas_model.specs.Collection.Step as collect
use Rattle.cas_model.specs.Collection.Step.{StepReadHeld, StepCountCollect, CountedAs, StepEndCollect}
use Rattle.cas_model.specs.View.{Meaning, View, CallView, CallerView, IsAt}
use Rattle.cas_model.proofs.Places.{at_one, at_set, some_is}
use Rattle.cas_turn.specs.Seen.{OnlyOwnedBy}
use Rattle.cas_world.specs.Collection.Collect.{CountsTombstone}
use Rattle.cas_world.specs.Eras.Plans.{rescanned_of}
use Rattle.cas_board_steps.specs.Collection.Collecting.{CollectsAt, HasTombstoneCall, HasStep, IsTombstoneMark}
use Rattle.cas_board_steps.specs.Kept.{IsKept}
use Rattle.cas_board_steps.specs.Exchanges.Orders.{new_order, OperatesIn}
use Rattle.cas_board_steps.specs.Owners.{owner_of}
use Rattle.cas_board_steps.specs.OwnParts.{own_part}
use Rattle.cas_board_steps.proofs.Calls.Acts.{spares_set, spares_rounds}
use Rattle.cas_board_steps.proofs.Collection.Rounds.{LeadsOperator, leads_council, leads_then, makes_led, kept_led, none_kept, none_rescanned, reaches_over, ends_last, only_ended, such_ended, few_ended}
use Rattle.cas_board_steps.proofs.Collection.Collecting.{is_setting_tombstone, has_step}
use Rattle.cas_board_steps.proofs.Collection.Steps.{none_counted}
use Rattle.cas_board_steps.proofs.Calls.Events.{count_is_over}
use Rattle.cas_board_steps.proofs.Calls.Holds.{Held}
use Rattle.cas_board_steps.proofs.Calls.Tries.{done_no_conflict}

-- it is known then what became of it
over_at : (key : List ℕ) (council : Council) (order : OrderView) (c : CollectionView) → order ≡ new_order (asked.Collect key) → council.plan ≡ None → c.course.step ≡ step.Round → c.course.key ≡ key → c.calling ≡ false → is_sought c.tombstone ≡ false
    → CollectsAt key step.Round 2 (record council { order = Some (record order { told = None }); collection = Some c })
over_at key council order c asks none due same over known = record {
  order = ap (λ (o : OrderView). Some (record o { told = None })) asks;
  none_planned = none;
  collection = c;
  is_collection = refl;
  is_due = due;
  same_key = same;
  round_is = ap (λ (b : Bool). if b then 0 else if is_sought c.tombstone then 1 else 2) over ∙ ap (λ (b : Bool). if b then 1 else 2) known;
}

pub read_held : {S V : Type 0} (m : Meaning S V) (key : List ℕ) (call most : ℕ) (old new : View S V) → HasTombstoneCall key call (own_part old 0) old.marks → IsKept old → StepReadHeld m old new → Held old new (OperatesIn (IsTombstoneMark key) most old new × HasStep key step.Round (own_part new 0))
read_held {S} {V} m key call most old new has kept by =
    let is = is_setting_tombstone old key call old.marks has in
    let next : CallerView = record by.of_call.caller { call = None } in
    let callers : new.callers ≡ slice_set old.callers 0 next = ap (λ (w : View S V). w.callers) by.view in
    let leads : LeadsOperator old new [] = record {
      last_proposer = ap (λ (w : View S V). w.last_proposer) by.view;
      desks = spares_rounds 0 old.desks new.desks (spares_set 0 old.desks new.desks by.now (ap (λ (w : View S V). w.desks) by.view));
      callers = spares_set 0 old.callers new.callers next callers;
      made = ap (λ (w : View S V). w.marks) by.view ∙ sym (append-nil old.marks);
    } in
    let none : (one : CallerView) → IsAt new.callers 0 one → one.call ≡ None = λ one at. ap (λ (c : CallerView). c.call) (sym (at_one new.callers 0 (subst (λ (l : List CallerView). IsAt l 0 next) (sym callers) (at_set old.callers 0 by.of_call.caller next by.of_call.at_caller)) at)) in
    let only : OnlyOwnedBy owner_of 0 [] = All-nil (λ i. (n : ℕ) → owner_of i ≡ Some n → n ≡ 0) in
    let same : by.is.at.collection ≡ is.at.collection = some_is (sym by.is.at.is_collection ∙ is.at.is_collection) in
    let at : CollectsAt key step.Round 2 _ = over_at key old.council by.is.at.order (record (called by.is.at.collection) { tombstone = cluster.FoundHeld by.version }) (some_is (sym by.is.at.is_open ∙ is.at.order)) is.at.none_planned by.is.is_due (ap (λ (c : CollectionView). c.course.key) same ∙ is.at.same_key) refl refl in
    record {
      does = (
        record { marks = []; makes = makes_led old new [] leads tt only; all_such = All-nil (IsTombstoneMark key); few = omega arith; counts = λ enters. absurd (enters 0 0); keeps = λ not. ap (λ (w : View S V). rescanned_of w.council.plan) by.view ∙ none_counted is.at at },
        has_step new key step.Round (record { no_call = none; at = subst (λ (w : View S V). CollectsAt key step.Round 2 w.council) (sym by.view) at; none_asked = ap (λ (w : View S V). w.council.exchange) by.view ∙ is.none_asked }),
      );
      kept = kept_led old new [] leads only kept (none_kept new none);
      last_proposer = leads.last_proposer;
    }

-- by what it was told
pub counted_done : {S V : Type 0} (m : Meaning S V) (old new : View S V) (told : Answer) → is_done told ≡ true → CountsTombstone m old told new → StepCountCollect (λ before after. StepCount m before 0 after) old new
counted_done m old new (answer.Done state took ballot) e by = by
counted_done m old new (answer.Conflict met) e by = absurd (cc e)
counted_done m old new (answer.Aged least) e by = absurd (cc e)
counted_done m old new (answer.Full acceptor) e by = absurd (cc e)
counted_done m old new (answer.Short got need) e by = absurd (cc e)
counted_done m old new (answer.Moved era) e by = absurd (cc e)
counted_done m old new answer.Crashed e by = absurd (cc e)
counted_done m old new (answer.Unsettled why) e by = absurd (cc e)
counted_done m old new answer.Down e by = absurd (cc e)
counted_done m old new answer.VaultFault e by = absurd (cc e)
counted_done m old new answer.Spent e by = absurd (cc e)
counted_done m old new answer.RecordFull e by = absurd (cc e)
counted_done m old new (answer.NoMemory proposed) e by = absurd (cc e)

pub counted_not : {S V : Type 0} (m : Meaning S V) (old new : View S V) (told : Answer) → is_done told ≡ false → CountsTombstone m old told new → StepCount m old 0 new
counted_not m old new (answer.Done state took ballot) e by = absurd (cc e)
counted_not m old new (answer.Conflict met) e by = by
counted_not m old new (answer.Aged least) e by = by
counted_not m old new (answer.Full acceptor) e by = by
counted_not m old new (answer.Short got need) e by = by
counted_not m old new (answer.Moved era) e by = by
counted_not m old new answer.Crashed e by = by
counted_not m old new (answer.Unsettled why) e by = by
counted_not m old new answer.Down e by = by
counted_not m old new answer.VaultFault e by = by
counted_not m old new answer.Spent e by = by
counted_not m old new answer.RecordFull e by = by
counted_not m old new (answer.NoMemory proposed) e by = by

stopped_none : (told : Answer) → is_done told ≡ true → collect.stopped_by told ≡ None
stopped_none (answer.Done state took ballot) e = refl
stopped_none (answer.Conflict met) e = absurd (cc e)
stopped_none (answer.Aged least) e = absurd (cc e)
stopped_none (answer.Full acceptor) e = absurd (cc e)
stopped_none (answer.Short got need) e = absurd (cc e)
stopped_none (answer.Moved era) e = absurd (cc e)
stopped_none answer.Crashed e = absurd (cc e)
stopped_none (answer.Unsettled why) e = absurd (cc e)
stopped_none answer.Down e = absurd (cc e)
stopped_none answer.VaultFault e = absurd (cc e)
stopped_none answer.Spent e = absurd (cc e)
stopped_none answer.RecordFull e = absurd (cc e)
stopped_none (answer.NoMemory proposed) e = absurd (cc e)

-- what the count makes of the collection
record CountsAs (c now : CollectionView) : Type 0 where
  course : now.course ≡ c.course
  known : is_sought now.tombstone ≡ false

counts_as : {S V : Type 0} (old middle : View S V) (call : CallView) (c now : CollectionView) → CountedAs old middle call c now → CountsAs c now
counts_as old middle call c now (collect.acknowledges took a told made key era is) = record { course = ap (λ (k : CollectionView). k.course) is; known = ap (λ (k : CollectionView). is_sought k.tombstone) is }
counts_as old middle call c now (collect.finds_held version body took ballot told is) = record { course = ap (λ (k : CollectionView). k.course) is; known = ap (λ (k : CollectionView). is_sought k.tombstone) is }

-- it is done, and its call ends
pub done_held : {S V : Type 0} (m : Meaning S V) (key : List ℕ) (call most : ℕ) (old mid new : View S V) (told : Answer) → HasTombstoneCall key call (own_part old 0) old.marks → IsKept old → is_done told ≡ true → CountsTombstone m old told mid → StepEndCollect (λ before after. StepEnd m before 0 told after) mid told new
    → Held old new (OperatesIn (IsTombstoneMark key) most old new × HasStep key step.Round (own_part new 0))
done_held {S} {V} m key call most old mid new told has kept done counts by =
    let is = is_setting_tombstone old key call old.marks has in
    let c = counted_done m old mid told done counts in
    let at = c.counts.at_round.of_call in
    let over = count_is_over m 0 most old c.middle c.counts in
    let reaches = reaches_over key call most old c.middle at.caller at.call (ap (λ (k : CallerView). k.number) (at_one old.callers 0 at.at_caller is.at_caller) ∙ is.number) over in
    let to_mid : LeadsOperator old mid reaches.marks = leads_council old c.middle mid reaches.marks _ reaches.leads c.view in
    let ends = ends_last m told mid by.middle by.ends in
    let rounds : ℕ = by.ends.of_call.call.rounds in
    let there : IsAt mid.callers 0 reaches.caller = subst (λ (w : View S V). IsAt w.callers 0 reaches.caller) (sym c.view) reaches.at_caller in
    let number : by.ends.of_call.caller.number ≡ call = ap (λ (k : CallerView). k.number) (at_one mid.callers 0 by.ends.of_call.at_caller there) ∙ reaches.number in
    let ended : List Mark = kinds.Ended 0 call rounds told ∷ [] in
    let leads_end : LeadsOperator mid by.middle ended = subst (λ (k : ℕ). LeadsOperator mid by.middle (kinds.Ended 0 k rounds told ∷ [])) number ends.leads in
    let all : List Mark = reaches.marks ++ ended in
    let leads : LeadsOperator old new all = leads_council old by.middle new all _ (leads_then old mid by.middle reaches.marks ended to_mid leads_end) by.view in
    let only : OnlyOwnedBy owner_of 0 all = All-append (λ i. (k : ℕ) → owner_of i ≡ Some k → k ≡ 0) reaches.marks ended reaches.only (only_ended call rounds told) in
    let none : (one : CallerView) → IsAt new.callers 0 one → one.call ≡ None = λ one here. ends.none one (subst (λ (l : List CallerView). IsAt l 0 one) (ap (λ (w : View S V). w.callers) by.view) here) in
    let first_council : c.middle.council ≡ old.council = over.goes.acts.council in
    let plan_mid : mid.council.plan ≡ None = ap (λ (w : View S V). w.council.plan) c.view ∙ ap (λ (k : Council). k.plan) first_council ∙ is.at.none_planned in
    let second : by.middle.council ≡ mid.council = ap (λ (w : View S V). w.council) by.ends.ends.view ∙ none_rescanned by.ends.of_call.call.key told mid.council by.ends.ends.council plan_mid by.ends.ends.rescans in
    let same_now : by.is.at.collection ≡ c.now = some_is (sym by.is.at.is_collection ∙ ap (λ (w : View S V). w.council.collection) c.view) in
    let counted = counts_as old c.middle c.of_call.call c.is.at.collection c.now c.counted in
    let same_first : c.is.at.collection ≡ is.at.collection = some_is (sym c.is.at.is_collection ∙ is.at.is_collection) in
    let key_is : by.is.at.collection.course.key ≡ key = ap (λ (k : CollectionView). k.course.key) same_now ∙ ap (λ k. k.key) counted.course ∙ ap (λ (k : CollectionView). k.course.key) same_first ∙ is.at.same_key in
    let order_mid : by.is.at.order ≡ new_order (asked.Collect key) = some_is (sym by.is.at.is_open ∙ ap (λ (w : View S V). w.council.order) c.view ∙ ap (λ (o : OrderView). Some (record o { told = None })) (some_is (sym c.is.at.is_open ∙ is.at.order))) in
    let at_now : CollectsAt key step.Round 2 _ = over_at key by.middle.council by.is.at.order (called by.is.at.collection) order_mid (ap (λ (k : Council). k.plan) second ∙ plan_mid) by.is.is_due key_is refl (ap (λ (k : CollectionView). is_sought k.tombstone) same_now ∙ counted.known) in
    let silent : new ≡ collect.collecting by.middle by.is.at.order None (called by.is.at.collection) = by.view ∙ ap (λ (o : _). collect.collecting by.middle by.is.at.order o (called by.is.at.collection)) (stopped_none told done) in
    record {
      does = (
        record { marks = all; makes = makes_led old new all leads (reaches.may_end rounds told) only; all_such = such_ended (IsTombstoneMark key) key call rounds told reaches.marks (λ mark such. such) (done_no_conflict told done) reaches.such; few = few_ended call rounds most told reaches.marks reaches.few; counts = λ enters. absurd (enters 0 0); keeps = λ not. ap (λ (w : View S V). rescanned_of w.council.plan) silent ∙ none_counted is.at at_now },
        has_step new key step.Round (record { no_call = none; at = subst (λ (w : View S V). CollectsAt key step.Round 2 w.council) (sym silent) at_now; none_asked = ap (λ (w : View S V). w.council.exchange) silent ∙ ap (λ (k : Council). k.exchange) second ∙ ap (λ (w : View S V). w.council.exchange) c.view ∙ ap (λ (k : Council). k.exchange) first_council ∙ is.none_asked }),
      );
      kept = kept_led old new all leads only kept (none_kept new none);
      last_proposer = leads.last_proposer;
    }
