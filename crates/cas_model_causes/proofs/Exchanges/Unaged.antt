-- What acceptors ask proposer 0 for stays within what frames tell them.
use Rattle.std.proofs.Common.{◌≡◌, ◌<◌, ℕ, ◌+◌, Bool, true, false, max, List, [], ◌∷◌, ◌++◌, length, Option, None, Some, Ok, slice_get, slice_set, refl, sym, ap, subst, ◌∙◌, inl, inr, arith}
use Rattle.std.specs.Prelude.{if◌then◌else◌, nat_lt, map, take, drop, Contains}
use Rattle.cas_ballot.specs.declared.ballot.Ballot.{Ballot}
use Rattle.cas_base.proofs.Bools.{true_or_false}
use Rattle.cas_change.specs.declared.program.Clause.{Clause}
use Rattle.cas_fate.specs.declared.fate.Verdict.{Verdict}
use Rattle.cas_record.specs.declared.answer.Answer.{Answer}
use Rattle.cas_record.specs.declared.operator.Asked.{Asked}
use Rattle.cas_record.specs.declared.operator.OpAnswer.{OpAnswer}
use Rattle.cas_flow.specs.Flow.{FlowView, queue_at, taken, queue_after, abandoned, all_joined, joined_by, is_late, late_after}
use Rattle.cas_flow.specs.Queue.{QueueView, pushed, joined}
use Rattle.cas_flow.specs.declared.message.Message.{Message}
use Rattle.cas_flow.specs.declared.message.Message.TheVariants as message
use Rattle.cas_acceptor.specs.Acceptor.{AcceptorView, LeavesByTable}
use Rattle.cas_proposer.specs.Desk.{DeskView}
use Rattle.cas_slot.specs.Ages.{least_age}
use Rattle.cas_slot.proofs.AgeLemmas.{least_age-raised}
use Rattle.cas_slot.specs.Contents.{Contents, nothing, with_raised}
use Rattle.cas_slot.specs.Shelf.{Left}
use Rattle.cas_slot.specs.Table.{Handles, Answers}
use Rattle.cas_slot.specs.declared.ages.Ages.{Ages}
use Rattle.cas_slot.specs.declared.message.Ask.{Ask}
use Rattle.cas_slot.specs.declared.message.Ask.TheVariants as ask
use Rattle.cas_slot.specs.declared.message.Reply.{Reply}
use Rattle.cas_slot.specs.declared.message.Request.{Request}
use Rattle.cas_slot.specs.declared.message.Tell.{Tell}
use Rattle.cas_slot.specs.declared.message.Tell.TheVariants as tell
use Rattle.cas_vault.specs.Vault.{kept_of}
use Rattle.cas_round.proofs.Lists.{has}
use Rattle.cas_model.specs.Collection.State.{CollectionView, ages_of, tomb_of}
use Rattle.cas_model.specs.Council.{Question, Probe, NextKeys, NewAges, Removal, exchange_place}
use Rattle.cas_model.specs.Step as step
use Rattle.cas_model.specs.Step.{Step}
use Rattle.cas_model.specs.Frames.Acceptors.{AnswersByTable, StopsWithin, FindsNoMemory, CrashesShelf, StartsShelf, FailsToStart}
use Rattle.cas_model.specs.Calls.Step as calls
use Rattle.cas_model.specs.Collection.Step as collect
use Rattle.cas_model.specs.Exchanges.Step as council
use Rattle.cas_model.specs.Frames.Step as frames
use Rattle.cas_model.specs.Frames.Step.{replied_flow, without_late, with_late}
use Rattle.cas_model.specs.Eras.Step as plans
use Rattle.cas_model.specs.Stops.Step as stops
use Rattle.cas_model.specs.Stops.Step.{LeavesRound, GoesDown}
use Rattle.cas_model.specs.View.{ShelfMeaning, Meaning, View, CallView, IsAt}
use Rattle.cas_model.proofs.Calls.Ends.{none_left, others_left}
use Rattle.cas_model.proofs.Frames.Steps.{taken_thins}
use Rattle.cas_model.proofs.Frames.Harms.{has_of_map}
use Rattle.cas_model.proofs.Places.{same_or_not, but_set, queue_other, contains_at, contains_append, contains_none, contains_new, contains_older, contains_take, contains_drop, newest_or_older}
use Rattle.cas_model_causes.specs.Exchanges.Unaged.{AsksWithin, TellsWithin, BearsWithin, FlowsWithin, AreWithin}
use Rattle.cas_model_causes.proofs.Exchanges.Answering.{replied_messages}

-- of which ages it holds: of none, and of the greater of two
pub record IsOfAges (P : ℕ → Type 0) : Type 0 where
  pub none : P 0
  pub greater : (a b : ℕ) → P a → P b → P (max a b)

module _ (P : ℕ → Type 0) (of : IsOfAges P) where
  -- ---- acceptors
  abbrev Keeps : Contents → Type 0
  Keeps contents = P (least_age contents.ages 0)

  same_ages : (old new : Contents) → new.ages ≡ old.ages → Keeps old → Keeps new
  same_ages old new same was = subst (λ (a : Ages). P (least_age a 0)) (sym same) was

  raised_within : (old : Contents) (least : Ages) → Keeps old → P (least_age least 0) → Keeps (with_raised old least)
  raised_within old least was tells = subst P (sym (least_age-raised old.ages least 0 (omega arith))) (of.greater (least_age old.ages 0) (least_age least 0) was tells)

  -- an acceptor keeps so what it answers by its table
  by_table : (old : Contents) (question : Ask) (told : Tell) (new : Contents) → Answers old question told new → TellsWithin P question → Keeps old → Keeps new
  by_table old (ask.Prepare key ballot) (tell.Met seen) new row tells was = same_ages old new (ap (λ (c : Contents). c.ages) row.2) was
  by_table old (ask.Prepare key ballot) (tell.Promised accepted) new row tells was = elim row.1 [
    | inl again ↦ same_ages old new (ap (λ (c : Contents). c.ages) again.1) was
    | inr now ↦ same_ages old new (ap (λ (c : Contents). c.ages) now.2) was
  ]
  by_table old (ask.Prepare key ballot) tell.Full new row tells was = same_ages old new (ap (λ (c : Contents). c.ages) row.2) was
  by_table old (ask.Accept key ballot era ride state) tell.Accepted new row tells was = elim row [
    | inl again ↦ same_ages old new (ap (λ (c : Contents). c.ages) again.1) was
    | inr now ↦ same_ages old new (ap (λ (c : Contents). c.ages) now.3) was
  ]
  by_table old (ask.Accept key ballot era ride state) (tell.Met seen) new row tells was = same_ages old new (ap (λ (c : Contents). c.ages) row.3) was
  by_table old (ask.Accept key ballot era ride state) tell.Full new row tells was = same_ages old new (ap (λ (c : Contents). c.ages) row.2) was
  by_table old (ask.Ages tag least) tell.AgesSet new row tells was = subst Keeps (sym row) (raised_within old least was tells)
  by_table old (ask.Remove key tomb) tell.Removed new row tells was = elim row [
    | inl absent ↦ same_ages old new (ap (λ (c : Contents). c.ages) absent.1) was
    | inr gone ↦ same_ages old new (ap (λ (c : Contents). c.ages) gone.1) was
  ]
  by_table old (ask.Remove key tomb) tell.Kept new row tells was = same_ages old new (ap (λ (c : Contents). c.ages) row.2) was
  by_table old (ask.List tag after) (tell.Listed told keys more) new row tells was = same_ages old new (ap (λ (c : Contents). c.ages) row.3) was
  by_table old (ask.Probe tag key) (tell.Probed promise accepted) new row tells was = same_ages old new (ap (λ (c : Contents). c.ages) row.2) was
  by_table old question answer new row tells was = absurd row

  handled : (old : Contents) (request : Request) (told : Tell) (new : Contents) → Handles old request told new → TellsWithin P request.ask → Keeps old → Keeps new
  handled old request (tell.Aged least) new row tells was = same_ages old new (ap (λ (c : Contents). c.ages) row.2) was
  handled old request (tell.Promised accepted) new row tells was = by_table old request.ask (tell.Promised accepted) new row.1 tells was
  handled old request tell.Accepted new row tells was = by_table old request.ask tell.Accepted new row.1 tells was
  handled old request (tell.Met seen) new row tells was = by_table old request.ask (tell.Met seen) new row.1 tells was
  handled old request tell.Full new row tells was = by_table old request.ask tell.Full new row.1 tells was
  handled old request tell.AgesSet new row tells was = by_table old request.ask tell.AgesSet new row.1 tells was
  handled old request tell.Removed new row tells was = by_table old request.ask tell.Removed new row.1 tells was
  handled old request tell.Kept new row tells was = by_table old request.ask tell.Kept new row.1 tells was
  handled old request (tell.Listed after keys more) new row tells was = by_table old request.ask (tell.Listed after keys more) new row.1 tells was
  handled old request (tell.Probed promise accepted) new row tells was = by_table old request.ask (tell.Probed promise accepted) new row.1 tells was

  module _ {S : Type 0} (m : ShelfMeaning S) (shelves : m.tells) where
    only : (contents left : Contents) → (may : m.may_leave ≡ m.may_leave) → ◌≡◌ {A = Left} (Ok left) (Ok contents) → Keeps contents → Keeps left
    only contents left may same was = let one : left ≡ contents = cc same in subst Keeps (sym one) was

    answers_within : (old now : AcceptorView S) (request : Request) (reply : Reply) → AnswersByTable m old now request reply → TellsWithin P request.ask → AsksWithin m P old → AsksWithin m P now
    answers_within old now request reply by tells was =
        let keeps : Keeps (m.contents now.shelf) = handled (m.contents old.shelf) request reply.tell (m.contents now.shelf) by.table.row tells (was.keeps by.up) in
        record { keeps = λ up. keeps; left = λ started left may. only (m.contents now.shelf) left refl (by.lasts shelves (Ok left) may) keeps }

    no_memory_within : (old now : AcceptorView S) → FindsNoMemory m old now → AsksWithin m P old → AsksWithin m P now
    no_memory_within old now by was =
        let keeps : Keeps (m.contents now.shelf) = subst Keeps (sym by.kept) (was.keeps by.up) in
        record { keeps = λ up. keeps; left = λ started left may. only (m.contents now.shelf) left refl (by.lasts shelves (Ok left) may) keeps }

    stops_within : (old now : AcceptorView S) (request : Request) → StopsWithin m old now request → TellsWithin P request.ask → AsksWithin m P old → AsksWithin m P now
    stops_within old now request by tells was = record {
      keeps = λ up. absurd (cc (sym (ap (λ (a : AcceptorView S). a.down) by.acceptor) ∙ up));
      left = λ started left may. left_by left (by.leaves shelves (Ok left) may);
    }
      where
        left_by : (left : Contents) → LeavesByTable (m.contents old.shelf) request (Ok left) → Keeps left
        left_by left (inl same) = only (m.contents old.shelf) left refl same (was.keeps by.up)
        left_by left (inr row) = only row.1 left refl row.3 (handled (m.contents old.shelf) request row.0 row.1 row.2 tells (was.keeps by.up))

    starts_within : (old now : AcceptorView S) → StartsShelf m old now → AsksWithin m P old → AsksWithin m P now
    starts_within old now by was =
        let keeps : Keeps (m.contents now.shelf) = elim (true_or_false old.started) [
          | inl started ↦ was.left started (m.contents now.shelf) (by.reopened shelves started)
          | inr none ↦ subst Keeps (sym (by.afresh none)) nothing_within
        ] in
        record { keeps = λ up. keeps; left = λ started left may. only (m.contents now.shelf) left refl (by.lasts shelves (Ok left) may) keeps }
      where
        nothing_within : Keeps nothing
        nothing_within = of.none

    fails_within : (old now : AcceptorView S) → FailsToStart m old now → AsksWithin m P old → AsksWithin m P now
    fails_within old now by was = record {
      keeps = λ up. absurd (cc (sym up ∙ ap (λ (a : AcceptorView S). a.down) by.acceptor ∙ by.was_down));
      left = λ started left may. let before : old.started ≡ true = sym (ap (λ (a : AcceptorView S). a.started) by.acceptor) ∙ started in was.left before left (by.leaves shelves before (Ok left) may);
    }

    crashes_within : (old now : AcceptorView S) → CrashesShelf m old now → AsksWithin m P old → AsksWithin m P now
    crashes_within old now by was = record {
      keeps = λ up. absurd (cc (sym (ap (λ (a : AcceptorView S). a.down) by.acceptor) ∙ up));
      left = λ started left may.
          let settled = by.settled shelves in
          was.left (sym (ap (λ (a : AcceptorView S). a.started) by.acceptor) ∙ started) left (subst (m.may_leave old.shelf) (sym (settled.nothing_else (Ok left) may)) settled.was_possible);
    }

    put_within : (acceptors : List (AcceptorView S)) (id : ℕ) (was now : AcceptorView S) → IsAt acceptors id was → AsksWithin m P now → ((p : ℕ) (a : AcceptorView S) → IsAt acceptors p a → AsksWithin m P a) → (p : ℕ) (a : AcceptorView S) → IsAt (slice_set acceptors id now) p a → AsksWithin m P a
    put_within acceptors id was now at within all p a there = elim (but_set acceptors id now p a there) [
      | inl here ↦ subst (AsksWithin m P) (sym here.1) within
      | inr other ↦ all p a other.1
    ]

  -- ---- frames
  joined_within : (late : List Message) (one : Message) → BearsWithin P one → ((each : Message) → Contains late each → BearsWithin P each) → (each : Message) → Contains (joined late one) each → BearsWithin P each
  joined_within late one tells were each = by_room (nat_lt (length late) 65536)
    where
      by_room : (b : Bool) → Contains (if b then late ++ one ∷ [] else late) each → BearsWithin P each
      by_room true there = elim (contains_append late (one ∷ []) there) [
        | inl before ↦ were each before
        | inr last ↦ elim (newest_or_older [] last) [ inl now ↦ subst (BearsWithin P) now tells | inr none ↦ absurd (contains_none none) ]
      ]
      by_room false there = were each there

  all_within : (messages late : List Message) → ((each : Message) → Contains messages each → BearsWithin P each) → ((each : Message) → Contains late each → BearsWithin P each) → (each : Message) → Contains (all_joined late messages) each → BearsWithin P each
  all_within [] late own were = were
  all_within (one ∷ messages) late own were = all_within messages (joined late one) (λ each there. own each (contains_older messages there)) (joined_within late one (own one (contains_new one messages)) were)

  late_within : (late : List Message) (queue : QueueView) (v : Verdict) → ((each : Message) → Contains queue.messages each → BearsWithin P each) → ((each : Message) → Contains late each → BearsWithin P each) → (each : Message) → Contains (late_after late queue v) each → BearsWithin P each
  late_within late queue v own were each = by_late (is_late queue.again v)
    where
      by_front : (front : Option Message) → slice_get queue.messages 0 ≡ front → Contains (joined_by late front) each → BearsWithin P each
      by_front None e there = were each there
      by_front (Some one) e there = joined_within late one (own one (contains_at queue.messages 0 one e)) were each there

      by_late : (b : Bool) → Contains (if b then joined_by late (slice_get queue.messages 0) else late) each → BearsWithin P each
      by_late true there = by_front (slice_get queue.messages 0) refl there
      by_late false there = were each there

  -- another queue at one place
  own_within : (old new : FlowView) (id : ℕ) → ((p : ℕ) → (p ≡ id → ⊥) → (queue_at new p).messages ≡ (queue_at old p).messages) → ((each : Message) → Contains (queue_at new id).messages each → BearsWithin P each) → FlowsWithin P old → (p : ℕ) (each : Message) → Contains (queue_at new p).messages each → BearsWithin P each
  own_within old new id others here was p each there = elim (same_or_not p id) [
    | inl same ↦ here each (subst (λ (n : ℕ). Contains (queue_at new n).messages each) same there)
    | inr other ↦ was.own p each (subst (λ (l : List Message). Contains l each) (others p other) there)
  ]

  taken_within : (flow : FlowView) (id : ℕ) (v : Verdict) {front : Message} → slice_get (queue_at flow id).messages 0 ≡ Some front → FlowsWithin P flow → FlowsWithin P (taken flow id v)
  taken_within flow id v e was = record {
    own = own_within flow (taken flow id v) id (λ p other. ap (λ (q : QueueView). q.messages) (queue_other flow.own id p (queue_after (queue_at flow id) v) other)) (λ each there. was.own id each ((taken_thins flow id v e).before each there)) was;
    late = late_within flow.late (queue_at flow id) v (was.own id) was.late;
  }

  replied_within : (flow : FlowView) (id : ℕ) (v : Verdict) (reply : Reply) {front : Message} → slice_get (queue_at flow id).messages 0 ≡ Some front → FlowsWithin P flow → FlowsWithin P (replied_flow flow id v reply)
  replied_within flow id v reply e was = let first = taken_within flow id v e was in record {
    own = own_within (taken flow id v) (replied_flow flow id v reply) id (λ p other. ap (λ (q : QueueView). q.messages) (queue_other (taken flow id v).own id p (pushed (queue_at (taken flow id v) id) (message.Reply reply)) other))
        (λ each there. elim (contains_append (queue_at (taken flow id v) id).messages (message.Reply reply ∷ []) (subst (λ (l : List Message). Contains l each) (replied_messages flow id v reply e) there)) [
          | inl before ↦ first.own id each before
          | inr last ↦ elim (newest_or_older [] last) [ inl now ↦ subst (BearsWithin P) now tt | inr none ↦ absurd (contains_none none) ]
        ]) first;
    late = first.late;
  }

  abandoned_within : (flow : FlowView) (id : ℕ) → FlowsWithin P flow → FlowsWithin P (abandoned flow id)
  abandoned_within flow id was = record {
    own = own_within flow (abandoned flow id) id (others_left flow id) (λ each there. absurd (contains_none (subst (λ (l : List Message). Contains l each) (none_left flow id) there))) was;
    late = all_within (queue_at flow id).messages flow.late (was.own id) was.late;
  }

  without_within : (flow : FlowView) (index : ℕ) → FlowsWithin P flow → FlowsWithin P (without_late flow index)
  without_within flow index was = record {
    own = was.own;
    late = λ each there. elim (contains_append (take index flow.late) (drop (index + 1) flow.late) there) [
      | inl front ↦ was.late each (contains_take index flow.late front)
      | inr back ↦ was.late each (contains_drop (index + 1) flow.late back)
    ];
  }

  strayed_within : (flow : FlowView) (reply : Reply) → FlowsWithin P flow → FlowsWithin P (with_late flow (message.Reply reply))
  strayed_within flow reply was = record { own = was.own; late = joined_within flow.late (message.Reply reply) tt was.late }

  sent_within : (old new : FlowView) (id : ℕ) (messages : List Message) → calls.Sends old id messages new → ((each : Message) → Contains messages each → BearsWithin P each) → FlowsWithin P old → FlowsWithin P new
  sent_within old new id messages sends tells was = record {
    own = own_within old new id (λ p other. ap (λ (q : QueueView). q.messages) (sends.others p other)) (λ each there. elim (contains_append (queue_at old id).messages messages (subst (λ (l : List Message). Contains l each) sends.own there)) [
      | inl before ↦ was.own id each before
      | inr now ↦ tells each now
    ]) was;
    late = λ each there. was.late each (subst (λ (l : List Message). Contains l each) sends.late there);
  }

  mapped_within : (f : ℕ → Request) (tos : List ℕ) → ((to : ℕ) → TellsWithin P (f to).ask) → (each : Message) → Contains (map (λ to. message.Request (f to)) tos) each → BearsWithin P each
  mapped_within f tos tells each there =
      let one = has_of_map (λ (to : ℕ). message.Request (f to)) each tos (has each (map (λ to. message.Request (f to)) tos) there) in
      subst (BearsWithin P) one.1.1 (tells one.0)

-- ---- steps
module _ {S V : Type 0} (m : Meaning S V) (shelves : m.shelves.tells) (P : ℕ → Type 0) (of : IsOfAges P) where
  to : (changed new : View S V) → new ≡ changed → AreWithin m P changed → AreWithin m P new
  to changed new is within = subst (λ (w : View S V). AreWithin m P w) (sym is) within

  -- it is so of what a request in front tells
  front_tells : (old : View S V) (id : ℕ) {front : Message} (request : Request) → slice_get (queue_at old.flow id).messages 0 ≡ Some front → front ≡ message.Request request → AreWithin m P old → TellsWithin P request.ask
  front_tells old id request waits is was = was.flows.own id (message.Request request) (contains_at (queue_at old.flow id).messages 0 (message.Request request) (waits ∙ ap (λ (x : Message). Some x) is))

  put : (old : View S V) (id : ℕ) (acceptor now : AcceptorView S) → IsAt old.acceptors id acceptor → (AsksWithin m.shelves P acceptor → AsksWithin m.shelves P now) → AreWithin m P old → (p : ℕ) (a : AcceptorView S) → IsAt (slice_set old.acceptors id now) p a → AsksWithin m.shelves P a
  put old id acceptor now at goes was = put_within P of m.shelves shelves old.acceptors id acceptor now at (goes (was.acceptors id acceptor at)) was.acceptors

  begin_steps : (old new : View S V) {id : ℕ} {key : List ℕ} {program : List Clause} → step.StepBegin m old id key program new → AreWithin m P old → AreWithin m P new
  begin_steps old new {id} {key} {program} by was = in_round by.begins (opens by.opens)
    where
      opens : calls.Opens old id key program by.middle → AreWithin m P by.middle
      opens (calls.first caller at none_open room is) = to _ by.middle is (record { acceptors = was.acceptors; flows = was.flows })
      opens (calls.again caller call reserved at open_is key_is program_is none_proposed met no_round room few is) = to _ by.middle is (record { acceptors = was.acceptors; flows = was.flows })

      in_round : calls.BeginsRound m by.middle id by.caller by.call new → AreWithin m P by.middle → AreWithin m P new
      in_round (calls.prepares desk now ballot round flow at up few begins sends is) w = to _ new is (record { acceptors = w.acceptors; flows = sent_within P of by.middle.flow flow id _ sends (mapped_within P of _ _ (λ to_one. tt)) w.flows })
      in_round (calls.proposes desk now ready ride round outcome flow at up few begins made sends is) w = to _ new is (record { acceptors = w.acceptors; flows = sent_within P of by.middle.flow flow id _ sends (mapped_within P of _ _ (λ to_one. tt)) w.flows })
      in_round (calls.stays told no_beginning no_round full is) w = to _ new is (record { acceptors = w.acceptors; flows = w.flows })
      in_round (calls.spent desk now at none_open up no_promise spent kept now_is is) w = to _ new is (record { acceptors = w.acceptors; flows = w.flows })
      in_round (calls.fails desk now at none_open up fails is) w = to _ new is (record { acceptors = w.acceptors; flows = w.flows })
      in_round (calls.loses desk now ballot at none_open up loses is) w = to _ new is (record { acceptors = w.acceptors; flows = w.flows })

  refuse_steps : (old new : View S V) {id : ℕ} {key : List ℕ} → calls.RefusesCall m old id key new → AreWithin m P old → AreWithin m P new
  refuse_steps old new (calls.stays told next why rescan is) was = to _ new is (record { acceptors = was.acceptors; flows = was.flows })
  refuse_steps old new (calls.loses caller desk now ballot next at_caller at_desk none_open up loses rescan is) was = to _ new is (record { acceptors = was.acceptors; flows = was.flows })

  turn_steps : (old new : View S V) (id : ℕ) (v : Verdict) → step.StepTurn m old id v new → AreWithin m P old → AreWithin m P new
  turn_steps old new id v by was = in_turn by.turn
    where
      took : FlowsWithin P (taken old.flow id v)
      took = taken_within P of old.flow id v by.waits was.flows

      in_turn : frames.TakesTurn m old id v by.front by.of_call.caller by.of_call.call new → AreWithin m P new
      in_turn (frames.held fall is) = to old new is was
      in_turn (frames.gone fall is) = to _ new is (record { acceptors = was.acceptors; flows = took })
      in_turn (frames.answers request acceptor now reply fall front at table is) = to _ new is (record { acceptors = put old request.to acceptor now at (answers_within P of m.shelves shelves acceptor now request reply table (front_tells old id request by.waits front was)) was; flows = replied_within P of old.flow id v reply by.waits was.flows })
      in_turn (frames.finds_down request acceptor fall front at down is) = to _ new is (record { acceptors = was.acceptors; flows = took })
      in_turn (frames.brings_down request acceptor now fall front at stops_it is) = to _ new is (record { acceptors = put old request.to acceptor now at (stops_within P of m.shelves shelves acceptor now request stops_it (front_tells old id request by.waits front was)) was; flows = took })
      in_turn (frames.arrives reply desk now round heard fall front at is_round hears is) = to _ new is (record { acceptors = was.acceptors; flows = took })

  room_steps : (old new : View S V) → frames.FindsNoRoom m old new → AreWithin m P old → AreWithin m P new
  room_steps old new (frames.stays is) was = to old new is was
  room_steps old new (frames.kept id acceptor now at finds is) was = to _ new is (record { acceptors = put old id acceptor now at (no_memory_within P of m.shelves shelves acceptor now finds) was; flows = was.flows })

  propose_steps : (old new : View S V) (id : ℕ) → step.StepPropose m old id new → AreWithin m P old → AreWithin m P new
  propose_steps old new id by was = in_phase by.proposes
    where
      in_phase : calls.ProposesOrEnds m old id by.at_round.desk by.at_round.round by.at_round.of_call.caller by.at_round.of_call.call new → AreWithin m P new
      in_phase (calls.proposes now turned read by_ ride outcome flow quorum confirmers reads turns made sends is) = to _ new is (record { acceptors = was.acceptors; flows = sent_within P of old.flow flow id _ sends (mapped_within P of _ _ (λ to_one. tt)) was.flows })
      in_phase (calls.ends now verdict told verdict_is refuses ends is) = to _ new is (record { acceptors = was.acceptors; flows = was.flows })
      in_phase (calls.fails now fails is) = to _ new is (record { acceptors = was.acceptors; flows = was.flows })
      in_phase (calls.loses now ballot loses is) = to _ new is (record { acceptors = was.acceptors; flows = was.flows })

  count_steps : (old new : View S V) (id : ℕ) → step.StepCount m old id new → AreWithin m P old → AreWithin m P new
  count_steps old new id by was = in_phase by.counts
    where
      in_phase : calls.CountsOrEnds m old id by.at_round.desk by.at_round.round by.at_round.of_call.caller by.at_round.of_call.call new → AreWithin m P new
      in_phase (calls.counts now by_ outcome quorum confirmers proposed ends is) = to _ new is (record { acceptors = was.acceptors; flows = was.flows })
      in_phase (calls.ends now verdict why verdict_is cause ends is) = to _ new is (record { acceptors = was.acceptors; flows = was.flows })

  end_steps : (old new : View S V) {id : ℕ} {told : Answer} → step.StepEnd m old id told new → AreWithin m P old → AreWithin m P new
  end_steps old new {id} by was = to _ new by.ends.view (record { acceptors = was.acceptors; flows = abandoned_within P of old.flow id was.flows })

  stray_steps : (old new : View S V) (index : ℕ) → step.StepStray m old index new → AreWithin m P old → AreWithin m P new
  stray_steps old new index by was = in_stray by.strays
    where
      rest : FlowsWithin P (without_late old.flow index)
      rest = without_within P of old.flow index was.flows

      tells : (request : Request) → by.late ≡ message.Request request → TellsWithin P request.ask
      tells request is = was.flows.late (message.Request request) (contains_at old.flow.late index (message.Request request) (by.waits ∙ ap (λ (x : Message). Some x) is))

      in_stray : frames.Strays m old index by.late new → AreWithin m P new
      in_stray (frames.answers request acceptor now reply late_is at table is) = to _ new is (record { acceptors = put old request.to acceptor now at (answers_within P of m.shelves shelves acceptor now request reply table (tells request late_is)) was; flows = strayed_within P of (without_late old.flow index) reply rest })
      in_stray (frames.brings_down request acceptor now late_is at stops_it is) = to _ new is (record { acceptors = put old request.to acceptor now at (stops_within P of m.shelves shelves acceptor now request stops_it (tells request late_is)) was; flows = rest })
      in_stray (frames.arrives reply desk now round heard late_is at is_round hears is) = to _ new is (record { acceptors = was.acceptors; flows = rest })
      in_stray (frames.drops ignored is) = to _ new is (record { acceptors = was.acceptors; flows = rest })

  left_steps : (DeskTurns : DeskView V → DeskView V → Type 0) (closed : CallView → CallView) (old new : View S V) (id : ℕ) → LeavesRound DeskTurns closed old id new → AreWithin m P old → AreWithin m P new
  left_steps DeskTurns closed old new id (stops.idle desk now at none turns is) was = to _ new is (record { acceptors = was.acceptors; flows = abandoned_within P of old.flow id was.flows })
  left_steps DeskTurns closed old new id (stops.closes desk now round of_call at is_round turns is) was = to _ new is (record { acceptors = was.acceptors; flows = abandoned_within P of old.flow id was.flows })

  down_steps : (DeskTurns : DeskView V → DeskView V → Type 0) (old new : View S V) (id : ℕ) → GoesDown DeskTurns old id new → AreWithin m P old → AreWithin m P new
  down_steps DeskTurns old new id (stops.of_client client leaves) was = left_steps DeskTurns stops.closed_by_crash old new id leaves was
  down_steps DeskTurns old new id (stops.of_operator middle operator leaves is) was = let mid = left_steps DeskTurns stops.closed_by_crash old middle id leaves was in to _ new is (record { acceptors = mid.acceptors; flows = abandoned_within P of middle.flow exchange_place mid.flows })

  start_steps : (old new : View S V) (id : ℕ) → step.StepRestartAcceptor m old id new → AreWithin m P old → AreWithin m P new
  start_steps old new id (step.was_up acceptor at up is) was = to old new is was
  start_steps old new id (step.starts acceptor now at starts is) was = to _ new is (record { acceptors = put old id acceptor now at (starts_within P of m.shelves shelves acceptor now starts) was; flows = was.flows })
  start_steps old new id (step.fails acceptor now at fails is) was = to _ new is (record { acceptors = put old id acceptor now at (fails_within P of m.shelves shelves acceptor now fails) was; flows = was.flows })

  restart_steps : (old new : View S V) (id : ℕ) → step.StepRestartProposer m old id new → AreWithin m P old → AreWithin m P new
  restart_steps old new id (step.was_up_already desk at up is) was = to old new is was
  restart_steps old new id (step.restarts desk now caller at at_caller down by is) was = to _ new is (record { acceptors = was.acceptors; flows = was.flows })

  tell_steps : (old new : View S V) {told : OpAnswer} → council.StepTell old told new → AreWithin m P old → AreWithin m P new
  tell_steps old new (council.tells order said is_open is_told same is) was = to _ new is (record { acceptors = was.acceptors; flows = abandoned_within P of old.flow exchange_place was.flows })
  tell_steps old new (council.finishes order is_open by is) was = to _ new is (record { acceptors = was.acceptors; flows = abandoned_within P of old.flow exchange_place was.flows })
  tell_steps old new (council.collects order is_open by is) was = to _ new is (record { acceptors = was.acceptors; flows = abandoned_within P of old.flow exchange_place was.flows })

  ask_steps : (old new : View S V) (question : Question) → council.StepAskAll m old question new → AreWithin m P old → AreWithin m P new
  ask_steps old new question by was = in_case by.asks
    where
      no_ages : (q : Question) → council.IsForQuestion (council.everyone old) old.council by.may.caller.call by.may.order.asked q → (age : ℕ) (tag : Ballot) (tos : List ℕ) (each : Message) → Contains (council.questions_to age tag q tos) each → BearsWithin P each
      no_ages (Probe key) is_for age tag tos each there = mapped_within P of (council.question_to age tag (Probe key)) tos (λ to_one. tt) each there
      no_ages (NextKeys places) is_for age tag tos each there = mapped_within P of (council.question_to age tag (NextKeys places)) tos (λ to_one. tt) each there
      no_ages (NewAges key least) is_for age tag tos each there = absurd is_for
      no_ages (Removal key) is_for age tag tos each there = absurd is_for

      in_case : council.AsksAll m old question by.desk new → AreWithin m P new
      in_case (council.asks now tag flow up room tagged is_now sends is) = to _ new is (record { acceptors = was.acceptors; flows = sent_within P of old.flow flow exchange_place _ sends (no_ages question by.may.is_for (kept_of by.desk.vault).age tag (council.asked_by old question)) was.flows })
      in_case (council.is_down down is) = to _ new is (record { acceptors = was.acceptors; flows = was.flows })
      in_case (council.is_full up full is) = to _ new is (record { acceptors = was.acceptors; flows = was.flows })
      in_case (council.is_spent now up spent kept is_now is) = to _ new is (record { acceptors = was.acceptors; flows = was.flows })
      in_case (council.fails now up fault is) = to _ new is (record { acceptors = was.acceptors; flows = was.flows })
      in_case (council.no_memory now tag up loss is) = to _ new is (record { acceptors = was.acceptors; flows = was.flows })

  exchange_steps : (old new : View S V) (v : Verdict) → council.StepTurnExchange m old v new → AreWithin m P old → AreWithin m P new
  exchange_steps old new v by was = in_turn by.turn
    where
      took : FlowsWithin P (taken old.flow exchange_place v)
      took = taken_within P of old.flow exchange_place v by.waits was.flows

      in_turn : council.TurnsExchange m old v by.front by.at.exchange new → AreWithin m P new
      in_turn (council.held fall is) = to old new is was
      in_turn (council.gone fall is) = to _ new is (record { acceptors = was.acceptors; flows = took })
      in_turn (council.answers request acceptor now reply fall front at table is) = to _ new is (record { acceptors = put old request.to acceptor now at (answers_within P of m.shelves shelves acceptor now request reply table (front_tells old exchange_place request by.waits front was)) was; flows = replied_within P of old.flow exchange_place v reply by.waits was.flows })
      in_turn (council.finds_down request acceptor fall front at down is) = to _ new is (record { acceptors = was.acceptors; flows = took })
      in_turn (council.brings_down request acceptor now fall front at stops_it is) = to _ new is (record { acceptors = put old request.to acceptor now at (stops_within P of m.shelves shelves acceptor now request stops_it (front_tells old exchange_place request by.waits front was)) was; flows = took })
      in_turn (council.arrives reply fall front to_it is) = to _ new is (record { acceptors = was.acceptors; flows = took })

  gather_steps : (old new : View S V) → council.StepGather old new → AreWithin m P old → AreWithin m P new
  gather_steps old new by was = in_case by.gathers
    where
      in_case : council.Gathers old by.at.exchange new → AreWithin m P new
      in_case (council.crashed crashed is) = to _ new is (record { acceptors = was.acceptors; flows = was.flows })
      in_case (council.probed key found up question plain found_is is) = to _ new is (record { acceptors = was.acceptors; flows = was.flows })
      in_case (council.read key era found marks up question reads found_is counts is) = to _ new is (record { acceptors = was.acceptors; flows = was.flows })
      in_case (council.lists of_it listing up enough on is) = to _ new is (record { acceptors = was.acceptors; flows = was.flows })
      in_case (council.is_short of_it short up missing is) = to _ new is (record { acceptors = was.acceptors; flows = was.flows })
      in_case (council.no_memory up is) = to _ new is (record { acceptors = was.acceptors; flows = was.flows })

  welcome_steps : (old new : View S V) {asked : Asked} → plans.Welcomes m old asked new → AreWithin m P old → AreWithin m P new
  welcome_steps old new (plans.starts id acceptor now joins at starts is) was = to _ new is (record { acceptors = put old id acceptor now at (starts_within P of m.shelves shelves acceptor now starts) was; flows = was.flows })
  welcome_steps old new (plans.fails id acceptor now joins at fails is) was = to _ new is (record { acceptors = put old id acceptor now at (fails_within P of m.shelves shelves acceptor now fails) was; flows = was.flows })
  welcome_steps old new (plans.is_up id acceptor joins at up is) was = to old new is was
  welcome_steps old new (plans.stays joins_none is) was = to old new is was

  open_steps : (old new : View S V) → plans.StepOpenPlan m old new → AreWithin m P old → AreWithin m P new
  open_steps old new by was = in_case by.opens
    where
      in_case : plans.OpensPlan m old by.order.asked by.desk new → AreWithin m P new
      in_case (plans.is_down down is) = to _ new is (record { acceptors = was.acceptors; flows = was.flows })
      in_case (plans.is_busy plan up busy is) = to _ new is (record { acceptors = was.acceptors; flows = was.flows })
      in_case (plans.refuses fault up none planned is) = to _ new is (record { acceptors = was.acceptors; flows = was.flows })
      in_case (plans.opens progress middle up none planned welcomes is) = let mid = welcome_steps old middle welcomes was in to _ new is (record { acceptors = mid.acceptors; flows = mid.flows })
      in_case (plans.no_memory progress middle up none planned welcomes is) = let mid = welcome_steps old middle welcomes was in to _ new is (record { acceptors = mid.acceptors; flows = mid.flows })

  enter_steps : (old new : View S V) (id : ℕ) → plans.StepEnterEra m old id new → AreWithin m P old → AreWithin m P new
  enter_steps old new id by was = in_case by.enters
    where
      in_case : plans.EntersNext m old by.plan by.next by.desk new → AreWithin m P new
      in_case (plans.enters middle room leaves is) = let mid = left_steps _ _ old middle by.plan.entered leaves was in to _ new is (record { acceptors = mid.acceptors; flows = mid.flows })
      in_case (plans.is_full full is) = to _ new is (record { acceptors = was.acceptors; flows = was.flows })
      in_case (plans.is_down room down is) = to _ new is (record { acceptors = was.acceptors; flows = was.flows })
      in_case (plans.fails middle room down is) = let mid = down_steps _ old middle by.plan.entered down was in to _ new is (record { acceptors = mid.acceptors; flows = mid.flows })
      in_case (plans.no_memory now room up kept now_is is) = to _ new is (record { acceptors = was.acceptors; flows = was.flows })

  begin_collect_steps : (old new : View S V) (key : List ℕ) → collect.StepBeginCollect m (λ before after. step.StepBegin m before 0 key collect.keep_always after) old key new → AreWithin m P old → AreWithin m P new
  begin_collect_steps old new key by was = in_case by.begins
    where
      in_case : collect.BeginsCollection m (λ before after. step.StepBegin m before 0 key collect.keep_always after) old key by.may.order by.desk by.caller new → AreWithin m P new
      in_case (collect.is_down none down is) = to _ new is (record { acceptors = was.acceptors; flows = was.flows })
      in_case (collect.is_busy plan none up planned is) = to _ new is (record { acceptors = was.acceptors; flows = was.flows })
      in_case (collect.is_full none up unplanned full is) = to _ new is (record { acceptors = was.acceptors; flows = was.flows })
      in_case (collect.no_memory middle none up unplanned refuses is) = let mid = refuse_steps old middle refuses was in to _ new is (record { acceptors = mid.acceptors; flows = mid.flows })
      in_case (collect.begins middle none unplanned begins is) = let mid = begin_steps old middle begins was in to _ new is (record { acceptors = mid.acceptors; flows = mid.flows })
      in_case (collect.goes_on middle call of_it open_ begins is) = let mid = begin_steps old middle begins was in to _ new is (record { acceptors = mid.acceptors; flows = mid.flows })

  round_steps : (old new : View S V) → collect.StepGatherRound old new → AreWithin m P old → AreWithin m P new
  round_steps old new by was = in_case by.gathers
    where
      in_case : collect.GathersRound old by.at new → AreWithin m P new
      in_case (collect.all ballot members tombstone all is) = to _ new is (record { acceptors = was.acceptors; flows = was.flows })
      in_case (collect.is_absent ballot members acceptor tombstone least is) = to _ new is (record { acceptors = was.acceptors; flows = was.flows })
      in_case (collect.is_held version tombstone is) = to _ new is (record { acceptors = was.acceptors; flows = was.flows })

  renew_steps : (old new : View S V) (id : ℕ) → collect.StepRenew m old id new → AreWithin m P old → AreWithin m P new
  renew_steps old new id by was = in_case by.renews
    where
      in_case : collect.RenewsNext m old by.at id by.desk new → AreWithin m P new
      in_case (collect.renews age middle leaves is) = let mid = left_steps _ _ old middle id leaves was in to _ new is (record { acceptors = mid.acceptors; flows = mid.flows })
      in_case (collect.is_down down is) = to _ new is (record { acceptors = was.acceptors; flows = was.flows })
      in_case (collect.fails middle down is) = let mid = down_steps _ old middle id down was in to _ new is (record { acceptors = mid.acceptors; flows = mid.flows })
      in_case (collect.is_spent up spent is) = to _ new is (record { acceptors = was.acceptors; flows = was.flows })
      in_case (collect.no_memory now up finds is) = to _ new is (record { acceptors = was.acceptors; flows = was.flows })

  -- new ages that are told are of the collection that is under way
  ask_collect_steps : (old new : View S V) → ((collection : CollectionView) → old.council.exchange ≡ None → old.council.collection ≡ Some collection → 0 < length collection.ages → P (least_age (ages_of collection.ages) 0)) → collect.StepAskCollect m old new → AreWithin m P old → AreWithin m P new
  ask_collect_steps old new tells by was = in_case by.asks
    where
      tells_it : P (least_age (ages_of by.may.at.collection.ages) 0)
      tells_it = tells by.may.at.collection by.may.none_asked by.may.at.is_collection (let some = by.may.is_renewed.all_renewed in omega (arith, some))

      told_ages : (q : Question) → collect.IsQuestionOf by.may.at.collection q → (age : ℕ) (tag : Ballot) (tos : List ℕ) (each : Message) → Contains (council.questions_to age tag q tos) each → BearsWithin P each
      told_ages q (collect.tells_ages due is) age tag tos each there =
          mapped_within P of (council.question_to age tag (NewAges by.may.at.collection.course.key (ages_of by.may.at.collection.ages))) tos (λ to_one. tells_it) each (subst (λ (x : Question). Contains (council.questions_to age tag x tos) each) is there)
      told_ages q (collect.removes due is) age tag tos each there =
          mapped_within P of (council.question_to age tag (Removal by.may.at.collection.course.key)) tos (λ to_one. tt) each (subst (λ (x : Question). Contains (council.questions_to age tag x tos) each) is there)

      in_case : collect.AsksCollect m old by.may.at by.desk new → AreWithin m P new
      in_case (collect.asks question flow up asks room aged sends is) = to _ new is (record { acceptors = was.acceptors; flows = sent_within P of old.flow flow exchange_place _ sends (told_ages question asks (kept_of by.desk.vault).age (tomb_of by.may.at.collection.tombstone) (council.everyone old)) was.flows })
      in_case (collect.is_down down is) = to _ new is (record { acceptors = was.acceptors; flows = was.flows })
      in_case (collect.is_full question up asks full is) = to _ new is (record { acceptors = was.acceptors; flows = was.flows })
      in_case (collect.no_memory up is) = to _ new is (record { acceptors = was.acceptors; flows = was.flows })

  gather_collect_steps : (old new : View S V) → collect.StepGatherCollect old new → AreWithin m P old → AreWithin m P new
  gather_collect_steps old new by was = in_case by.gathers
    where
      in_case : collect.GathersCollect old by.at by.of_exchange.exchange new → AreWithin m P new
      in_case (collect.crashed crashed is) = to _ new is (record { acceptors = was.acceptors; flows = was.flows })
      in_case (collect.all up all is) = to _ new is (record { acceptors = was.acceptors; flows = was.flows })
      in_case (collect.is_absent acceptor up least is) = to _ new is (record { acceptors = was.acceptors; flows = was.flows })

  pub within_then : (old : View S V) (event : step.Event) (new : View S V) → ((collection : CollectionView) → old.council.exchange ≡ None → old.council.collection ≡ Some collection → 0 < length collection.ages → P (least_age (ages_of collection.ages) 0)) → AreWithin m P old → Step m old event new → AreWithin m P new
  within_then old (step.Begin id key program) new tells was by = begin_steps old new by was
  within_then old (step.RefuseBegin id key) new tells was by = refuse_steps old new by was
  within_then old (step.Turn id v) new tells was by = turn_steps old new id v by was
  within_then old (step.RefuseTurn id) new tells was by = let mid = room_steps old by.middle by.refuses was in to _ new by.view (record { acceptors = mid.acceptors; flows = mid.flows })
  within_then old (step.Propose id) new tells was by = propose_steps old new id by was
  within_then old (step.Count id) new tells was by = count_steps old new id by was
  within_then old (step.End id told) new tells was by = end_steps old new by was
  within_then old (step.Stray index) new tells was by = stray_steps old new index by was
  within_then old step.RefuseStray new tells was by = room_steps old new by was
  within_then old (step.CrashAcceptor id) new tells was (step.crashes acceptor now at crashes is) = to _ new is (record { acceptors = put old id acceptor now at (crashes_within P of m.shelves shelves acceptor now crashes) was; flows = was.flows })
  within_then old (step.RestartAcceptor id) new tells was by = start_steps old new id by was
  within_then old (step.CrashProposer id) new tells was by = down_steps _ old new id by was
  within_then old (step.RestartProposer id) new tells was by = restart_steps old new id by was
  within_then old (step.Order asked) new tells was by = to _ new by.view (record { acceptors = was.acceptors; flows = was.flows })
  within_then old step.RefuseOrder new tells was by = to old new by was
  within_then old (step.Tell told) new tells was by = tell_steps old new by was
  within_then old (step.AskAll question) new tells was by = ask_steps old new question by was
  within_then old (step.TurnExchange v) new tells was by = exchange_steps old new v by was
  within_then old step.RefuseTurnExchange new tells was by = let mid = room_steps old by.middle by.refuses was in to _ new by.view (record { acceptors = mid.acceptors; flows = mid.flows })
  within_then old step.Gather new tells was by = gather_steps old new by was
  within_then old step.RefuseKey new tells was by = to _ new by.view (record { acceptors = was.acceptors; flows = was.flows })
  within_then old step.OpenPlan new tells was by = open_steps old new by was
  within_then old (step.EnterEra id) new tells was by = enter_steps old new id by was
  within_then old (step.BeginCollect key) new tells was by = begin_collect_steps old new key by was
  within_then old step.ReadHeld new tells was by = to _ new by.view (record { acceptors = was.acceptors; flows = was.flows })
  within_then old step.CountCollect new tells was by = let mid = count_steps old by.middle 0 by.counts was in to _ new by.view (record { acceptors = mid.acceptors; flows = mid.flows })
  within_then old (step.EndCollect told) new tells was by = let mid = end_steps old by.middle by.ends was in to _ new by.view (record { acceptors = mid.acceptors; flows = mid.flows })
  within_then old step.GatherRound new tells was by = round_steps old new by was
  within_then old (step.Renew id) new tells was by = renew_steps old new id by was
  within_then old step.AskCollect new tells was by = ask_collect_steps old new tells by was
  within_then old step.GatherCollect new tells was by = gather_collect_steps old new by was
  within_then old step.MakeFloor new tells was by = to _ new by.view (record { acceptors = was.acceptors; flows = was.flows })
