-- What becomes of the exchange that is open, whatever is called on a cluster, and of what those that it asks told.
use Rattle.std.proofs.Common.{◌≡◌, ℕ, zero, suc, List, [], ◌∷◌, ◌++◌, length, map, Option, None, Some, option_map, refl, sym, ap, subst, ◌∙◌, inl, inr}
use Rattle.std.specs.Prelude.{Contains, Option, None}
use Rattle.cas_ballot.specs.declared.ballot.Ballot.{Ballot}
use Rattle.cas_acceptor.specs.Acceptor.{AcceptorView}
use Rattle.cas_fate.specs.declared.fate.Verdict.{Verdict}
use Rattle.cas_flow.specs.Flow.{FlowView, queue_at, taken}
use Rattle.cas_flow.specs.Message.{head_of}
use Rattle.cas_flow.specs.declared.message.Message.{Message}
use Rattle.cas_flow.specs.declared.message.Message.TheVariants as message
use Rattle.cas_proposer.specs.Desk.{DeskView}
use Rattle.cas_record.specs.declared.answer.Answer.TheVariants as answer
use Rattle.cas_record.specs.declared.answer.Cause.TheVariants as cause
use Rattle.cas_record.specs.declared.operator.OpAnswer.{OpAnswer}
use Rattle.cas_record.specs.declared.operator.Probe.{Probe as Answered}
use Rattle.cas_slot.specs.declared.message.Reply.{Reply}
use Rattle.cas_slot.specs.declared.message.Request.{Request}
use Rattle.cas_slot.specs.declared.message.Tell.{Tell}
use Rattle.cas_round.proofs.Lists.{has}
use Rattle.cas_vault.specs.Vault.{kept_of}
use Rattle.cas_model.specs.Collection.State.{tomb_of}
use Rattle.cas_model.specs.Council.{Question, ExchangeView, exchange_place, ask_of, broken_off}
use Rattle.cas_model.specs.Safe.{IsSafe, IsSound, IsAskingSafe, IsExchangeSafe}
use Rattle.cas_model.specs.Step as step
use Rattle.cas_model.specs.Step.{Step}
use Rattle.cas_model.specs.Frames.Acceptors.{AnswersByTable}
use Rattle.cas_model.specs.Calls.Step as calls
use Rattle.cas_model.specs.Collection.Step as collect
use Rattle.cas_model.specs.Collection.Step.{StepRenew, StepAskCollect, StepGatherCollect}
use Rattle.cas_model.specs.Exchanges.Step as council
use Rattle.cas_model.specs.Exchanges.Step.{hears, new_exchange, question_to, questions_to, StepTell, StepAskAll, StepTurnExchange, StepGather, AsksAll, TurnsExchange, Gathers}
use Rattle.cas_model.specs.Calls.Desks.{Crashes, EntersEra, FailsToEnter, Renews, FailsToRenew}
use Rattle.cas_model.specs.Eras.Step as plans
use Rattle.cas_model.specs.Eras.Step.{StepEnterEra}
use Rattle.cas_model.specs.Stops.Step as stops
use Rattle.cas_model.specs.Stops.Step.{GoesDown, closed_by, closed_by_crash}
use Rattle.cas_model.specs.View.{Meaning, View, IsAt}
use Rattle.cas_model.proofs.Calls.Ends.{none_left}
use Rattle.cas_model.proofs.Frames.Steps.{Thins, taken_thins}
use Rattle.cas_model.proofs.Frames.Harms.{has_of_map}
use Rattle.cas_model.proofs.Places.{some_is, contains_at, contains_append, contains_none, newest_or_older}
use Rattle.cas_model.proofs.Exchanges.Safe.{none_waiting}
use Rattle.cas_model_causes.proofs.Exchanges.Answering as answering
use Rattle.cas_model_causes.proofs.Exchanges.Answering.{IsUntouched, both, alike, replied_messages}
use Rattle.cas_model_causes.proofs.Exchanges.Tellers.{told_before}
use Rattle.cas_quorum.specs.declared.era.Era.{Era}

-- ---- what becomes of the exchange
pub data Touched {S V : Type 0} (m : Meaning S V) (old new : View S V) : Type 0 where
  is_same : IsUntouched old new → Touched m old new
  is_over : new.council.exchange ≡ None → Touched m old new
  is_broken : (middle : View S V) → IsUntouched old middle → new.council.exchange ≡ option_map broken_off middle.council.exchange → (queue_at new.flow exchange_place).messages ≡ [] → Touched m old new
  is_asked : (desk : DeskView V) (tag : Ballot) (question : Question) (tos : List ℕ) (reads : Option Era) → IsAt old.desks 0 desk → new.council.exchange ≡ Some (new_exchange question tag tos (length old.marks) reads) → (queue_at new.flow exchange_place).messages ≡ questions_to (kept_of desk.vault).age tag question tos → Touched m old new
  turned : (v : Verdict) → StepTurnExchange m old v new → Touched m old new

module _ {S V : Type 0} (m : Meaning S V) where
  same_by : (old changed new : View S V) → new ≡ changed → changed.council.exchange ≡ old.council.exchange → changed.flow ≡ old.flow → Touched m old new
  same_by old changed new view exchange flow = is_same (alike old changed new view exchange flow)

  over_by : (old changed new : View S V) → new ≡ changed → changed.council.exchange ≡ None → Touched m old new
  over_by old changed new view none = is_over (ap (λ (w : View S V). w.council.exchange) view ∙ none)

  down_touches : (DeskTurns : DeskView V → DeskView V → Type 0) (old middle new : View S V) (id : ℕ) → IsSound old → GoesDown DeskTurns old id middle → IsUntouched middle new → Touched m old new
  down_touches DeskTurns old middle new id sound (stops.of_client client leaves) rest = is_same (both old middle new (answering.left_same DeskTurns closed_by_crash old middle id sound leaves) rest)
  down_touches DeskTurns old middle new id sound (stops.of_operator before operator leaves is_view) rest =
      is_broken before (answering.left_same DeskTurns closed_by_crash old before id sound leaves) (rest.exchange ∙ ap (λ (w : View S V). w.council.exchange) is_view)
      (rest.waits ∙ ap (λ (w : View S V). (queue_at w.flow exchange_place).messages) is_view ∙ none_left before.flow exchange_place)

  sent_messages : (old new : View S V) (flow : FlowView) (messages : List Message) → IsSound old → old.council.exchange ≡ None → calls.Sends old.flow exchange_place messages flow → new.flow ≡ flow → (queue_at new.flow exchange_place).messages ≡ messages
  sent_messages old new flow messages sound none sends flows = ap (λ (f : FlowView). (queue_at f exchange_place).messages) flows ∙ sends.own ∙ ap (λ (l : List Message). l ++ messages) (none_waiting old sound none)

  ask_touches : (old new : View S V) (question : Question) → IsSound old → StepAskAll m old question new → Touched m old new
  ask_touches old new question sound by = by_case by.asks
    where
      by_case : AsksAll m old question by.desk new → Touched m old new
      by_case (council.asks now tag flow up room tagged is_now sends view) =
          is_asked by.desk tag question (council.asked_by old question) (council.read_era old question) by.may.at_desk (ap (λ (w : View S V). w.council.exchange) view) (sent_messages old new flow _ sound by.may.none_open sends (ap (λ (w : View S V). w.flow) view))
      by_case (council.is_down down view) = same_by old _ new view refl refl
      by_case (council.is_full up full view) = same_by old _ new view refl refl
      by_case (council.is_spent now up spent kept is_now view) = same_by old _ new view refl refl
      by_case (council.fails now up fault view) = same_by old _ new view refl refl
      by_case (council.no_memory now tag up loss view) = same_by old _ new view refl refl

  ask_collect_touches : (old new : View S V) → IsSound old → StepAskCollect m old new → Touched m old new
  ask_collect_touches old new sound by = by_case by.asks
    where
      by_case : collect.AsksCollect m old by.may.at by.desk new → Touched m old new
      by_case (collect.asks question flow up asks room aged sends view) =
          is_asked by.desk (tomb_of by.may.at.collection.tombstone) question (council.everyone old) None by.may.at_desk (ap (λ (w : View S V). w.council.exchange) view) (sent_messages old new flow _ sound by.may.none_asked sends (ap (λ (w : View S V). w.flow) view))
      by_case (collect.is_down down view) = same_by old _ new view refl refl
      by_case (collect.is_full question up asks full view) = same_by old _ new view refl refl
      by_case (collect.no_memory up view) = same_by old _ new view refl refl

  gather_touches : (old new : View S V) → StepGather old new → Touched m old new
  gather_touches old new by = by_case by.gathers
    where
      by_case : Gathers old by.at.exchange new → Touched m old new
      by_case (council.crashed crashed view) = over_by old _ new view refl
      by_case (council.probed key found up question plain found_is view) = over_by old _ new view refl
      by_case (council.read key era found marks up question reads found_is counts view) = over_by old _ new view refl
      by_case (council.lists of listing up enough on view) = over_by old _ new view refl
      by_case (council.is_short of short up missing view) = over_by old _ new view refl
      by_case (council.no_memory up view) = same_by old _ new view refl refl

  gather_collect_touches : (old new : View S V) → StepGatherCollect old new → Touched m old new
  gather_collect_touches old new by = by_case by.gathers
    where
      by_case : collect.GathersCollect old by.at by.of_exchange.exchange new → Touched m old new
      by_case (collect.crashed crashed view) = over_by old _ new view refl
      by_case (collect.all up all view) = over_by old _ new view refl
      by_case (collect.is_absent acceptor up least view) = over_by old _ new view refl

  tell_touches : (old new : View S V) (told : OpAnswer) → StepTell old told new → Touched m old new
  tell_touches old new told (council.tells order said is_open is_told same view) = over_by old _ new view refl
  tell_touches old new told (council.finishes order is_open by view) = over_by old _ new view refl
  tell_touches old new told (council.collects order is_open by view) = over_by old _ new view refl

  enter_touches : (old new : View S V) (id : ℕ) → IsSound old → StepEnterEra m old id new → Touched m old new
  enter_touches old new id sound by = by_case by.enters
    where
      by_case : plans.EntersNext m old by.plan by.next by.desk new → Touched m old new
      by_case (plans.enters middle room leaves view) = is_same (both old middle new (answering.left_same (EntersEra m.disks by.next) (closed_by (answer.Moved by.next.number) (cause.Moved by.next.number)) old middle by.plan.entered sound leaves) (alike middle _ new view refl refl))
      by_case (plans.is_full full view) = same_by old _ new view refl refl
      by_case (plans.is_down room down view) = same_by old _ new view refl refl
      by_case (plans.fails middle room down view) = down_touches (FailsToEnter m.disks by.next) old middle new by.plan.entered sound down (alike middle _ new view refl refl)
      by_case (plans.no_memory now room up kept now_is view) = same_by old _ new view refl refl

  renew_touches : (old new : View S V) (id : ℕ) → IsSound old → StepRenew m old id new → Touched m old new
  renew_touches old new id sound by = by_case by.renews
    where
      by_case : collect.RenewsNext m old by.at id by.desk new → Touched m old new
      by_case (collect.renews age middle leaves view) =
          is_same (both old middle new (answering.left_same (Renews m.disks by.at.collection.course.key (tomb_of by.at.collection.tombstone) age) (closed_by (answer.Aged age) (cause.Aged age)) old middle id sound leaves) (alike middle _ new view refl refl))
      by_case (collect.is_down down view) = same_by old _ new view refl refl
      by_case (collect.fails middle down view) = down_touches (FailsToRenew m.disks _) old middle new id sound down (alike middle _ new view refl refl)
      by_case (collect.is_spent up spent view) = same_by old _ new view refl refl
      by_case (collect.no_memory now up finds view) = same_by old _ new view refl refl

  pub touched : (old : View S V) (event : step.Event) (new : View S V) → IsSound old → Step m old event new → Touched m old new
  touched old (step.Begin id key program) new sound by = is_same (answering.begin_same m old new id key program sound by)
  touched old (step.RefuseBegin id key) new sound by = is_same (answering.refuse_same m old new id key by)
  touched old (step.Turn id v) new sound by = is_same (answering.turn_same m old new id v sound by)
  touched old (step.RefuseTurn id) new sound by = is_same (answering.no_turn_same m old new id by)
  touched old (step.Propose id) new sound by = is_same (answering.propose_same m old new id sound by)
  touched old (step.Count id) new sound by = is_same (answering.count_same m old new id sound by)
  touched old (step.End id told) new sound by = is_same (answering.end_same m old new id told sound by)
  touched old (step.Stray index) new sound by = is_same (answering.stray_same m old new index by)
  touched old step.RefuseStray new sound by = is_same (answering.no_room_same m old new by)
  touched old (step.CrashAcceptor id) new sound (step.crashes acceptor now at crashes view) = same_by old _ new view refl refl
  touched old (step.RestartAcceptor id) new sound by = is_same (answering.start_same m old new id by)
  touched old (step.CrashProposer id) new sound by = down_touches (Crashes m.disks) old new new id sound by (alike new new new refl refl refl)
  touched old (step.RestartProposer id) new sound by = is_same (answering.restart_same m old new id by)
  touched old (step.Order asked) new sound by = same_by old _ new by.view refl refl
  touched old step.RefuseOrder new sound by = same_by old old new by refl refl
  touched old (step.Tell told) new sound by = tell_touches old new told by
  touched old (step.AskAll question) new sound by = ask_touches old new question sound by
  touched old (step.TurnExchange v) new sound by = turned v by
  touched old step.RefuseTurnExchange new sound by = is_same (both old by.middle new (answering.no_room_same m old by.middle by.refuses) (alike by.middle _ new by.view refl refl))
  touched old step.Gather new sound by = gather_touches old new by
  touched old step.RefuseKey new sound by = same_by old _ new by.view refl refl
  touched old step.OpenPlan new sound by = is_same (answering.open_same m old new by)
  touched old (step.EnterEra id) new sound by = enter_touches old new id sound by
  touched old (step.BeginCollect key) new sound by = is_same (answering.begin_collect_same m old new key sound by)
  touched old step.ReadHeld new sound by = same_by old _ new by.view refl refl
  touched old step.CountCollect new sound by = is_same (both old by.middle new (answering.count_same m old by.middle 0 sound by.counts) (alike by.middle _ new by.view refl refl))
  touched old (step.EndCollect told) new sound by = is_same (both old by.middle new (answering.end_same m old by.middle 0 told sound by.ends) (alike by.middle _ new by.view refl refl))
  touched old step.GatherRound new sound by = is_same (answering.gather_round_same old new by)
  touched old (step.Renew id) new sound by = renew_touches old new id sound by
  touched old step.AskCollect new sound by = ask_collect_touches old new sound by
  touched old step.GatherCollect new sound by = gather_collect_touches old new by
  touched old step.MakeFloor new sound by = same_by old _ new by.view refl refl

-- ---- what is told
-- at first nobody told anything
pub tells_none : (tos : List ℕ) (place : ℕ) (one : Answered) (t : Tell) → IsAt (map (λ member. record { acceptor = member; told = None }) tos) place one → one.told ≡ Some t → ⊥
tells_none [] place one t at tells = cc at
tells_none (to ∷ tos) zero one t at tells = cc (ap (λ (a : Answered). a.told) (some_is at), tells)
tells_none (to ∷ tos) (suc place) one t at tells = tells_none tos place one t at tells

pub no_reply : (age : ℕ) (tag : Ballot) (question : Question) (tos : List ℕ) (reply : Reply) → Contains (questions_to age tag question tos) (message.Reply reply) → ⊥
no_reply age tag question tos reply has_it =
    let of = has_of_map (λ (to : ℕ). message.Request (question_to age tag question to)) (message.Reply reply) tos (has (message.Reply reply) (questions_to age tag question tos) has_it) in
    cc of.1.1

-- it asks the same, since the same mark
pub record IsSameExchange (before now : ExchangeView) : Type 0 where
  pub question : before.question ≡ now.question
  pub since : before.since ≡ now.since

-- it is broken off, and asks the same
pub broken_told : (open_ : Option ExchangeView) (exchange : ExchangeView) → option_map broken_off open_ ≡ Some exchange → (was : ExchangeView) × (open_ ≡ Some was) × IsSameExchange was exchange × (exchange.told ≡ was.told)
broken_told None exchange is = absurd (cc is)
broken_told (Some was) exchange is = (was, refl, record { question = ap (λ (e : ExchangeView). e.question) (some_is is); since = ap (λ (e : ExchangeView). e.since) (some_is is) }, ap (λ (e : ExchangeView). e.told) (sym (some_is is)))

-- so it is of what each of those that are asked told, and of each reply that waits
pub record AreTellsSo (so : ℕ → Tell → Type 0) (answers : List Answered) (waiting : List Message) : Type 0 where
  pub told : (place : ℕ) (one : Answered) (t : Tell) → IsAt answers place one → one.told ≡ Some t → so one.acceptor t
  pub replies : (reply : Reply) → Contains waiting (message.Reply reply) → so reply.from reply.tell

-- an acceptor that is up answers the first frame of the exchange
pub record AnswersFirst {S V : Type 0} (m : Meaning S V) (view : View S V) (exchange : ExchangeView) (reply : Reply) : Type 0 where
  pub request : Request
  pub acceptor : AcceptorView S
  pub now : AcceptorView S
  pub asked : request.ask ≡ ask_of exchange.tag exchange.question request.to
  pub at : IsAt view.acceptors request.to acceptor
  pub table : AnswersByTable m.shelves acceptor now request reply

module _ {S V : Type 0} (m : Meaning S V) (old new : View S V) (so : ℕ → Tell → Type 0) where
  -- What those that are asked told is so, if it was so before, and if it is so of what an acceptor answers now.
  module _ (exchange : ExchangeView) (safe : IsSafe old) (is_open : new.council.exchange ≡ Some exchange)
      (had : (before : ExchangeView) → old.council.exchange ≡ Some before → IsSameExchange before exchange → AreTellsSo so before.told (queue_at old.flow exchange_place).messages)
      (says : (before : ExchangeView) (reply : Reply) → old.council.exchange ≡ Some before → IsSameExchange before exchange → AnswersFirst m old before reply → so reply.from reply.tell) where
    thinned : (before : ExchangeView) → old.council.exchange ≡ Some before → IsSameExchange before exchange → exchange.told ≡ before.told
        → ((reply : Reply) → Contains (queue_at new.flow exchange_place).messages (message.Reply reply) → Contains (queue_at old.flow exchange_place).messages (message.Reply reply)) → AreTellsSo so exchange.told (queue_at new.flow exchange_place).messages
    thinned before was same told fewer = record {
      told = λ place one t at tells. (had before was same).told place one t (subst (λ (l : List Answered). IsAt l place one) told at) tells;
      replies = λ reply there. (had before was same).replies reply (fewer reply there);
    }

    turn_tells : (v : Verdict) → StepTurnExchange m old v new → AreTellsSo so exchange.told (queue_at new.flow exchange_place).messages
    turn_tells v turns = by_turn turns.turn
      where
        waiting : List Message
        waiting = (queue_at old.flow exchange_place).messages

        rest : List Message
        rest = (queue_at (taken old.flow exchange_place v) exchange_place).messages

        thins : Thins waiting rest (head_of turns.front).1
        thins = taken_thins old.flow exchange_place v turns.waits

        fewer : (queue_at new.flow exchange_place).messages ≡ rest → (reply : Reply) → Contains (queue_at new.flow exchange_place).messages (message.Reply reply) → Contains waiting (message.Reply reply)
        fewer frames reply there = thins.before (message.Reply reply) (subst (λ (l : List Message). Contains l (message.Reply reply)) frames there)

        leaves : (now : ExchangeView) → new.council.exchange ≡ Some now → IsSameExchange turns.at.exchange now → now.told ≡ turns.at.exchange.told → (queue_at new.flow exchange_place).messages ≡ rest → AreTellsSo so exchange.told (queue_at new.flow exchange_place).messages
        leaves now opens same told frames =
            let it : now ≡ exchange = some_is (sym opens ∙ is_open) in
            thinned turns.at.exchange turns.at.is_open (subst (IsSameExchange turns.at.exchange) it same) (ap (λ (e : ExchangeView). e.told) (sym it) ∙ told) (fewer frames)

        by_turn : TurnsExchange m old v turns.front turns.at.exchange new → AreTellsSo so exchange.told (queue_at new.flow exchange_place).messages
        by_turn (council.held fall view) =
            thinned exchange (sym (ap (λ (w : View S V). w.council.exchange) view) ∙ is_open) (record { question = refl; since = refl }) refl (λ reply there. subst (λ (w : View S V). Contains (queue_at w.flow exchange_place).messages (message.Reply reply)) view there)
        by_turn (council.gone fall view) = leaves _ (ap (λ (w : View S V). w.council.exchange) view) (record { question = refl; since = refl }) refl (ap (λ (w : View S V). (queue_at w.flow exchange_place).messages) view)
        by_turn (council.finds_down request acceptor fall front at down view) = leaves _ (ap (λ (w : View S V). w.council.exchange) view) (record { question = refl; since = refl }) refl (ap (λ (w : View S V). (queue_at w.flow exchange_place).messages) view)
        by_turn (council.brings_down request acceptor now fall front at stops_it view) = leaves _ (ap (λ (w : View S V). w.council.exchange) view) (record { question = refl; since = refl }) refl (ap (λ (w : View S V). (queue_at w.flow exchange_place).messages) view)
        by_turn (council.answers request acceptor now reply fall front at table view) =
            let before = sym (ap (λ (w : View S V). w.council.exchange) view) ∙ is_open in
            let same : IsSameExchange exchange exchange = record { question = refl; since = refl } in
            let asking : IsExchangeSafe exchange (queue_at old.flow exchange_place) = subst (λ (e : Option ExchangeView). IsAskingSafe e (queue_at old.flow exchange_place)) before safe.sound.asking in
            let asked : request.ask ≡ ask_of exchange.tag exchange.question request.to = asking.asks request (contains_at waiting 0 (message.Request request) (turns.waits ∙ ap (λ (x : Message). Some x) front)) in
            record {
              told = (had exchange before same).told;
              replies = λ r there. elim (contains_append rest (message.Reply reply ∷ [])
                  (subst (λ (l : List Message). Contains l (message.Reply r)) (ap (λ (w : View S V). (queue_at w.flow exchange_place).messages) view ∙ replied_messages old.flow exchange_place v reply turns.waits) there)) [
                    | inl early ↦ (had exchange before same).replies r (thins.before (message.Reply r) early)
                    | inr back ↦ elim (newest_or_older [] back) [
                      | inl newest ↦ (let one : reply ≡ r = cc newest in subst (λ (x : Reply). so x.from x.tell) one (says exchange reply before same (record { request = request; acceptor = acceptor; now = now; asked = asked; at = at; table = table })))
                      | inr none ↦ absurd (contains_none none)
                    ]
                  ];
            }
        by_turn (council.arrives reply fall front to_it view) =
            let it : record turns.at.exchange { told = hears reply turns.at.exchange.told } ≡ exchange = some_is (sym (ap (λ (w : View S V). w.council.exchange) view) ∙ is_open) in
            let same : IsSameExchange turns.at.exchange exchange = record { question = ap (λ (e : ExchangeView). e.question) it; since = ap (λ (e : ExchangeView). e.since) it } in
            let were = had turns.at.exchange turns.at.is_open same in
            record {
              told = λ place one t there tells. elim (told_before reply turns.at.exchange.told place one (subst (λ (l : List Answered). IsAt l place one) (ap (λ (e : ExchangeView). e.told) (sym it)) there)) [
                | inl early ↦ were.told place one t early tells
                | inr is_its ↦ (let its : reply.tell ≡ t = some_is (sym is_its.1 ∙ tells) in subst (so one.acceptor) its (subst (λ (a : ℕ). so a reply.tell) (sym is_its.0) (were.replies reply (contains_at waiting 0 (message.Reply reply) (turns.waits ∙ ap (λ (x : Message). Some x) front)))))
              ];
              replies = λ r there. were.replies r (fewer (ap (λ (w : View S V). (queue_at w.flow exchange_place).messages) view) r there);
            }

    pub tells_then : Touched m old new → AreTellsSo so exchange.told (queue_at new.flow exchange_place).messages
    tells_then (is_same same) = thinned exchange (sym same.exchange ∙ is_open) (record { question = refl; since = refl }) refl (λ reply there. subst (λ (l : List Message). Contains l (message.Reply reply)) same.waits there)
    tells_then (is_over none) = absurd (cc (sym none ∙ is_open))
    tells_then (is_broken middle same exchange_is none) =
        let broke = broken_told middle.council.exchange exchange (sym exchange_is ∙ is_open) in
        thinned broke.0 (sym same.exchange ∙ broke.1) broke.2 broke.3 (λ reply there. absurd (contains_none (subst (λ (l : List Message). Contains l (message.Reply reply)) none there)))
    tells_then (is_asked desk tag question tos reads at opens waiting) =
        let it : new_exchange question tag tos (length old.marks) reads ≡ exchange = some_is (sym opens ∙ is_open) in
        record {
          told = λ place one t at_it tells. absurd (tells_none tos place one t (subst (λ (l : List Answered). IsAt l place one) (ap (λ (e : ExchangeView). e.told) (sym it)) at_it) tells);
          replies = λ reply there. absurd (no_reply (kept_of desk.vault).age tag question tos reply (subst (λ (l : List Message). Contains l (message.Reply reply)) waiting there));
        }
    tells_then (turned v turns) = turn_tells v turns
