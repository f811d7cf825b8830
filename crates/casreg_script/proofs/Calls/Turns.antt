-- What a turn leaves of the turns of a proposer.
use Rattle.std.proofs.Common.{◌≡◌, ◌≢◌, ◌<◌, ◌+◌, ℕ, Bool, true, false, List, [], ◌∷◌, ◌++◌, Some, slice_get, refl, sym, ap, subst, ◌∙◌, arith}
use Rattle.std.specs.Prelude.{if◌then◌else◌, option_map, slice_index_or, Option, None}
use Rattle.std.proofs.lemmas.List.{length-set}
use Rattle.cas_fate.specs.declared.fate.Leg.{Leg}
use Rattle.cas_fate.specs.declared.fate.Verdict.{Verdict}
use Rattle.cas_fate.specs.declared.fate.Verdict.TheVariants.{Deliver, Lose, Twice, Late, Hold}
use Rattle.cas_flow.specs.Flow.{FlowView, queue_at, queue_after, taken}
use Rattle.cas_flow.specs.Message.{head_of}
use Rattle.cas_flow.specs.Queue.{QueueView, empty_queue, fall_of, pushed}
use Rattle.cas_flow.specs.declared.fall.Fall.TheVariants.{Handle, Held}
use Rattle.cas_flow.specs.declared.message.Message.{Message}
use Rattle.cas_flow.specs.declared.message.Message.TheVariants as message
use Rattle.cas_slot.specs.declared.message.Reply.{Reply}
use Rattle.cas_model.specs.Council.{Council, ExchangeView, exchange_place}
use Rattle.cas_model.specs.Step as step
use Rattle.cas_model.specs.Step.{Step, StepTurn, StepRefuseTurn}
use Rattle.cas_model.specs.Stops.Step.{OpenCallAt}
use Rattle.cas_world.specs.Exchanges.Exchange.{asks_as, place_of, turn_of, refusal_of}
use Rattle.cas_model.specs.Frames.Step as frames
use Rattle.cas_model.specs.View.{Meaning, View}
use Rattle.cas_model.proofs.Frames.Steps.{taken_own}
use Rattle.cas_model.proofs.Places.{queue_same, has_queue, some_is}
use Rattle.casreg_script.specs.Calls.Changes.{Turned, FailsToTurn, one_more}
use Rattle.casreg_script.specs.Frames.Conditions.{NetworkView, DecidesVerdict, is_to_repeat}
use Rattle.casreg_script.specs.Frames.Strays.{LetsStrayIn, KeepsUnderWay}
use Rattle.casreg_script.specs.Calls.Playing.{turns_of, turns_in, turns_left_in, turns_left}

-- ---- frames of rounds
-- where no exchange is open, a proposer's frames are those of its round
module _ {S V : Type 0} (m : Meaning S V) (old new : View S V) (id : ℕ) where
  pub as_turn : (verdict : Verdict) → old.council.exchange ≡ None → Step m old (turn_of old id verdict) new → StepTurn m old id verdict new
  as_turn verdict quiet by = subst (λ (o : Option ExchangeView). Step m old (if asks_as o id then step.TurnExchange verdict else step.Turn id verdict) new) quiet by

  pub as_refusal : old.council.exchange ≡ None → Step m old (refusal_of old id) new → StepRefuseTurn m old id new
  as_refusal quiet by = subst (λ (o : Option ExchangeView). Step m old (if asks_as o id then step.RefuseTurnExchange else step.RefuseTurn id) new) quiet by

pub in_front : {S V : Type 0} (view : View S V) (id : ℕ) {front : Option (Leg × ℕ)} → view.council.exchange ≡ None → front ≡ option_map head_of (slice_get (queue_at view.flow (place_of view id)).messages 0) → front ≡ option_map head_of (slice_get (queue_at view.flow id).messages 0)
in_front view id {front} quiet shown = subst (λ (o : Option ExchangeView). front ≡ option_map head_of (slice_get (queue_at view.flow (if asks_as o id then exchange_place else id)).messages 0)) quiet shown

-- ---- one queue
turns_append : (messages : List Message) (one : Message) → turns_in (messages ++ one ∷ []) ≡ turns_in messages + turns_of one
turns_append [] one = omega arith
turns_append (first_ ∷ rest) one = let after : turns_in (rest ++ one ∷ []) ≡ turns_in rest + turns_of one = turns_append rest one in omega (arith, after)

-- no frame that has its turn stays as it is, unless it is held
pub not_held : (again : Bool) (verdict : Verdict) → verdict ≢ Hold → fall_of again verdict ≢ Held
not_held true verdict free is = absurd (cc is)
not_held false Deliver free is = absurd (cc is)
not_held false Lose free is = absurd (cc is)
not_held false Twice free is = absurd (cc is)
not_held false Late free is = absurd (cc is)
not_held false Hold free is = free refl

fewer_after : (again : Bool) (messages : List Message) (room : ℕ) (verdict : Verdict) (front : Message) → slice_get messages 0 ≡ Some front → verdict ≢ Hold
    → turns_left_in (queue_after (record { messages = messages; again = again; room = room }) verdict) < turns_left_in (record { messages = messages; again = again; room = room })
fewer_after again [] room verdict front waits free = absurd (cc waits)
fewer_after true (message.Request request ∷ rest) room verdict front waits free = omega arith
fewer_after true (message.Reply reply ∷ rest) room verdict front waits free = omega arith
fewer_after false (message.Request request ∷ rest) room Deliver front waits free = omega arith
fewer_after false (message.Request request ∷ rest) room Lose front waits free = omega arith
fewer_after false (message.Request request ∷ rest) room Twice front waits free = omega arith
fewer_after false (message.Request request ∷ rest) room Late front waits free = omega arith
fewer_after false (message.Request request ∷ rest) room Hold front waits free = absurd (free refl)
fewer_after false (message.Reply reply ∷ rest) room Deliver front waits free = omega arith
fewer_after false (message.Reply reply ∷ rest) room Lose front waits free = omega arith
fewer_after false (message.Reply reply ∷ rest) room Twice front waits free = omega arith
fewer_after false (message.Reply reply ∷ rest) room Late front waits free = omega arith
fewer_after false (message.Reply reply ∷ rest) room Hold front waits free = absurd (free refl)

-- also where a request is answered
fewer_replied : (again : Bool) (messages : List Message) (room : ℕ) (verdict : Verdict) (request : _) (reply : Reply) → slice_get messages 0 ≡ Some (message.Request request) → fall_of again verdict ≡ Handle
    → turns_left_in (pushed (queue_after (record { messages = messages; again = again; room = room }) verdict) (message.Reply reply)) < turns_left_in (record { messages = messages; again = again; room = room })
fewer_replied again [] room verdict request reply waits falls = absurd (cc waits)
fewer_replied again (message.Reply r ∷ rest) room verdict request reply waits falls = absurd (cc waits)
fewer_replied true (message.Request r ∷ rest) room verdict request reply waits falls = let more : turns_in (rest ++ message.Reply reply ∷ []) ≡ turns_in rest + 2 = turns_append rest (message.Reply reply) in omega (arith, more)
fewer_replied false (message.Request r ∷ rest) room Deliver request reply waits falls = let more : turns_in (rest ++ message.Reply reply ∷ []) ≡ turns_in rest + 2 = turns_append rest (message.Reply reply) in omega (arith, more)
fewer_replied false (message.Request r ∷ rest) room Twice request reply waits falls = let more : turns_in (rest ++ message.Reply reply ∷ []) ≡ turns_in rest + 2 = turns_append rest (message.Reply reply) in omega (arith, more)
fewer_replied false (message.Request r ∷ rest) room Lose request reply waits falls = absurd (cc falls)
fewer_replied false (message.Request r ∷ rest) room Late request reply waits falls = absurd (cc falls)
fewer_replied false (message.Request r ∷ rest) room Hold request reply waits falls = absurd (cc falls)

-- ---- the queue of the proposer
replied_own : (flow : FlowView) (id : ℕ) (verdict : Verdict) (reply : Reply) {front : Message} → slice_get (queue_at flow id).messages 0 ≡ Some front
    → queue_at (frames.replied_flow flow id verdict reply) id ≡ pushed (queue_after (queue_at flow id) verdict) (message.Reply reply)
replied_own flow id verdict reply waits =
    queue_same (taken flow id verdict).own id (pushed (queue_at (taken flow id verdict) id) (message.Reply reply)) (omega (arith, has_queue flow.own id waits, length-set flow.own id (queue_after (queue_at flow id) verdict)))
    ∙ ap (λ (q : QueueView). pushed q (message.Reply reply)) (taken_own flow id verdict waits)

-- a frame that leaves, or has its second turn to come, leaves fewer turns
pub fewer_taken : (old new : FlowView) (id : ℕ) (verdict : Verdict) (front : Message) → slice_get (queue_at old id).messages 0 ≡ Some front → verdict ≢ Hold → new ≡ taken old id verdict → turns_left_in (queue_at new id) < turns_left_in (queue_at old id)
fewer_taken old new id verdict front waits free same =
    subst (λ (q : QueueView). turns_left_in q < turns_left_in (queue_at old id)) (sym (ap (λ (f : FlowView). queue_at f id) same ∙ taken_own old id verdict waits))
    (fewer_after (queue_at old id).again (queue_at old id).messages (queue_at old id).room verdict front waits free)

pub fewer_answered : (old new : FlowView) (id : ℕ) (verdict : Verdict) (request : _) (reply : Reply) → slice_get (queue_at old id).messages 0 ≡ Some (message.Request request) → fall_of (queue_at old id).again verdict ≡ Handle → new ≡ frames.replied_flow old id verdict reply
    → turns_left_in (queue_at new id) < turns_left_in (queue_at old id)
fewer_answered old new id verdict request reply waits fall same =
    subst (λ (q : QueueView). turns_left_in q < turns_left_in (queue_at old id)) (sym (ap (λ (f : FlowView). queue_at f id) same ∙ replied_own old id verdict reply waits))
    (fewer_replied (queue_at old id).again (queue_at old id).messages (queue_at old id).room verdict request reply waits fall)

-- a frame that is not held back leaves fewer turns
pub turn_fewer : {S V : Type 0} (m : Meaning S V) (old new : View S V) (id : ℕ) (verdict : Verdict) → verdict ≢ Hold → StepTurn m old id verdict new → turns_left new id < turns_left old id
turn_fewer {S} {V} m old new id verdict free by = in_turn by.of_call by.front by.waits by.turn
  where
    in_turn : (of_call : OpenCallAt old id) (front : Message) → slice_get (queue_at old.flow id).messages 0 ≡ Some front → frames.TakesTurn m old id verdict front of_call.caller of_call.call new → turns_left new id < turns_left old id
    in_turn at front waits (frames.held fall same) = absurd (not_held (queue_at old.flow id).again verdict free fall)
    in_turn at front waits (frames.gone fall same) = fewer_taken old.flow new.flow id verdict front waits free (ap (λ (v : View S V). v.flow) same)
    in_turn at front waits (frames.answers request acceptor now reply fall is there table same) = fewer_answered old.flow new.flow id verdict request reply (waits ∙ ap (λ (x : Message). Some x) is) fall (ap (λ (v : View S V). v.flow) same)
    in_turn at front waits (frames.finds_down request acceptor fall is there down same) = fewer_taken old.flow new.flow id verdict front waits free (ap (λ (v : View S V). v.flow) same)
    in_turn at front waits (frames.brings_down request acceptor now fall is there stops same) = fewer_taken old.flow new.flow id verdict front waits free (ap (λ (v : View S V). v.flow) same)
    in_turn at front waits (frames.arrives reply desk now round heard fall is there is_round hears same) = fewer_taken old.flow new.flow id verdict front waits free (ap (λ (v : View S V). v.flow) same)

-- ---- one turn more
-- the frame in front, of which the head is at hand
pub record IsFront (messages : List Message) (leg : Leg) (peer : ℕ) : Type 0 where
  pub frame : Message
  pub at : slice_get messages 0 ≡ Some frame
  pub head : head_of frame ≡ (leg, peer)

pub front_of : (messages : List Message) (front : Option (Leg × ℕ)) (leg : Leg) (peer : ℕ) → front ≡ option_map head_of (slice_get messages 0) → front ≡ Some (leg, peer) → IsFront messages leg peer
front_of [] front leg peer shown is = absurd (cc (shown, is))
front_of (frame ∷ rest) front leg peer shown is = record { frame = frame; at = refl; head = some_is (sym shown ∙ is) }

-- a late frame that strays in leaves the frames of the proposers as they are
module _ {S V : Type 0} (mid near : View S V) (place : ℕ) (keeps : KeepsUnderWay mid near) where
  pub waits_near : {frame : Message} → slice_get (queue_at mid.flow place).messages 0 ≡ Some frame → slice_get (queue_at near.flow place).messages 0 ≡ Some frame
  waits_near at = ap (λ (own : List QueueView). slice_get (slice_index_or own place empty_queue).messages 0) keeps.own ∙ at

  pub same_turns : turns_left near place ≡ turns_left mid place
  same_turns = ap (λ (own : List QueueView). turns_left_in (slice_index_or own place empty_queue)) keeps.own

  pub quiet_near : mid.council.exchange ≡ None → near.council.exchange ≡ None
  quiet_near quiet = ap (λ (c : Council). c.exchange) keeps.council ∙ quiet

-- of the frame became what the network decided
pub turned_more : {S V : Type 0} (m : Meaning S V) (id : ℕ) (old mid near new : View S V) {by before between after : NetworkView} {again : Bool} {verdict : Verdict} (front : Option (Leg × ℕ)) (leg : Leg) (peer : ℕ) → front ≡ option_map head_of (slice_get (queue_at mid.flow id).messages 0) → front ≡ Some (leg, peer)
    → KeepsUnderWay mid near → Turned m by id old before again mid → LetsStrayIn m before mid between near → DecidesVerdict (leg, peer) between again verdict after → StepTurn m near id verdict new → Turned m by id old after (is_to_repeat again verdict) new
turned_more m id old mid near new {between = between} {after = after} {again = again} {verdict = verdict} front leg peer shown is keeps turned lets decides by =
    let one = front_of (queue_at mid.flow id).messages front leg peer shown is in
    one_more one.frame turned lets (waits_near mid near id keeps one.at) (subst (λ (h : Leg × ℕ). DecidesVerdict h between again verdict after) (sym one.head) decides) by

-- no memory was found for its turn
pub turn_refused : {S V : Type 0} (m : Meaning S V) (id : ℕ) (old mid near new : View S V) {by before between after : NetworkView} {again : Bool} {verdict : Verdict} (front : Option (Leg × ℕ)) (leg : Leg) (peer : ℕ) → front ≡ option_map head_of (slice_get (queue_at mid.flow id).messages 0) → front ≡ Some (leg, peer)
    → KeepsUnderWay mid near → Turned m by id old before again mid → LetsStrayIn m before mid between near → DecidesVerdict (leg, peer) between again verdict after → StepRefuseTurn m near id new → FailsToTurn m by id old after new
turn_refused m id old mid near new {before = before} {between = between} {after = after} {again = again} {verdict = verdict} front leg peer shown is keeps turned lets decides by =
    let one = front_of (queue_at mid.flow id).messages front leg peer shown is in
    record {
      before = before;
      again = again;
      mid = mid;
      turned = turned;
      between = between;
      near = near;
      lets_in = lets;
      frame = one.frame;
      waits = waits_near mid near id keeps one.at;
      verdict = verdict;
      decides = subst (λ (h : Leg × ℕ). DecidesVerdict h between again verdict after) (sym one.head) decides;
      fails = by;
    }

pub none_waits : (messages : List Message) (front : Option (Leg × ℕ)) → front ≡ option_map head_of (slice_get messages 0) → front ≡ None → messages ≡ []
none_waits [] front shown none = refl
none_waits (one ∷ rest) front shown none = absurd (cc (shown, none))
