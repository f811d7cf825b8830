-- What becomes of a frame: the first own one of a proposer in its turn, or a late one that strays in.
use Rattle.std.specs.Prelude.{◌-◌, length, ◌≡◌, ℕ, ◌+◌, Bool, true, false, List, [], ◌∷◌, ◌++◌, take, drop, if◌then◌else◌, None, Some}
use Rattle.cas_ballot.specs.Members.{has_member, with_member}
use Rattle.cas_fate.specs.declared.fate.Verdict.{Verdict}
use Rattle.cas_flow.specs.Flow.{FlowView, queue_at, with_queue, taken}
use Rattle.cas_flow.specs.Message.{head_of}
use Rattle.cas_flow.specs.Queue.{fall_of, pushed, joined}
use Rattle.cas_flow.specs.declared.fall.Fall.TheVariants.{Handle, Gone, Held}
use Rattle.cas_flow.specs.declared.message.Message.{Message}
use Rattle.cas_flow.specs.declared.message.Message.TheVariants as message
use Rattle.cas_acceptor.specs.Acceptor.{AcceptorView}
use Rattle.cas_proposer.specs.Desk.{DeskView}
use Rattle.cas_proposer.specs.declared.round.Round.{Round}
use Rattle.cas_slot.specs.declared.message.Reply.{Reply}
use Rattle.cas_slot.specs.declared.message.Request.{Request}
use Rattle.cas_record.specs.declared.mark.Mark.{Mark}
use Rattle.cas_record.specs.declared.mark.Mark.TheVariants.{Harmed}
use Rattle.cas_record.specs.Logs.Happening.{marks_of}
use Rattle.cas_protocol.specs.Acceptors.{votes_of}
use Rattle.cas_model.specs.Frames.Acceptors.{AnswersByTable, StopsWithin, FindsNoMemory}
use Rattle.cas_model.specs.Calls.Desks.{HearsReply}
use Rattle.cas_model.specs.View.{Meaning, CallView, CallerView, View, IsAt, with_acceptor, with_desk, with_marks}
use Rattle.cas_model.specs.Calls.Step.{with_call}

-- ---- parts
-- a turn that tells its caller nothing
abbrev pub silent : CallView → CallView
silent call = record call { told = None }

-- the same of one that made so many marks
abbrev pub marking : CallView → ℕ → CallView
marking call marks = record call { told = None; reserved = call.reserved - marks }

-- the vote of an accept that is confirmed
abbrev pub votes_marked : Request → Reply → List Mark
votes_marked request reply = marks_of (votes_of request.to request.ask reply.tell)

-- the first harm of an acceptor in a phase is marked, and no other
abbrev pub harmed_by : CallView → ℕ → CallView
harmed_by call acceptor = record call {
  told = None;
  harmed = if has_member call.harmed acceptor then call.harmed else with_member call.harmed acceptor;
  reserved = if has_member call.harmed acceptor then call.reserved else call.reserved - 1;
}

abbrev pub harms_marked : ℕ → ℕ → CallView → ℕ → Bool → List Mark
harms_marked id number call acceptor down = if has_member call.harmed acceptor then [] else Harmed id number down ∷ []

-- a frame to or from the acceptor is lost or late, or finds it down or brings it down
abbrev pub harmed_view : {S V : Type 0} → View S V → ℕ → CallerView → CallView → ℕ → Bool → View S V
harmed_view view id caller call acceptor down = with_marks (with_call view id caller (harmed_by call acceptor)) (harms_marked id caller.number call acceptor down)

-- the reply waits behind the proposer's other frames
abbrev pub replied_flow : FlowView → ℕ → Verdict → Reply → FlowView
replied_flow flow id verdict reply = with_queue (taken flow id verdict) id (pushed (queue_at (taken flow id verdict) id) (message.Reply reply))

-- ---- a turn
pub data TakesTurn {S V : Type 0} (m : Meaning S V) (old : View S V) (id : ℕ) (verdict : Verdict) (front : Message) (caller : CallerView) (call : CallView) (new : View S V) : Type 0 where
  -- the frame stays where it is
  held : fall_of (queue_at old.flow id).again verdict ≡ Held → new ≡ old → TakesTurn m old id verdict front caller call new
  -- it is lost or late
  gone : fall_of (queue_at old.flow id).again verdict ≡ Gone
      → new ≡ harmed_view (record old { flow = taken old.flow id verdict }) id caller call (head_of front).1 false → TakesTurn m old id verdict front caller call new
  -- an acceptor answers
  answers : (request : Request) (acceptor now : AcceptorView S) (reply : Reply) → fall_of (queue_at old.flow id).again verdict ≡ Handle → front ≡ message.Request request
      → IsAt old.acceptors request.to acceptor → AnswersByTable m.shelves acceptor now request reply
      → new ≡ with_marks (record (with_call (with_acceptor old request.to now) id caller (marking call (length (votes_marked request reply)))) { flow = replied_flow old.flow id verdict reply }) (votes_marked request reply)
      → TakesTurn m old id verdict front caller call new
  -- it is down
  finds_down : (request : Request) (acceptor : AcceptorView S) → fall_of (queue_at old.flow id).again verdict ≡ Handle → front ≡ message.Request request
      → IsAt old.acceptors request.to acceptor → acceptor.down ≡ true
      → new ≡ harmed_view (record old { flow = taken old.flow id verdict }) id caller call request.to true → TakesTurn m old id verdict front caller call new
  -- it goes down
  brings_down : (request : Request) (acceptor now : AcceptorView S) → fall_of (queue_at old.flow id).again verdict ≡ Handle → front ≡ message.Request request
      → IsAt old.acceptors request.to acceptor → StopsWithin m.shelves acceptor now request
      → new ≡ harmed_view (record (with_acceptor old request.to now) { flow = taken old.flow id verdict }) id caller call request.to true → TakesTurn m old id verdict front caller call new
  -- a reply arrives at the open round
  arrives : (reply : Reply) (desk now : DeskView V) (round heard : Round) → fall_of (queue_at old.flow id).again verdict ≡ Handle → front ≡ message.Reply reply
      → IsAt old.desks id desk → desk.round ≡ Some round → HearsReply desk now round heard reply
      → new ≡ record (with_call (with_desk old id now) id caller (silent call)) { flow = taken old.flow id verdict } → TakesTurn m old id verdict front caller call new

-- no memory was found, and all is as before; of an acceptor that was asked, what it keeps is
pub data FindsNoRoom {S V : Type 0} (m : Meaning S V) (old : View S V) (new : View S V) : Type 0 where
  stays : new ≡ old → FindsNoRoom m old new
  kept : (id : ℕ) (acceptor now : AcceptorView S) → IsAt old.acceptors id acceptor → FindsNoMemory m.shelves acceptor now → new ≡ with_acceptor old id now → FindsNoRoom m old new

-- ---- a late frame
abbrev pub without_late : FlowView → ℕ → FlowView
without_late flow index = record flow { late = take index flow.late ++ drop (index + 1) flow.late }

abbrev pub with_late : FlowView → Message → FlowView
with_late flow message = record flow { late = joined flow.late message }

-- its acceptor is down, or its proposer has no open round
abbrev pub IsIgnored : {S V : Type 0} → View S V → Message → Type 0
IsIgnored {S} {V} view (message.Request request) = (acceptor : AcceptorView S) → IsAt view.acceptors request.to acceptor → acceptor.down ≡ true
IsIgnored {S} {V} view (message.Reply reply) = (desk : DeskView V) → IsAt view.desks reply.to desk → desk.round ≡ None

pub data Strays {S V : Type 0} (m : Meaning S V) (old : View S V) (index : ℕ) (late : Message) (new : View S V) : Type 0 where
  -- an acceptor answers it, and its reply is late, too
  answers : (request : Request) (acceptor now : AcceptorView S) (reply : Reply) → late ≡ message.Request request
      → IsAt old.acceptors request.to acceptor → AnswersByTable m.shelves acceptor now request reply
      → new ≡ with_marks (record (with_acceptor old request.to now) { flow = with_late (without_late old.flow index) (message.Reply reply) }) (votes_marked request reply)
      → Strays m old index late new
  -- it goes down
  brings_down : (request : Request) (acceptor now : AcceptorView S) → late ≡ message.Request request → IsAt old.acceptors request.to acceptor → StopsWithin m.shelves acceptor now request
      → new ≡ record (with_acceptor old request.to now) { flow = without_late old.flow index } → Strays m old index late new
  -- a reply arrives at the open round of its proposer
  arrives : (reply : Reply) (desk now : DeskView V) (round heard : Round) → late ≡ message.Reply reply → IsAt old.desks reply.to desk → desk.round ≡ Some round
      → HearsReply desk now round heard reply → new ≡ record (with_desk old reply.to now) { flow = without_late old.flow index } → Strays m old index late new
  -- it is dropped: its acceptor is down, or no round is open
  drops : IsIgnored old late → new ≡ record old { flow = without_late old.flow index } → Strays m old index late new
