-- What becomes of the first frame of a proposer in its turn.
use Rattle.std.specs.Prelude.{◌≡◌, ℕ, ◌+◌, ◌-◌, ◌<◌, Bool, true, List, [], ◌++◌, length, None, IsSome, Some, IfSome, IsSomeAnd, slice_get, slice_set}
use Rattle.cas_acceptor.specs.Acceptor.{AcceptorView}
use Rattle.cas_fate.specs.declared.fate.Verdict.{Verdict}
use Rattle.cas_flow.specs.Flow.{FlowView, queue_at, taken}
use Rattle.cas_flow.specs.declared.message.Message.TheVariants as message
use Rattle.cas_proposer.specs.Desk.{DeskView}
use Rattle.cas_proposer.specs.Round.{Hears}
use Rattle.cas_proposer.specs.declared.round.Round.{Round}
use Rattle.cas_record.specs.Book.{Book}
use Rattle.cas_record.specs.declared.mark.Mark.{Mark}
use Rattle.cas_slot.specs.declared.message.Reply.{Reply}
use Rattle.cas_slot.specs.declared.message.Request.{Request}
use Rattle.cas_model.specs.Frames.Acceptors.{AnswersByTable}
use Rattle.cas_model.specs.Frames.Step.{replied_flow, votes_marked}
use Rattle.cas_model.specs.View.{ShelfMeaning, IsAt}
use Rattle.cas_world_calls.specs.Call.{harmed_by, harms_marked}
use Rattle.cas_world.specs.Frames.Serve.{FindsDown}
use Rattle.cas_world_calls.specs.declared.call.Caller.{Caller}
use Rattle.cas_world_calls.specs.declared.call.OpenCall.{OpenCall}

-- ---- a caller and the record
-- its call is open, and a mark is reserved for it
pub record HasReservedMark (caller : Caller) (left : ℕ) : Type 0 where
  pub is_open : IsSome caller.call
  pub reserved : IfSome caller.call (λ call. 0 < call.reserved)
  pub room : 0 < left

-- its open call goes on so, and these marks are made in the room that was reserved
pub record MakesInRoom (old new : Caller) (before after : Book) (next : OpenCall → OpenCall) (marks : OpenCall → List Mark) : Type 0 where
  pub call : OpenCall
  pub was_open : old.call ≡ Some call
  pub caller : new ≡ record old { call = Some (next call) }
  pub made : after.marks ≡ before.marks ++ marks call
  pub room : after.room + length (marks call) ≡ before.room

abbrev pub silent : OpenCall → OpenCall
silent call = record call { told = None }

abbrev pub marking : List Mark → OpenCall → OpenCall
marking marks call = record call { told = None; reserved = call.reserved - length marks }

-- a frame to or from the acceptor is harmed
abbrev pub Harms : ℕ → Caller → Caller → Book → Book → ℕ → Bool → Type 0
Harms proposer old new before after acceptor down =
    MakesInRoom old new before after (λ call. harmed_by call acceptor) (λ call. harms_marked proposer old.number call acceptor down)

-- ---- a request
pub data Asks {S : Type 0} (m : ShelfMeaning S) (proposer : ℕ) (verdict : Verdict) (request : Request) (acceptors acceptors_now : List (AcceptorView S)) (caller caller_now : Caller) (flow flow_now : FlowView) (before after : Book) : Type 0 where
  -- the acceptor answers, and its vote is marked
  is_answered : (acceptor acceptor_now : AcceptorView S) (reply : Reply) → IsAt acceptors request.to acceptor → AnswersByTable m acceptor acceptor_now request reply
      → acceptors_now ≡ slice_set acceptors request.to acceptor_now → flow_now ≡ replied_flow flow proposer verdict reply
      → MakesInRoom caller caller_now before after (marking (votes_marked request reply)) (λ call. votes_marked request reply)
      → Asks m proposer verdict request acceptors acceptors_now caller caller_now flow flow_now before after
  -- it is down or goes down
  is_down : FindsDown m acceptors request acceptors_now → flow_now ≡ taken flow proposer verdict → Harms proposer caller caller_now before after request.to true
      → Asks m proposer verdict request acceptors acceptors_now caller caller_now flow flow_now before after

-- ---- a reply
-- it is heard where a round is open
pub record Arrives {V : Type 0} (old new : DeskView V) (reply : Reply) : Type 0 where
  pub desk : new ≡ record old { round = new.round }
  pub heard : (round : Round) → old.round ≡ Some round → IsSomeAnd new.round (Hears round reply)

-- ---- what the frame bears is handled
pub data HandlesFrame {S V : Type 0} (m : ShelfMeaning S) (proposer : ℕ) (verdict : Verdict) (acceptors acceptors_now : List (AcceptorView S)) (desk desk_now : DeskView V) (caller caller_now : Caller) (flow flow_now : FlowView) (before after : Book) : Type 0 where
  asks : (request : Request) → slice_get (queue_at flow proposer).messages 0 ≡ Some (message.Request request)
      → Asks m proposer verdict request acceptors acceptors_now caller caller_now flow flow_now before after → desk_now ≡ desk
      → HandlesFrame m proposer verdict acceptors acceptors_now desk desk_now caller caller_now flow flow_now before after
  arrives : (reply : Reply) → slice_get (queue_at flow proposer).messages 0 ≡ Some (message.Reply reply) → Arrives desk desk_now reply
      → MakesInRoom caller caller_now before after silent (λ call. []) → acceptors_now ≡ acceptors → flow_now ≡ taken flow proposer verdict
      → HandlesFrame m proposer verdict acceptors acceptors_now desk desk_now caller caller_now flow flow_now before after
