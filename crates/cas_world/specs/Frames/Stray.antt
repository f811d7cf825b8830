-- What becomes of a late frame that strays in.
use Rattle.std.specs.Prelude.{◌≡◌, ℕ, ◌+◌, ◌≤◌, List, ◌++◌, length, Some, is_some, slice_get, slice_set}
use Rattle.cas_acceptor.specs.Acceptor.{AcceptorView}
use Rattle.cas_flow.specs.Flow.{FlowView}
use Rattle.cas_flow.specs.declared.message.Message.TheVariants as message
use Rattle.cas_proposer.specs.Desk.{DeskView}
use Rattle.cas_record.specs.Book.{Book}
use Rattle.cas_slot.specs.declared.message.Reply.{Reply}
use Rattle.cas_slot.specs.declared.message.Request.{Request}
use Rattle.cas_model.specs.Frames.Acceptors.{AnswersByTable}
use Rattle.cas_model.specs.Frames.Step.{with_late, without_late, votes_marked}
use Rattle.cas_model.specs.View.{ShelfMeaning, IsAt}
use Rattle.cas_world.specs.Frames.Serve.{FindsDown}
use Rattle.cas_world.specs.Frames.Turn.{Arrives}

-- ---- a request
pub data AsksLate {S : Type 0} (m : ShelfMeaning S) (index : ℕ) (request : Request) (acceptors acceptors_now : List (AcceptorView S)) (flow flow_now : FlowView) (before after : Book) : Type 0 where
  -- the acceptor answers, its reply is late, too, and its vote is marked
  is_answered : (acceptor acceptor_now : AcceptorView S) (reply : Reply) → IsAt acceptors request.to acceptor → AnswersByTable m acceptor acceptor_now request reply
      → acceptors_now ≡ slice_set acceptors request.to acceptor_now → flow_now ≡ with_late (without_late flow index) (message.Reply reply)
      → after.marks ≡ before.marks ++ votes_marked request reply → after.room + length (votes_marked request reply) ≡ before.room
      → AsksLate m index request acceptors acceptors_now flow flow_now before after
  -- it is down or goes down
  is_down : FindsDown m acceptors request acceptors_now → flow_now ≡ without_late flow index → after ≡ before
      → AsksLate m index request acceptors acceptors_now flow flow_now before after

-- ---- a reply
-- it arrives at the desk of its proposer, or there is none
pub data ArrivesAt {V : Type 0} (reply : Reply) (desks desks_now : List (DeskView V)) : Type 0 where
  at_desk : (desk desk_now : DeskView V) → IsAt desks reply.to desk → Arrives desk desk_now reply → is_some desk_now.round ≡ is_some desk.round → desks_now ≡ slice_set desks reply.to desk_now
      → ArrivesAt reply desks desks_now
  nowhere : length desks ≤ reply.to → desks_now ≡ desks → ArrivesAt reply desks desks_now

-- ---- the frame is let in
-- no mark is made, and so many more have room
pub record LeavesRoom (marks : ℕ) (before after : Book) : Type 0 where
  pub same : after.marks ≡ before.marks
  pub room : marks ≤ after.room

-- what the frame bears is handled, once there is room for so many marks; the acceptor at its other end is `peer`
pub data LetsIn {S V : Type 0} (m : ShelfMeaning S) (index marks peer : ℕ) (acceptors acceptors_now : List (AcceptorView S)) (desks desks_now : List (DeskView V)) (flow flow_now : FlowView) (before after : Book) : Type 0 where
  asks : (request : Request) (middle : Book) → slice_get flow.late index ≡ Some (message.Request request) → peer ≡ request.to → LeavesRoom marks before middle
      → AsksLate m index request acceptors acceptors_now flow flow_now middle after → desks_now ≡ desks
      → LetsIn m index marks peer acceptors acceptors_now desks desks_now flow flow_now before after
  arrives : (reply : Reply) → slice_get flow.late index ≡ Some (message.Reply reply) → peer ≡ reply.from → LeavesRoom marks before after
      → ArrivesAt reply desks desks_now → acceptors_now ≡ acceptors → flow_now ≡ without_late flow index
      → LetsIn m index marks peer acceptors acceptors_now desks desks_now flow flow_now before after
