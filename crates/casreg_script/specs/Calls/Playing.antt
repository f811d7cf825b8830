-- How far a caller's call has come in its round.
pub use Rattle.cas_record.specs.Answers.{is_conflict}
use Rattle.std.specs.Prelude.{◌≡◌, ◌+◌, ◌-◌, ℕ, Bool, not, List, [], ◌∷◌, if◌then◌else◌, None, Some, IsSome, is_some}
use Rattle.cas_change.specs.declared.program.Clause.{Clause}
use Rattle.cas_flow.specs.Flow.{queue_at}
use Rattle.cas_flow.specs.Queue.{QueueView}
use Rattle.cas_flow.specs.declared.message.Message.{Message}
use Rattle.cas_flow.specs.declared.message.Message.TheVariants as message
use Rattle.cas_proposer.specs.Desk.{DeskView}
use Rattle.cas_proposer.specs.Round.{is_preparing}
use Rattle.cas_proposer.specs.declared.round.Round.{Round}
use Rattle.cas_record.specs.declared.answer.Answer.{Answer}
use Rattle.cas_record.specs.declared.answer.Answer.TheVariants as answer
use Rattle.cas_model.specs.View.{View, CallView, CallerView, IsAt}
use Rattle.cas_ballot.specs.declared.ballot.Ballot.{Ballot}
use Rattle.cas_world.specs.Calls.Beginning.{MayBegin}
use Rattle.cas_world.specs.World.{WasTold}

-- what a caller asks for
pub record AskedCall : Type 0 where
  pub number : ℕ
  pub key : List ℕ
  pub program : List Clause

-- the caller's open call is for that
pub record IsCallFor {S V : Type 0} (view : View S V) (id : ℕ) (asked : AskedCall) (call : CallView) : Type 0 where
  pub caller : CallerView
  pub at_caller : IsAt view.callers id caller
  pub number : caller.number ≡ asked.number
  pub is_call : caller.call ≡ Some call
  pub key : call.key ≡ asked.key
  pub program : call.program ≡ asked.program

-- it is open, and so is its round, and no exchange is
pub record HasBegun {S V : Type 0} (view : View S V) (id : ℕ) (asked : AskedCall) : Type 0 where
  pub call : CallView
  pub is_for : IsCallFor view id asked call
  pub desk : DeskView V
  pub at_desk : IsAt view.desks id desk
  pub is_open : IsSome desk.round
  pub quiet : view.council.exchange ≡ None

-- it is open, and so is its round, which is in its accept phase where the call has proposed something
pub record IsPlaying {S V : Type 0} (view : View S V) (id : ℕ) (asked : AskedCall) (proposed : Bool) : Type 0 where
  pub call : CallView
  pub is_for : IsCallFor view id asked call
  pub proposed_is : is_some call.proposed ≡ proposed
  pub desk : DeskView V
  pub at_desk : IsAt view.desks id desk
  pub round : Round
  pub is_round : desk.round ≡ Some round
  pub phase : is_preparing round.phase ≡ not proposed
  pub quiet : view.council.exchange ≡ None

-- it was told this, and where that is a conflict it may begin another round
pub record IsOver {S V : Type 0} (view : View S V) (id : ℕ) (asked : AskedCall) (told : Answer) : Type 0 where
  pub call : CallView
  pub is_for : IsCallFor view id asked call
  pub was_told : WasTold view id asked.number told
  pub quiet : view.council.exchange ≡ None
  pub again : (met : Ballot) → told ≡ answer.Conflict met → MayBegin view id asked.number asked.key asked.program

-- how many turns are left at most: a frame has two where it is repeated, and so has each of the two replies to a request
abbrev pub turns_of : Message → ℕ
turns_of (message.Request request) = 6
turns_of (message.Reply reply) = 2

abbrev pub turns_in : List Message → ℕ
turns_in [] = 0
turns_in (frame ∷ frames) = turns_of frame + turns_in frames

-- of a frame whose second turn is to come
abbrev pub turns_done : List Message → ℕ
turns_done [] = 0
turns_done (message.Request request ∷ frames) = 3
turns_done (message.Reply reply ∷ frames) = 1

abbrev pub turns_left_in : QueueView → ℕ
turns_left_in queue = turns_in queue.messages - (if queue.again then turns_done queue.messages else 0)

abbrev pub turns_left : {S V : Type 0} → View S V → ℕ → ℕ
turns_left view id = turns_left_in (queue_at view.flow id)
