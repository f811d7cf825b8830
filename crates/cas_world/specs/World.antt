-- What a world is seen as, and what it keeps true.
use Rattle.std.specs.Prelude.{Bool, ◌≡◌, ◌≤◌, ℕ, List, [], map, Option, Some, option_map, IfSome, false}
use Rattle.cas_acceptor.specs.Acceptor.{AcceptorView}
use Rattle.cas_proposer.specs.Desk.{DeskView}
use Rattle.cas_proposer.specs.Round.{is_preparing}
use Rattle.cas_proposer.specs.declared.round.Round.{Round}
use Rattle.cas_flow.specs.Flow.{FlowView, queue_at}
use Rattle.cas_record.specs.Book.{Book}
use Rattle.cas_record.specs.declared.answer.Answer.{Answer}
use Rattle.cas_world_calls.specs.declared.call.Caller.{Caller}
use Rattle.cas_world_calls.specs.declared.call.OpenCall.{OpenCall}
use Rattle.cas_world_calls.specs.declared.council.Council.{Council}
use Rattle.cas_world_calls.specs.Council.{council_view}
use Rattle.cas_world_calls.specs.declared.proposal.Copies.{Copies}
use Rattle.cas_model.specs.History.{IsRemembered}
use Rattle.cas_model.specs.Safe.{IsSafe}
use Rattle.cas_model.specs.View.{Meaning, View, CallView, CallerView, IsAt, reserved_in_all}

-- ---- what is seen
abbrev pub call_view : OpenCall → CallView
call_view call = record {
  key = call.key;
  program = call.program;
  rounds = call.rounds;
  reserved = call.reserved;
  proposed = call.proposed;
  harmed = call.harmed;
  told = call.told;
  is_closed = call.is_closed;
}

abbrev pub caller_view : Caller → CallerView
caller_view caller = record { number = caller.number; call = option_map call_view caller.call }

abbrev pub view_of : {S V : Type 0} → ℕ → Council → List (AcceptorView S) → List (DeskView V) → List Caller → FlowView → Book → View S V
view_of last_proposer council acceptors desks callers flow book = record {
  last_proposer = last_proposer;
  eras = council.eras.0;
  acceptors = acceptors;
  desks = desks;
  callers = map caller_view callers;
  council = council_view council;
  flow = flow;
  marks = book.marks;
}

-- ---- what it keeps true
-- the end of an accept phase has the copies that it needs
abbrev pub HasCopies : Option Round → Option OpenCall → Type 0
HasCopies (Some round) (Some call) = is_preparing round.phase ≡ false → IfSome call.proposed (λ outcome. (copies : Copies) × (call.copies ≡ Some copies)
    × (copies.key ≡ round.key) × (copies.told ≡ outcome.state) × (copies.answer ≡ outcome.state) × (copies.kept ≡ outcome.state))
HasCopies round call = Unit {0}

-- the cluster is safe, each mark that is reserved has memory, and so has each accept phase for its end
pub record IsWorld {S V : Type 0} (m : Meaning S V) (view : View S V) (callers : List Caller) (left : ℕ) : Type 0 where
  pub safe : IsSafe view
  pub room : reserved_in_all view ≤ left
  pub copies : (id : ℕ) (desk : DeskView V) (caller : Caller) → IsAt view.desks id desk → IsAt callers id caller → HasCopies desk.round caller.call
  -- where shelves and disks tell what they keep, there is a log of all that happened, which agrees with all of it
  pub remembered : m.shelves.tells → m.disks.tells → IsRemembered m view

-- ---- what its calls ask
-- the caller's open call has that number, and this is what it was told last
pub record WasTold {S V : Type 0} (view : View S V) (id number : ℕ) (answer : Answer) : Type 0 where
  pub caller : CallerView
  pub at_caller : IsAt view.callers id caller
  pub same_number : caller.number ≡ number
  pub call : CallView
  pub is_open : caller.call ≡ Some call
  pub told : call.told ≡ Some answer

-- the proposer's round is in that phase, and none of its frames waits
pub record IsInPhase {S V : Type 0} (view : View S V) (proposer : ℕ) (preparing : Bool) : Type 0 where
  pub desk : DeskView V
  pub at_desk : IsAt view.desks proposer desk
  pub round : Round
  pub is_round : desk.round ≡ Some round
  pub phase : is_preparing round.phase ≡ preparing
  pub none_waits : (queue_at view.flow proposer).messages ≡ []
