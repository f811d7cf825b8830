-- What is read of a world.
use Rattle.std.proofs.Common.{◌<◌, ◌≤◌, ℕ, List, arith}
use Rattle.std.specs.Prelude.{◌+◌, ◌^◌}
use Rattle.cas_acceptor.specs.Acceptor.{AcceptorView}
use Rattle.cas_flow.specs.Flow.{FlowView}
use Rattle.cas_proposer.specs.Desk.{DeskView}
use Rattle.cas_record.specs.Book.{Book}
use Rattle.cas_model.specs.Safe.{IsSafe}
use Rattle.cas_model.specs.View.{IsAt}
use Rattle.cas_world_calls.specs.declared.council.Council.{Council}
use Rattle.cas_world_calls.specs.declared.call.Caller.{Caller}
use Rattle.cas_world.specs.World.{view_of, caller_view}
use Rattle.cas_world.proofs.Calls.Callers.{at_map}
use Rattle.cas_model.proofs.Safety.Parts.{at_low}

-- a caller begins no more calls than there are marks
pub few_calls : {S V : Type 0} (last_proposer : ℕ) (council : Council) (acceptors : List (AcceptorView S)) (desks : List (DeskView V)) (callers : List Caller) (flow : FlowView) (book : Book) (id : ℕ) (caller : Caller)
    → IsSafe (view_of last_proposer council acceptors desks callers flow book) → id ≤ last_proposer → IsAt callers id caller → caller.number + 1 < 2 ^ 32
few_calls last_proposer council acceptors desks callers flow book id caller safe low at =
    let found = at_low desks id (omega (arith, safe.sound.desks, low)) in
    omega (arith, safe.sound.room, (safe.sound.parties id found.0 (caller_view caller) found.1 (at_map caller_view callers id caller at)).number)
