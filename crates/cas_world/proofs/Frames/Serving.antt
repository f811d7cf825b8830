-- What an acceptor did that was asked.
use Rattle.std.proofs.Common.{inl, inr, Bool, ◌≡◌, ◌≤◌, ℕ, true, false, List, [], ◌∷◌, Option, Some, slice_set, refl, sym, ap, ◌∙◌, inl, inr}
use Rattle.std.specs.Prelude.{◌⊎◌, IsTrue, Result, Ok, Err}
use Rattle.cas_base.specs.Faults.{Rose}
use Rattle.cas_acceptor.specs.declared.fault.HandleFault.{HandleFault}
use Rattle.cas_acceptor.specs.declared.fault.HandleFault.TheVariants as faults
use Rattle.cas_acceptor.specs.Acceptor.{AcceptorView, LeavesByTable}
use Rattle.cas_flow.specs.declared.message.Message.{Message}
use Rattle.cas_flow.specs.declared.message.Message.TheVariants as message
use Rattle.cas_record.specs.declared.mark.Mark.{Mark}
use Rattle.cas_record.specs.declared.mark.Mark.TheVariants.{Voted}
use Rattle.cas_record.specs.Logs.Happening.{marks_of}
use Rattle.cas_slot.specs.Message.{tag_of}
use Rattle.cas_slot.specs.Shelf.{Left, OnlyLeaves, ShelfLeavesOnly}
use Rattle.cas_slot.specs.Table.{IsReplyByTable}
use Rattle.cas_slot.specs.declared.message.Ask.{Ask}
use Rattle.cas_slot.specs.declared.message.Ask.TheVariants as ask
use Rattle.cas_slot.specs.declared.message.Reply.{Reply}
use Rattle.cas_slot.specs.declared.message.Request.{Request}
use Rattle.cas_slot.specs.declared.message.Tell.{Tell}
use Rattle.cas_slot.specs.declared.message.Tell.TheVariants as tell
use Rattle.cas_protocol.specs.Acceptors.{votes_of}
use Rattle.cas_model.specs.Frames.Acceptors.{StopsWithin, FindsNoMemory}
use Rattle.cas_model.specs.View.{ShelfMeaning, IsAt}
use Rattle.cas_world.specs.Frames.Serve.{voted_key, vote_by, mark_in, RepliesBy, FindsDown, was_down, goes_down}
use Rattle.cas_base.proofs.Bools.{true_or_false}
use Rattle.cas_world.proofs.Parts.{same_but, set_same}

-- the vote of a reply is the one that is marked
vote_marked : (question : Ask) (answer : Tell) (reply : Reply) (id : ℕ) → reply.from ≡ id → reply.tag ≡ tag_of question → mark_in (vote_by (voted_key question) reply answer) ≡ marks_of (votes_of id question answer)
vote_marked (ask.Accept key ballot era ride state) tell.Accepted reply id from tag =
    ap (λ (i : ℕ). Voted i key reply.tag ∷ []) from ∙ ap (λ (b : _). Voted id key b ∷ []) tag
vote_marked (ask.Accept key ballot era ride state) (tell.Promised accepted) reply id from tag = refl
vote_marked (ask.Accept key ballot era ride state) (tell.Met seen) reply id from tag = refl
vote_marked (ask.Accept key ballot era ride state) (tell.Aged least) reply id from tag = refl
vote_marked (ask.Accept key ballot era ride state) tell.Full reply id from tag = refl
vote_marked (ask.Accept key ballot era ride state) tell.AgesSet reply id from tag = refl
vote_marked (ask.Accept key ballot era ride state) tell.Removed reply id from tag = refl
vote_marked (ask.Accept key ballot era ride state) tell.Kept reply id from tag = refl
vote_marked (ask.Accept key ballot era ride state) (tell.Listed after keys more) reply id from tag = refl
vote_marked (ask.Accept key ballot era ride state) (tell.Probed promise accepted) reply id from tag = refl
vote_marked (ask.Prepare key ballot) answer reply id from tag = refl
vote_marked (ask.Ages t least) answer reply id from tag = refl
vote_marked (ask.Remove key tomb) answer reply id from tag = refl
vote_marked (ask.List t after) answer reply id from tag = refl
vote_marked (ask.Probe t key) answer reply id from tag = refl

-- an answer is no failure, and want of memory brings nothing down
pub no_failure : {A E : Type 0} {x : A} {e : E} (r : Result A E) → r ≡ Ok x → r ≡ Err e → ⊥
no_failure (Ok y) is fails = absurd (cc fails)
no_failure (Err f) is fails = absurd (cc is)

pub not_down : {A : Type 0} {f : HandleFault} (r : Result A HandleFault) → r ≡ Err f → f ≡ faults.NoMemory → r ≡ Err faults.Down → ⊥
not_down r is memory fell = absurd (cc (is, memory, fell))

-- it answered
pub replies_by : {S : Type 0} (m : ShelfMeaning S) (all now : List (AcceptorView S)) (request : Request) (frame : Option Message) (vote : Option Mark) (old new : AcceptorView S) (reply : Reply) (key : Option (List ℕ))
    → IsAt all request.to old → old.id ≡ request.to → old.down ≡ false → new.down ≡ false → new.id ≡ old.id → new.started ≡ old.started
    → IsReplyByTable old.id (m.contents old.shelf) request reply (m.contents new.shelf)
    → (m.tells → new.down ≡ false → OnlyLeaves (m.contents new.shelf) (m.may_leave new.shelf)) → m.faults old.shelf ≤ m.faults new.shelf
    → frame ≡ Some (message.Reply reply) → key ≡ voted_key request.ask → vote ≡ vote_by key reply reply.tell → now ≡ slice_set all request.to new
    → RepliesBy m all request frame vote now
replies_by {S} m all now request frame vote old new reply key stands is up still same_id same_started table lasts never_falls bears of_key votes changed = record {
  acceptor = old;
  after = new;
  stands = stands;
  reply = reply;
  table = record {
    up = up;
    acceptor = same_but old new old.down same_id same_started (still ∙ sym up);
    table = table;
    lasts = λ tells. lasts tells still;
    never_falls = never_falls;
  };
  bears = bears;
  voted = ap mark_in votes ∙ ap (λ (k : Option (List ℕ)). mark_in (vote_by k reply reply.tell)) of_key ∙ vote_marked request.ask reply.tell reply request.to (table.from ∙ is) table.tag;
  changed = changed;
}

-- it went down within the answer
pub stops_within : {S : Type 0} (m : ShelfMeaning S) (moment : S → ℕ) (left_since : S → ℕ → Left → Type 0) (request : Request) (old new : AcceptorView S)
    → old.down ≡ false → new.down ≡ true → new.id ≡ old.id → new.started ≡ old.started
    → (m.tells → old.down ≡ false → ShelfLeavesOnly moment left_since old.shelf new.shelf (LeavesByTable (m.contents old.shelf) request))
    → ((left : Left) → m.tells → moment old.shelf ≤ moment new.shelf → m.may_leave new.shelf left → left_since new.shelf (moment old.shelf) left)
    → Rose (m.faults old.shelf) (m.faults new.shelf) → StopsWithin m old new request
stops_within {S} m moment left_since request old new up down same_id same_started leaves counts_now rose = record {
  faulted = rose;
  up = up;
  acceptor = same_but old new true same_id same_started down;
  leaves = λ tells left may. (leaves tells up).each left (counts_now left tells (leaves tells up).later may);
}

-- one that was up goes down only as its shelf failed
rose_where : {A : Type 0} {down : Bool} → down ≡ false → IsTrue down ⊎ A → A
rose_where up (inl was) = absurd (cc (up, was))
rose_where up (inr rose) = rose

-- it was down, or went down
pub finds_down : {S : Type 0} (m : ShelfMeaning S) (moment : S → ℕ) (left_since : S → ℕ → Left → Type 0) (all now : List (AcceptorView S)) (request : Request) (old new : AcceptorView S)
    → IsAt all request.to old → new.down ≡ true → new.id ≡ old.id → new.started ≡ old.started
    → (old.down ≡ true → new ≡ old)
    → (m.tells → old.down ≡ false → ShelfLeavesOnly moment left_since old.shelf new.shelf (LeavesByTable (m.contents old.shelf) request))
    → ((left : Left) → m.tells → moment old.shelf ≤ moment new.shelf → m.may_leave new.shelf left → left_since new.shelf (moment old.shelf) left)
    → (IsTrue old.down ⊎ Rose (m.faults old.shelf) (m.faults new.shelf)) → now ≡ slice_set all request.to new → FindsDown m all request now
finds_down {S} m moment left_since all now request old new stands down same_id same_started stays leaves counts_now cause changed = elim (true_or_false old.down) [
  | inl was ↦ was_down old stands was (changed ∙ ap (λ (a : AcceptorView S). slice_set all request.to a) (stays was) ∙ set_same all request.to old stands)
  | inr up ↦ goes_down old new stands (stops_within m moment left_since request old new up down same_id same_started leaves counts_now (rose_where up cause)) changed
]

-- it found no memory
pub finds_no_memory : {S : Type 0} (m : ShelfMeaning S) (old new : AcceptorView S)
    → old.down ≡ false → new.down ≡ false → new.id ≡ old.id → new.started ≡ old.started → m.contents new.shelf ≡ m.contents old.shelf
    → (m.tells → new.down ≡ false → OnlyLeaves (m.contents new.shelf) (m.may_leave new.shelf))
    → m.faults old.shelf ≤ m.faults new.shelf → FindsNoMemory m old new
finds_no_memory {S} m old new up still same_id same_started kept lasts never_falls = record {
  never_falls = never_falls;
  up = up;
  acceptor = same_but old new old.down same_id same_started (still ∙ sym up);
  kept = kept;
  lasts = λ tells. lasts tells still;
}
