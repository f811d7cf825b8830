-- What comes of asking an acceptor.
use Rattle.std.specs.Prelude.{◌≡◌, ℕ, true, List, [], ◌∷◌, Option, None, Some, slice_set}
use Rattle.cas_acceptor.specs.Acceptor.{AcceptorView}
use Rattle.cas_flow.specs.declared.message.Message.{Message}
use Rattle.cas_flow.specs.declared.message.Message.TheVariants as message
use Rattle.cas_record.specs.declared.mark.Mark.{Mark}
use Rattle.cas_record.specs.declared.mark.Mark.TheVariants.{Voted}
use Rattle.cas_slot.specs.Contents.{Contents}
use Rattle.cas_slot.specs.Shelf.{Left}
use Rattle.cas_slot.specs.declared.message.Ask.{Ask}
use Rattle.cas_slot.specs.declared.message.Ask.TheVariants as ask
use Rattle.cas_slot.specs.declared.message.Reply.{Reply}
use Rattle.cas_slot.specs.declared.message.Request.{Request}
use Rattle.cas_slot.specs.declared.message.Tell.{Tell}
use Rattle.cas_slot.specs.declared.message.Tell.TheVariants as tell
use Rattle.cas_model.specs.Frames.Acceptors.{AnswersByTable, StopsWithin, FindsNoMemory}
use Rattle.cas_model.specs.Frames.Step.{votes_marked}
use Rattle.cas_model.specs.View.{ShelfMeaning, IsAt}
use Rattle.cas_world.specs.declared.serve.Served.{Served}
use Rattle.cas_world.specs.declared.serve.Served.TheVariants as served

-- ---- votes
-- the key for which a question may get a vote
abbrev pub voted_key : Ask → Option (List ℕ)
voted_key (ask.Accept key ballot era ride state) = Some key
voted_key other = None

-- the vote that a reply gives for the key
abbrev pub vote_by : Option (List ℕ) → Reply → Tell → Option Mark
vote_by (Some key) reply tell.Accepted = Some (Voted reply.from key reply.tag)
vote_by key reply other = None

abbrev pub mark_in : Option Mark → List Mark
mark_in None = []
mark_in (Some mark) = mark ∷ []

-- ---- what the acceptor does
-- it answers by its table, the frame bears its reply, and its vote is the one to be marked
pub record RepliesBy {S : Type 0} (m : ShelfMeaning S) (old : List (AcceptorView S)) (request : Request) (frame : Option Message) (vote : Option Mark) (new : List (AcceptorView S)) : Type 0 where
  pub acceptor : AcceptorView S
  pub after : AcceptorView S
  pub stands : IsAt old request.to acceptor
  pub reply : Reply
  pub table : AnswersByTable m acceptor after request reply
  pub bears : frame ≡ Some (message.Reply reply)
  pub voted : mark_in vote ≡ votes_marked request reply
  pub changed : new ≡ slice_set old request.to after

-- it is down, or goes down
pub data FindsDown {S : Type 0} (m : ShelfMeaning S) (old : List (AcceptorView S)) (request : Request) (new : List (AcceptorView S)) : Type 0 where
  was_down : (acceptor : AcceptorView S) → IsAt old request.to acceptor → acceptor.down ≡ true → new ≡ old → FindsDown m old request new
  goes_down : (acceptor after : AcceptorView S) → IsAt old request.to acceptor → StopsWithin m acceptor after request → new ≡ slice_set old request.to after → FindsDown m old request new

abbrev pub Serves : {S : Type 0} → ShelfMeaning S → List (AcceptorView S) → Request → Served → List (AcceptorView S) → Type 0
Serves m old request (served.Replied frame vote) new = RepliesBy m old request frame vote new
Serves m old request served.Down new = FindsDown m old request new

-- no memory: nothing was asked, or the acceptor that was keeps what it kept
pub data KeepsAll {S : Type 0} (m : ShelfMeaning S) (old new : List (AcceptorView S)) : Type 0 where
  nothing_asked : new ≡ old → KeepsAll m old new
  was_kept : (id : ℕ) (acceptor after : AcceptorView S) → IsAt old id acceptor → FindsNoMemory m acceptor after → new ≡ slice_set old id after → KeepsAll m old new

-- each acceptor stands at the place of its number, and there are 64
pub record AreNumbered {S : Type 0} (acceptors : List (AcceptorView S)) (count : ℕ) : Type 0 where
  pub all : count ≡ 64
  pub each : (id : ℕ) (acceptor : AcceptorView S) → IsAt acceptors id acceptor → acceptor.id ≡ id
