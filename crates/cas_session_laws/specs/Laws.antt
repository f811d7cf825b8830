-- What is true of numbered requests on a key. Each of these is the contract of a function.
use Rattle.std.specs.Prelude.{◌≡◌, ◌≢◌, ℕ, ◌-◌, ◌^◌, ◌<◌, Bool, true, false, List, [], ◌∷◌, ◌++◌, Some, ℤ, ◌⊎◌}
use Rattle.cas_ballot.specs.declared.ballot.Ballot.{Ballot}
use Rattle.cas_change.specs.declared.state.State.{State}
use Rattle.cas_change.specs.declared.state.State.TheVariants.{Empty, Held}
use Rattle.cas_change.specs.Outcome.{outcome_of}
use Rattle.cas_record.specs.declared.answer.Answer.TheVariants as answer
use Rattle.cas_record.specs.declared.entry.Entry.{Entry}
use Rattle.cas_record.specs.declared.mark.Mark.{Mark}
use Rattle.cas_record.specs.Histories.Chain.{settled_of}
use Rattle.cas_record.specs.Histories.Replay.{replay_from, opening_state}
use Rattle.cas_record.specs.Legal.{IsLegal}
use Rattle.cas_session_text.specs.Contents.{SessionContents, StandsFor, reply_of}
use Rattle.cas_session.specs.declared.request.SessionAct.{SessionAct}
use Rattle.cas_session.specs.declared.request.SessionAnswer.{SessionAnswer}
use Rattle.cas_session.specs.declared.request.SessionAnswer.TheVariants.{Done, Stopped}
use Rattle.cas_session.specs.declared.decision.Decision.TheVariants.{Proposes}
use Rattle.cas_session.specs.Calls.{Call}
use Rattle.cas_session.specs.Request.{Request, decided, reply_to}
use Rattle.cas_session.specs.Serving.{ServesRequest, WasServed}
use Rattle.cas_session_laws.specs.History.{IsRequest, IsSessionKey, Acting, AreApart, value_by, HasActed}

-- the history that stands of a session's key tells which requests acted
abbrev pub RequestsAreFound : Type 0
RequestsAreFound = (marks : List Mark) → IsLegal marks → (key : List ℕ) → IsSessionKey key marks
    → (requests : List Request) × Acting (opening_state key marks) (settled_of key marks) requests

-- in any history each request acts at most once, whatever the requests for which its entries were made
abbrev pub EachActsOnce : Type 0
EachActsOnce = (start : State) (history : List Entry) (requests : List Request) → Acting start history requests → AreApart requests

-- the value after a history is that at its start, changed by the requests that acted
abbrev pub ValuesAreFolds : Type 0
ValuesAreFolds = (start : State) (history : List Entry) (requests : List Request) → Acting start history requests
    → (contents : SessionContents) → StandsFor start contents
    → (last : SessionContents) × StandsFor (replay_from start history) last × (value_by requests contents.value ≡ Some last.value)

-- the contents with which the key's history opened have this as what the caller was told last
pub record OpensWith (request : Request) (reply : ℤ) (start : State) : Type 0 where
  pub contents : SessionContents
  pub stands_for : StandsFor start contents
  pub told : reply_of request.caller contents.replies ≡ Some (reply_to request reply)

-- what is known of a request that was answered done
pub record IsDone (request : Request) (reply : ℤ) (fresh : Bool) (key : List ℕ) (marks : List Mark) : Type 0 where
  -- this call made it act
  pub fresh_acted : fresh ≡ true → HasActed request reply (opening_state key marks) (settled_of key marks)
  -- an equal request has acted, by whichever act it was sent then, or the history opened with its reply
  pub acted_or_opened : ((act : SessionAct) × HasActed (record request { act = act }) reply (opening_state key marks) (settled_of key marks))
      ⊎ OpensWith request reply (opening_state key marks)
  -- where no history was there before the first call, it has acted
  pub acted : opening_state key marks ≡ Empty → (act : SessionAct) × HasActed (record request { act = act }) reply (opening_state key marks) (settled_of key marks)

-- a request that was served and answered done has acted, once, and its reply is the value that it left
abbrev pub AnsweredHaveActed : Type 0
AnsweredHaveActed = (request : Request) → IsRequest request → (key : List ℕ) (tries : ℕ) (old new : List Mark) (reply : ℤ) (fresh : Bool)
    → WasServed request key tries old new (Done reply fresh) → IsLegal new → IsSessionKey key new → IsDone request reply fresh key new

-- the version is not the greatest
abbrev pub MayPut : State → Type 0
MayPut Empty = Unit {0}
MayPut (Held version body) = version < 2 ^ 64 - 1

-- the call was done on that state, or found no memory
pub data IsDoneOn (state : State) (call : Call) : Type 0 where
  done_on : {ballot : Ballot} → call.answer ≡ answer.Done (outcome_of call.program state).state (outcome_of call.program state).took ballot → IsDoneOn state call
  no_memory : {proposed : Bool} → call.answer ≡ answer.NoMemory proposed → IsDoneOn state call

-- the request was done by this call, or there was no memory
pub data RequestIsDoneOrNoMemory (left : ℤ) (told : SessionAnswer) : Type 0 where
  was_done : told ≡ Done left true → RequestIsDoneOrNoMemory left told
  has_none : {proposed pending : Bool} → told ≡ Stopped (answer.NoMemory proposed) pending → RequestIsDoneOrNoMemory left told

-- where each call of a request is done on one state, at which the request is next and fits, the request is done or there is no memory
abbrev pub UndisturbedIsDone : Type 0
UndisturbedIsDone = (request : Request) (tries : ℕ) (pending : Bool) (calls : List Call) (told : SessionAnswer) → ServesRequest request tries pending calls told
    → (state : State) (contents : SessionContents) (left : ℤ) → StandsFor state contents → MayPut state → decided request contents ≡ Proposes left
    → ((front back : List Call) (call : Call) → calls ≡ front ++ call ∷ back → IsDoneOn state call)
    → RequestIsDoneOrNoMemory left told
