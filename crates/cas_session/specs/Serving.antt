-- How a request is served: which calls are made for it, and what it is answered.
use Rattle.std.specs.Prelude.{◌≡◌, ℕ, suc, Bool, true, false, ◌||◌, if◌then◌else◌, List, [], ◌∷◌, ◌++◌, ℤ}
use Rattle.cas_ballot.specs.declared.ballot.Ballot.{Ballot}
use Rattle.cas_change.specs.declared.program.Clause.{Clause}
use Rattle.cas_change.specs.declared.state.State.{State}
use Rattle.cas_change.specs.declared.outcome.Took.{Took}
use Rattle.cas_change.specs.declared.outcome.Took.TheVariants.{Clause as ByClause}
use Rattle.cas_record.specs.declared.answer.Answer.{Answer}
use Rattle.cas_record.specs.declared.answer.Answer.TheVariants as answer
use Rattle.cas_record.specs.declared.mark.Mark.{Mark}
use Rattle.cas_record.specs.Histories.Chain.{keep_always}
use Rattle.cas_record.specs.Legal.{tells_unsettled}
use Rattle.cas_session.specs.declared.request.SessionAnswer.{SessionAnswer}
use Rattle.cas_session.specs.declared.request.SessionAnswer.TheVariants.{Done, NotSession, Tired, Stopped}
use Rattle.cas_session.specs.declared.decision.Decision.TheVariants.{Answered, Proposes}
use Rattle.cas_session.specs.declared.attempts.Ending.{Ending}
use Rattle.cas_session.specs.declared.attempts.Ending.TheVariants.{Ends, Again}
use Rattle.cas_session_text.specs.Contents.{SessionContents, StandsFor, after_reply}
use Rattle.cas_session.specs.Request.{Request, decided, reply_to, change_to}
use Rattle.cas_session.specs.Calls.{Call, MakesCalls}

-- the calls of an attempt
abbrev pub reads : Answer → Call
reads told = record { program = keep_always; answer = told }

abbrev pub proposes : List Clause → Answer → Call
proposes program told = record { program = program; answer = told }

abbrev pub is_done : Answer → Bool
is_done (answer.Done state took ballot) = true
is_done other = false

-- whether another attempt may follow a call that was answered so and not done
abbrev pub may_follow : Answer → Bool
may_follow (answer.Conflict met) = true
may_follow (answer.Unsettled why) = true
may_follow other = false

-- how an attempt ends by a call that was not done: another may follow, or the request is stopped
abbrev pub ends_by : Answer → Bool → Ending
ends_by told pending = if may_follow told then Again told pending else Ends (Stopped told pending)

-- how an attempt ends by the answer to its change, which was to leave this value
abbrev pub ends_with : ℤ → Answer → Bool → Ending
ends_with left (answer.Done state (ByClause number) ballot) pending = Ends (Done left true)
ends_with left (answer.Done state other ballot) pending = Again (answer.Done state other ballot) pending
ends_with left told pending = ends_by told (pending || tells_unsettled told)

-- the request stops since the serving itself finds no memory
abbrev pub without_memory : Bool → Ending
without_memory pending = Ends (Stopped (answer.NoMemory false) pending)

-- The calls that an attempt makes once it has read this state, and how it ends; pending is whether an earlier change of the request
-- may yet act. Where the request is next, a change of exactly that state is proposed.
pub data AttemptGoesOn (request : Request) (pending : Bool) (state : State) : List Call → Ending → Type 0 where
  finds_no_memory : AttemptGoesOn request pending state [] (without_memory pending)
  finds_no_session : ((contents : SessionContents) → StandsFor state contents → ⊥) → AttemptGoesOn request pending state [] (Ends NotSession)
  finds_answer : (contents : SessionContents) {told : SessionAnswer} → StandsFor state contents → decided request contents ≡ Answered told
      → AttemptGoesOn request pending state [] (Ends told)
  changes : (contents : SessionContents) {left : ℤ} {told : Answer} → StandsFor state contents → decided request contents ≡ Proposes left
      → AttemptGoesOn request pending state (proposes (change_to state (after_reply (reply_to request left) contents)) told ∷ []) (ends_with left told pending)

-- The calls that an attempt makes, and how it ends. It reads the register, and goes on by what it reads.
pub data Attempts (request : Request) (pending : Bool) : List Call → Ending → Type 0 where
  has_no_memory : Attempts request pending [] (without_memory pending)
  reads_nothing : {told : Answer} → is_done told ≡ false → Attempts request pending (reads told ∷ []) (ends_by told pending)
  reads_state : {state : State} {took : Took} {ballot : Ballot} {more : List Call} {ending : Ending} → AttemptGoesOn request pending state more ending
      → Attempts request pending (reads (answer.Done state took ballot) ∷ more) ending

-- The calls that at most so many attempts make, and what the request is answered.
pub data ServesRequest (request : Request) : ℕ → Bool → List Call → SessionAnswer → Type 0 where
  is_answered : {tries : ℕ} {pending : Bool} {calls : List Call} {told : SessionAnswer} → Attempts request pending calls (Ends told) → ServesRequest request (suc tries) pending calls told
  is_tired : {pending then_pending : Bool} {calls : List Call} {last : Answer} → Attempts request pending calls (Again last then_pending) → ServesRequest request 1 pending calls (Tired last)
  tries_again : {tries : ℕ} {pending then_pending : Bool} {calls more : List Call} {last : Answer} {told : SessionAnswer} → Attempts request pending calls (Again last then_pending)
      → ServesRequest request (suc tries) then_pending more told → ServesRequest request (suc (suc tries)) pending (calls ++ more) told

-- what was done for the request: these calls, for which it is answered so
pub record WasServed (request : Request) (key : List ℕ) (tries : ℕ) (old new : List Mark) (told : SessionAnswer) : Type 0 where
  pub calls : List Call
  pub made : MakesCalls request.caller key old calls new
  pub served : ServesRequest request tries false calls told

-- the same of one attempt, and of what follows its read
pub record WasTried (request : Request) (key : List ℕ) (pending : Bool) (old new : List Mark) (ending : Ending) : Type 0 where
  pub calls : List Call
  pub made : MakesCalls request.caller key old calls new
  pub tried : Attempts request pending calls ending

pub record HasGoneOn (request : Request) (key : List ℕ) (pending : Bool) (state : State) (old new : List Mark) (ending : Ending) : Type 0 where
  pub calls : List Call
  pub made : MakesCalls request.caller key old calls new
  pub goes_on : AttemptGoesOn request pending state calls ending
