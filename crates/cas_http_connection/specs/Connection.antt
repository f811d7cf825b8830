-- What a connection answers, and how it ends.
use Rattle.std.specs.Prelude.{◌≡◌, ◌≢◌, ℕ, ◌<◌, Bool, true, false, List, [], ◌∷◌, ◌++◌, length, take, Option, Some, None, Result, Ok, Err}
use Rattle.std.specs.Io.KnownBytes.{Appends, Consumes, IsAtEnd}
use Rattle.cas_change.specs.declared.program.Clause.{Clause}
use Rattle.cas_record.specs.declared.answer.Answer.{Answer}
use Rattle.cas_lines.specs.Sink.{AppendsFront}
use Rattle.cas_lines.specs.Source.{Taken, End, Fault}
use Rattle.cas_http.specs.declared.code.Code.{Code}
use Rattle.cas_http.specs.declared.request.Request.{Request}
use Rattle.cas_http.specs.declared.request.Request.TheVariants as request
use Rattle.cas_http.specs.declared.request.Spelled.{Spelled}
use Rattle.cas_http.specs.Answers.{answer_text_of}
use Rattle.cas_http.specs.Outcomes.{reply_text}
use Rattle.cas_http.specs.Requests.{BeginsWith}
use Rattle.cas_http_connection.specs.declared.fault.ConnectionFault.{ConnectionFault}
use Rattle.cas_http_connection.specs.declared.fault.ConnectionFault.TheVariants as fault
use Rattle.cas_http_connection.specs.Input.{is_last, SpellsRequests, IsOpen, Gave, Stops}

-- ---- answers
-- One request is answered by these bytes, with a changer before and behind it. A refusal asks it nothing, and is told by its code. A change is
-- asked of it once, and what it gave is told.
pub data AnswersRequest {C : Type 0} (changes : C → List ℕ → List Clause → Answer → C → Type 0) (last : Bool) : Request → C → List ℕ → C → Type 0 where
  answers_refused : {code : Code} {changer : C} → AnswersRequest changes last (request.Refused code) changer (answer_text_of code [] last) changer
  answers_change : {key : List ℕ} {program : List Clause} {told : Answer} {old new : C} → changes old key program told new → AnswersRequest changes last (request.Change key program) old (reply_text told last) new

-- the requests are answered one behind another by these bytes, and nothing else was asked of the changer
pub data Answers {C : Type 0} (changes : C → List ℕ → List Clause → Answer → C → Type 0) (old : C) : List Spelled → List ℕ → C → Type 0 where
  answers_none : Answers changes old [] [] old
  answers_one_more : {requests : List Spelled} {text reply : List ℕ} {mid new : C} (asked : Spelled) → Answers changes old requests text mid → AnswersRequest changes (is_last (length requests) asked) asked.request mid reply new
      → Answers changes old (requests ++ asked ∷ []) (text ++ reply) new

-- what of an answer was put into a sink: all, or a front that is not all; or nothing, where there was no memory for it
abbrev pub Puts : Result (Unit {0}) ConnectionFault → Option (List ℕ) → Option (List ℕ) → List ℕ → Type 0
Puts (Ok done) old new reply = Appends old new reply
Puts (Err fault.WriteFault) old new reply = AppendsFront old new reply
Puts (Err fault.NoMemory) old new reply = new ≡ old
Puts (Err other) old new reply = ⊥

-- ---- ends
-- How a connection ends behind so many requests that were answered, and so many bytes. These bytes are left then. Behind the answers a front of one
-- more may be written, whose change was asked of the changer.
pub data Ends {C : Type 0} (changes : C → List ℕ → List Clause → Answer → C → Type 0) (before size : ℕ) (rest : List ℕ) : Result (Unit {0}) ConnectionFault → Bool → Option Taken → List ℕ → C → C → Type 0 where
  -- the last answer closes, and the source was asked for nothing then
  closes : {changer : C} → Ends changes before size rest (Ok tt) true None [] changer changer
  -- the input ended between requests
  input_ends : {changer : C} → rest ≡ [] → BeginsWith rest None → Ends changes before size rest (Ok tt) false (Some End) [] changer changer
  -- it ended behind a byte that begins no whole request
  is_cut : {changer : C} {at : ℕ} → rest ≢ [] → BeginsWith rest None → at ≡ size → Ends changes before size rest (Err (fault.Cut at)) false (Some End) [] changer changer
  -- the source failed while no whole request was there
  reading_fails : {changer : C} → BeginsWith rest None → Ends changes before size rest (Err fault.ReadFault) false (Some Fault) [] changer changer
  -- the answer to the next request was not written whole
  writing_fails : {old new : C} {asked : Spelled} {reply : List ℕ} {count : ℕ} → BeginsWith rest (Some asked) → AnswersRequest changes (is_last before asked) asked.request old reply new → count < length reply
      → Ends changes before size rest (Err fault.WriteFault) false None (take count reply) old new
  -- there was no memory for the next request, or for its answer
  no_memory_to_read : {changer : C} → Ends changes before size rest (Err fault.NoMemory) false None [] changer changer
  no_memory_to_answer : {old new : C} {asked : Spelled} {reply : List ℕ} → BeginsWith rest (Some asked) → AnswersRequest changes (is_last before asked) asked.request old reply new
      → Ends changes before size rest (Err fault.NoMemory) false None [] old new

-- ---- whole connections
-- a source, what it has left where it tells, a changer, and what a sink holds where it tells
pub record Parts (S C : Type 0) : Type 0 where
  pub source : S
  pub left : Option (List ℕ)
  pub changer : C
  pub written : Option (List ℕ)

-- What a connection comes to. The source gave bytes, and these spell requests. What was written are the answers to them, one behind another.
pub record Serves {S C : Type 0} (gives : S → Taken → S → Type 0) (changes : C → List ℕ → List Clause → Answer → C → Type 0) (result : Result (Unit {0}) ConnectionFault) (old new : Parts S C) : Type 0 where
  -- what the source gave, which was asked only while it was open what comes next, and what stopped it
  pub bytes : List ℕ
  pub mid : S
  pub gave : Gave gives IsOpen old.source bytes mid
  pub stop : Option Taken
  pub stops : Stops gives mid stop new.source
  pub taken : Consumes old.left new.left bytes
  pub at_end : stop ≡ Some End → IsAtEnd new.left
  -- the requests, whose answers were written whole
  pub requests : List Spelled
  pub closed : Bool
  pub rest : List ℕ
  pub spells : SpellsRequests bytes requests closed rest
  pub text : List ℕ
  pub changer : C
  pub answers : Answers changes old.changer requests text changer
  -- and how it ended
  pub front : List ℕ
  pub ends : Ends changes (length requests) (length bytes) rest result closed stop front changer new.changer
  pub written : Appends old.written new.written (text ++ front)
