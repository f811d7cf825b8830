-- Numbered requests in the history of a register. Histories are read oldest first, marks newest first.
use Rattle.std.specs.Prelude.{◌≡◌, ℕ, ◌^◌, ◌<◌, ◌≤◌, ⊤, List, [], ◌∷◌, ◌++◌, Option, Some, None, ℤ, FitsSigned}
use Rattle.std.specs.Int.{w64}
use Rattle.std.specs.List.{AllByRecursion}
use Rattle.std.specs.Option.{option_and_then}
use Rattle.cas_change.specs.declared.program.Clause.{Clause}
use Rattle.cas_change.specs.declared.state.State.{State}
use Rattle.cas_change.specs.declared.outcome.Took.TheVariants.{Clause as ByClause}
use Rattle.cas_change.specs.Outcome.{outcome_of}
use Rattle.cas_record.specs.declared.entry.Entry.{Entry}
use Rattle.cas_record.specs.declared.mark.Mark.{Mark}
use Rattle.cas_record.specs.declared.mark.Mark.TheVariants.{Begun}
use Rattle.cas_record.specs.Places.{Stands}
use Rattle.cas_record.specs.Histories.Chain.{keep_always}
use Rattle.cas_record.specs.Histories.Replay.{replay_from}
use Rattle.cas_session_text.specs.Contents.{SessionContents, IsCaller, StandsFor, after_reply}
use Rattle.cas_session.specs.declared.request.SessionAct.{SessionAct}
use Rattle.cas_session.specs.declared.request.SessionAct.TheVariants.{Add, Put}
use Rattle.cas_session.specs.declared.decision.Decision.TheVariants.{Proposes}
use Rattle.cas_session.specs.Request.{Request, value_after, decided, reply_to, change_to}

abbrev pub number_in : SessionAct → ℤ
number_in (Add number) = number
number_in (Put number) = number

-- a request that a caller can make
pub record IsRequest (request : Request) : Type 0 where
  pub caller : IsCaller request.caller
  pub numbered : 1 ≤ request.number
  pub number_fits : request.number < 2 ^ 64
  pub act_fits : FitsSigned w64 (number_in request.act)

-- the program changes this state, which stands for these contents, for the request, which is next and leaves this value
pub record IsChangeFor (request : Request) (state : State) (contents : SessionContents) (left : ℤ) (program : List Clause) : Type 0 where
  pub lawful : IsRequest request
  pub stands_for : StandsFor state contents
  pub next : decided request contents ≡ Proposes left
  pub change : program ≡ change_to state (after_reply (reply_to request left) contents)

-- the entry keeps the state, or changes some state for a request of its caller
pub data IsOfSession (entry : Entry) : Type 0 where
  keeps : entry.program ≡ keep_always → IsOfSession entry
  changes : {request : Request} {state : State} {contents : SessionContents} {left : ℤ} → request.caller ≡ entry.caller
      → IsChangeFor request state contents left entry.program → IsOfSession entry

-- each call that was begun for the key keeps it, or changes it for a request of its caller
abbrev pub IsSessionKey : List ℕ → List Mark → Type 0
IsSessionKey key marks = (caller call : ℕ) (program : List Clause) → Stands (Begun caller call key program) marks
    → IsOfSession (record { caller = caller; call = call; program = program })

-- the entry acts on this state for the request, and leaves this value
pub record ActsFor (request : Request) (state : State) (left : ℤ) (entry : Entry) : Type 0 where
  pub same_caller : request.caller ≡ entry.caller
  pub contents : SessionContents
  pub change : IsChangeFor request state contents left entry.program
  pub took : (outcome_of entry.program state).took ≡ ByClause 0

-- the requests that act in a history from that state on, in their order; all other entries leave the state as it is
pub data Acting : State → List Entry → List Request → Type 0 where
  none : {state : State} → Acting state [] []
  stays : {state : State} {entry : Entry} {later : List Entry} {requests : List Request} → (outcome_of entry.program state).state ≡ state
      → Acting state later requests → Acting state (entry ∷ later) requests
  acts : {state : State} {entry : Entry} {later : List Entry} {request : Request} {left : ℤ} {requests : List Request} → ActsFor request state left entry
      → Acting (outcome_of entry.program state).state later requests → Acting state (entry ∷ later) (request ∷ requests)

-- whether two requests have one caller and one number
abbrev pub IsSameRequest : Request → Request → Type 0
IsSameRequest a b = (a.caller ≡ b.caller) × (a.number ≡ b.number)

-- no request comes twice
abbrev pub AreApart : List Request → Type 0
AreApart [] = ⊤
AreApart (request ∷ requests) = AllByRecursion (λ later. IsSameRequest request later → ⊥) requests × AreApart requests

-- the value after the acts of the requests, in their order; none where one of them does not fit
abbrev pub value_by : List Request → ℤ → Option ℤ
value_by [] value = Some value
value_by (request ∷ requests) value = option_and_then (value_by requests) (value_after request.act value)

-- in this history the request has acted, and left this value
pub record HasActed (request : Request) (left : ℤ) (start : State) (history : List Entry) : Type 0 where
  pub before : List Entry
  pub entry : Entry
  pub after : List Entry
  pub place : history ≡ before ++ entry ∷ after
  pub acted : ActsFor request (replay_from start before) left entry
