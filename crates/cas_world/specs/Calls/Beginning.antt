-- A call, or another round of it, begins.
pub use Rattle.cas_record.specs.Answers.{is_refusal}
use Rattle.std.specs.Prelude.{◌≡◌, ◌⊎◌, ℕ, ◌+◌, ◌-◌, ◌^◌, true, false, List, [], ◌∷◌, ◌++◌, take, drop, sum_by, Option, Some, None, IsSome, option_map, Result, Ok, Err}
use Rattle.cas_ballot.specs.declared.ballot.Ballot.{Ballot}
use Rattle.cas_cache.specs.declared.ready.Ready.{Ready}
use Rattle.cas_change.specs.declared.program.Clause.{Clause}
use Rattle.cas_change.specs.Outcome.{outcome_of}
use Rattle.cas_flow.specs.Flow.{FlowView}
use Rattle.cas_proposer.specs.Desk.{DeskView}
use Rattle.cas_proposer.specs.declared.round.Round.{Round}
use Rattle.cas_quorum.specs.declared.era.Era.{Era}
use Rattle.cas_cache.specs.Entries.{promise_at, without}
use Rattle.cas_vault.specs.Vault.{counter_of, kept_of}
use Rattle.cas_record.specs.declared.answer.Answer.{Answer}
use Rattle.cas_record.specs.declared.answer.Answer.TheVariants as answer
use Rattle.cas_model.specs.Council.{Council}
use Rattle.cas_model.specs.Calls.Step.{Sends, prepares_to, accepts_to, WasMet, Rescans}
use Rattle.cas_model.specs.Calls.Desks.{BeginsToPrepare, BeginsByPromise, HasKept, FailsToDraw, LosesMemory}
use Rattle.cas_model.specs.Step.{Step, Begin, RefuseBegin}
use Rattle.cas_model.specs.View.{Meaning, DiskMeaning, View, CallView, CallerView, IsAt}
use Rattle.cas_record.specs.declared.mark.Mark.{Mark}
use Rattle.cas_record.specs.declared.mark.Mark.TheVariants.{Begun}
use Rattle.cas_world_calls.specs.Call.{again, over, with_proposal, reserved_of}
use Rattle.cas_world.specs.declared.begin.Opening.{Opening}
use Rattle.cas_world_calls.specs.declared.call.Caller.{Caller}
use Rattle.cas_world_calls.specs.declared.call.OpenCall.{OpenCall}
use Rattle.cas_world_calls.specs.declared.proposal.Author.{Author}
use Rattle.cas_world_calls.specs.declared.proposal.Proposing.{Proposing}
use Rattle.cas_world_calls.specs.Proposing.{proposing_of}
use Rattle.cas_world.specs.World.{WasTold}

-- what a new call keeps, and the mark of its beginning
abbrev pub opening_of : Author → List ℕ → List Clause → Opening
opening_of author key program = record { key = key; program = program; mark = Begun author.caller author.call key program }

-- an open call tries once more and is told why its round did not begin; another is not opened
abbrev pub refused : Caller → Answer → Caller
refused caller refusal = record caller { call = option_map (λ call. over (again call 1) refusal) caller.call }

-- a round begins at a ballot that is drawn, and each member that prepares is asked to promise it
pub record Prepares {V : Type 0} (m : DiskMeaning V) (era : Era) (key : List ℕ) (caller : ℕ) (old new : DeskView V) (before after : FlowView) : Type 0 where
  pub up : old.down ≡ false
  pub ballot : Ballot
  pub round : Round
  pub begins : BeginsToPrepare m era key old new ballot round
  pub sends : Sends before caller (prepares_to caller (kept_of old.vault).age key ballot era.prep) after

-- a round begins by a promise, and proposes at once what the program makes of the promised state
pub record ProposesBy {V : Type 0} (m : DiskMeaning V) (era : Era) (key : List ℕ) (program : List Clause) (author : Author) (old new : DeskView V) (before after : FlowView) (proposing : Proposing) : Type 0 where
  pub up : old.down ≡ false
  pub ready : Ready
  pub ride : Option Ballot
  pub round : Round
  pub begins : BeginsByPromise m era key old new ready ride round
  pub made : proposing ≡ proposing_of author key era.number program ready
  pub sends : Sends before author.caller (accepts_to author.caller (kept_of old.vault).age key ready.ballot era.number ride (outcome_of program ready.state).state era.acc) after

abbrev pub OpensRound : {V : Type 0} → DiskMeaning V → Era → List ℕ → List Clause → Author → DeskView V → DeskView V → FlowView → FlowView → Option Proposing → Type 0
OpensRound m era key program author old new before after None = Prepares m era key author.caller old new before after
OpensRound m era key program author old new before after (Some proposing) = ProposesBy m era key program author old new before after proposing

-- why no round begins, and what becomes of the desk
abbrev pub FailsToOpen : {V : Type 0} → DiskMeaning V → List ℕ → DeskView V → DeskView V → Answer → Type 0
FailsToOpen m key old new answer.Down = (old.down ≡ true) × (new ≡ old)
FailsToOpen m key old new answer.Spent = (old.down ≡ false) × (promise_at key old.cache ≡ None) × (counter_of old.vault ≡ 2 ^ 48) × HasKept m old.vault new.vault × (new ≡ record old { vault = new.vault })
FailsToOpen m key old new answer.VaultFault = (old.down ≡ false) × FailsToDraw m (without key old.cache) old new
FailsToOpen m key old new (answer.NoMemory proposed) = (proposed ≡ false) × (old.down ≡ false) × (ballot : Option Ballot) × LosesMemory m key old new ballot
FailsToOpen m key old new other = ⊥

-- how many marks are reserved for the calls of the other callers
abbrev pub reserved_beside : List Caller → ℕ → ℕ
reserved_beside callers place = sum_by reserved_of (take place callers) + sum_by reserved_of (drop (place + 1) callers)

-- a caller's open call, as it was opened with so many marks, of which that of its beginning is made
abbrev pub call_opened : Opening → ℕ → OpenCall
call_opened opening marks =
    record { key = opening.key; program = opening.program; rounds = 1; reserved = marks - 1; proposed = None; copies = None; harmed = []; told = None; is_closed = false }

-- ---- what becomes of the caller and of the record
-- a new call is opened, with its mark, or the open one tries once more
abbrev pub entered : Caller → Option Opening → ℕ → Caller
entered caller (Some opening) marks = record { number = caller.number + 1; call = Some (call_opened opening marks) }
entered caller None marks = record caller { call = option_map (λ call. again call marks) caller.call }

abbrev pub entry_marks : Option Opening → List Mark
entry_marks (Some opening) = opening.mark ∷ []
entry_marks None = []

-- the open call proposes, or is told how its round ended
abbrev pub proposes_now : Caller → Proposing → Caller
proposes_now caller proposing = record caller { call = option_map (λ call. with_proposal call proposing) caller.call }

abbrev pub told_now : Caller → Answer → Caller
told_now caller told = record caller { call = option_map (λ call. over call told) caller.call }

-- by how the round began, or why it did not: for want of memory a new call is not opened
abbrev pub settled : Caller → Option Opening → ℕ → Result (Option Proposing) Answer → Caller
settled caller opening marks (Ok None) = entered caller opening marks
settled caller opening marks (Ok (Some proposing)) = proposes_now (entered caller opening marks) proposing
settled caller opening marks (Err (answer.NoMemory proposed)) = refused caller (answer.NoMemory proposed)
settled caller opening marks (Err told) = told_now (entered caller opening marks) told

abbrev pub settled_marks : Option Opening → Result (Option Proposing) Answer → List Mark
settled_marks opening (Ok None) = entry_marks opening
settled_marks opening (Ok (Some proposing)) = entry_marks opening ++ proposing.mark ∷ []
settled_marks opening (Err (answer.NoMemory proposed)) = []
settled_marks opening (Err told) = entry_marks opening

-- ---- what the operator's call is told of it
-- A new call is refused: where it would have proposed anew the key that is due, the operator's call is told so.
abbrev pub Heeds : Option OpenCall → Council → ℕ → List ℕ → Answer → Council → Type 0
Heeds None old id key told new = Rescans old id key told new
Heeds (Some call) old id key told new = new ≡ old

-- so it is where no memory is found for its round
abbrev pub HeedsLoss : Option OpenCall → Council → ℕ → List ℕ → Result (Option Proposing) Answer → Council → Type 0
HeedsLoss call old id key (Err (answer.NoMemory proposed)) new = Heeds call old id key (answer.NoMemory proposed) new
HeedsLoss call old id key other new = new ≡ old

-- ---- the whole
-- a new call may begin with the next number, and another round of the open one where the last one ended with a conflict
pub data MayBegin {S V : Type 0} (view : View S V) (id number : ℕ) (key : List ℕ) (program : List Clause) : Type 0 where
  first : (caller : CallerView) → IsAt view.callers id caller → caller.call ≡ None → number ≡ caller.number + 1 → MayBegin view id number key program
  another : (caller : CallerView) (call : CallView) → IsAt view.callers id caller → caller.call ≡ Some call → number ≡ caller.number → call.key ≡ key → call.program ≡ program → call.proposed ≡ None → WasMet call.told
      → ((desk : DeskView V) → IsAt view.desks id desk → desk.round ≡ None) → MayBegin view id number key program

-- the caller's call of that number is open, and so is its round
pub record HasRound {S V : Type 0} (view : View S V) (id number : ℕ) : Type 0 where
  pub caller : CallerView
  pub at_caller : IsAt view.callers id caller
  pub same_number : caller.number ≡ number
  pub call : CallView
  pub is_call : caller.call ≡ Some call
  pub desk : DeskView V
  pub at_desk : IsAt view.desks id desk
  pub is_open : IsSome desk.round

-- no call of the caller is open
pub record HasNoCall {S V : Type 0} (view : View S V) (id : ℕ) : Type 0 where
  pub caller : CallerView
  pub at_caller : IsAt view.callers id caller
  pub none_open : caller.call ≡ None

-- the call begins or goes on, and its round is open or its caller is told why not; or a new call is not begun, and where it would have
-- proposed anew the key that is due the operator's call is told the same
abbrev pub BeginsOrNot : {S V A : Type 0} → Meaning S V → View S V → ℕ → ℕ → List ℕ → List Clause → Result A Answer → View S V → Type 0
BeginsOrNot m old id number key program (Ok done) new = Step m old (Begin id key program) new × HasRound new id number
BeginsOrNot m old id number key program (Err told) new = (Step m old (Begin id key program) new × WasTold new id number told × (HasNoCall old id → is_refusal told ≡ false))
    ⊎ (Step m old (RefuseBegin id key) new × HasNoCall old id × ((told ≡ answer.RecordFull) ⊎ (told ≡ answer.NoMemory false)) × Rescans old.council id key told new.council)
