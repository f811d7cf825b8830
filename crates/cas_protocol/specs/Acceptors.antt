-- That an acceptor is as the log tells, and what it adds to the log when it answers.
use Rattle.std.specs.Prelude.{◌≡◌, ◌⊎◌, ⊤, ℕ, ◌≤◌, true, List, [], ◌∷◌, ◌++◌, Option, None, Some, Ok, unwrap_or, is_some, if◌then◌else◌}
use Rattle.cas_ballot.specs.declared.ballot.Ballot.{Ballot}
use Rattle.cas_ballot.specs.Ballot.{zero_ballot, BallotLess}
use Rattle.cas_change.specs.declared.state.State.{State}
use Rattle.cas_change.specs.declared.state.State.TheVariants.{Empty}
use Rattle.cas_slot.specs.declared.message.Ask.{Ask}
use Rattle.cas_slot.specs.declared.message.Ask.TheVariants as ask
use Rattle.cas_slot.specs.declared.message.Request.{Request}
use Rattle.cas_slot.specs.declared.message.Reply.{Reply}
use Rattle.cas_slot.specs.declared.message.Tell.{Tell}
use Rattle.cas_slot.specs.declared.message.Tell.TheVariants as tell
use Rattle.cas_slot.specs.declared.slot.Accepted.{Accepted}
use Rattle.cas_slot.specs.declared.slot.Slot.{Slot}
use Rattle.cas_slot.specs.Ages.{least_age}
use Rattle.cas_slot.specs.Contents.{Contents, kept_at}
use Rattle.cas_slot.specs.Rules.{is_accepted_at}
use Rattle.cas_slot.specs.Shelf.{Left}
use Rattle.cas_slot.specs.Slot.{promise_of, accepted_of, accepted_ballot}
use Rattle.cas_slot.specs.Table.{Handles, accepted_at}
use Rattle.cas_record.specs.declared.mark.Mark.{Mark}
use Rattle.cas_record.specs.declared.mark.Mark.TheVariants.{Proposed, Voted}
use Rattle.cas_record.specs.declared.mark.Proposal.{Proposal}
use Rattle.cas_record.specs.Histories.Chain.{has_opening, chain_of}
use Rattle.cas_record.specs.Logs.Happening.{Happening, Marked, Promised, Took, Dropped, Raised, Replied, marks_of}
use Rattle.cas_record.specs.Logs.Lawful.{SlotTold, slot_told}
use Rattle.cas_record.specs.Logs.Orderly.{WasAsked, age_told}
use Rattle.cas_record.specs.Places.{Stands}
use Rattle.cas_record.specs.Histories.Replay.{replay_from, opening_state}

-- ---- states
-- the key's ballot was proposed in the era, and its history leaves this state
pub record IsMadeState (marks : List Mark) (key : List ℕ) (ballot : Ballot) (era : ℕ) (state : State) : Type 0 where
  pub proposal : Proposal
  pub stands : Stands (Proposed proposal) marks
  pub same_key : proposal.key ≡ key
  pub same_ballot : proposal.ballot ≡ ballot
  pub same_era : proposal.era ≡ era
  pub state_is : state ≡ replay_from (opening_state key marks) (chain_of key ballot marks)

-- the key's history opened with a floor at the ballot, and this is its state; it counts as of era 0
pub record IsOpeningState (marks : List Mark) (key : List ℕ) (ballot : Ballot) (era : ℕ) (state : State) : Type 0 where
  pub opens : has_opening key ballot marks ≡ true
  pub some : BallotLess zero_ballot ballot
  pub same_era : era ≡ 0
  pub state_is : state ≡ opening_state key marks

-- what was accepted for the key is the state of a proposal, or of the floor with which the key's history opened
abbrev pub IsAcceptedState : List Mark → List ℕ → Option Accepted → Type 0
IsAcceptedState marks key None = ⊤
IsAcceptedState marks key (Some accepted) = IsMadeState marks key accepted.ballot accepted.era accepted.state ⊎ IsOpeningState marks key accepted.ballot accepted.era accepted.state

-- the key's ballot was proposed, and its history leaves the empty state
abbrev pub IsEmptyAt : List Mark → List ℕ → Ballot → Type 0
IsEmptyAt marks key ballot = (era : ℕ) × IsMadeState marks key ballot era Empty

-- a request to accept bears the state of a proposal, and one to remove a slot names a ballot whose state is empty
abbrev pub IsAskState : List Mark → Ask → Type 0
IsAskState marks (ask.Accept key ballot era ride state) = IsMadeState marks key ballot era state
IsAskState marks (ask.Remove key tomb) = IsEmptyAt marks key tomb
IsAskState marks other = ⊤

-- what is told of a state is the state of a proposal
abbrev pub IsTellState : List Mark → Ask → Tell → Type 0
IsTellState marks (ask.Prepare key ballot) (tell.Promised accepted) = IsAcceptedState marks key accepted
IsTellState marks (ask.Probe tag key) (tell.Probed promise accepted) = IsAcceptedState marks key accepted
IsTellState marks question answer = ⊤

-- ---- what an acceptor keeps
-- what a slot tells: its promise and the ballot that it accepted; zero where it is not there
abbrev pub told_of : Option Slot → SlotTold
told_of slot = record { promise = promise_of slot; accepted = accepted_ballot (accepted_of slot) }

-- the log tells each slot that the acceptor keeps, and no least age above the one that it keeps; and what a slot accepted is the state
-- of a proposal or of an opening floor
pub record LogTells (log : List Happening) (id : ℕ) (kept : Contents) : Type 0 where
  pub slots : (key : List ℕ) → slot_told log id key ≡ told_of (kept_at kept key)
  pub ages : (proposer : ℕ) → proposer ≤ 16 → age_told log id proposer ≤ least_age kept.ages proposer
  pub states : (key : List ℕ) → IsAcceptedState (marks_of log) key (accepted_of (kept_at kept key))

-- a request that the acceptor was asked, and may have been answered so when it stopped
pub record IsHalfDone (log : List Happening) (id : ℕ) (kept new : Contents) : Type 0 where
  pub request : Request
  pub answer : Tell
  pub was_asked : WasAsked log id request
  pub known : request.from ≤ 16
  pub state : IsAskState (marks_of log) request.ask
  pub row : Handles kept request answer new

-- a crash leaves what is kept, or what the answer to a request that the acceptor was asked would make of it
abbrev pub IsLeft : List Happening → ℕ → Contents → Left → Type 0
IsLeft log id kept left = (left ≡ Ok kept) ⊎ ((new : Contents) × IsHalfDone log id kept new × (left ≡ Ok new))

-- ---- what happens elsewhere
-- the happening is no deed of this acceptor
abbrev pub IsElsewhere : ℕ → Happening → Type 0
IsElsewhere id (Promised acceptor key ballot told) = acceptor ≡ id → ⊥
IsElsewhere id (Took acceptor key ballot ride) = acceptor ≡ id → ⊥
IsElsewhere id (Dropped acceptor key tombstone) = acceptor ≡ id → ⊥
IsElsewhere id (Raised acceptor least) = acceptor ≡ id → ⊥
IsElsewhere id other = ⊤

-- ---- what an answer adds to the log
-- what the acceptor does: it promises, takes, raises its least ages, removes a slot, or none of these
abbrev pub events_of : ℕ → Contents → Ask → Tell → List Happening
events_of id kept (ask.Prepare key ballot) (tell.Promised accepted) = Promised id key ballot (accepted_ballot accepted) ∷ []
events_of id kept (ask.Accept key ballot era ride state) tell.Accepted =
    if is_accepted_at (accepted_at kept key) ballot then [] else Took id key ballot (unwrap_or ride zero_ballot) ∷ []
events_of id kept (ask.Ages tag least) tell.AgesSet = Raised id least ∷ []
events_of id kept (ask.Remove key tomb) tell.Removed = if is_some (kept_at kept key) then Dropped id key tomb ∷ [] else []
events_of id kept question answer = []

-- the mark of a vote, for an accept that is confirmed
abbrev pub votes_of : ℕ → Ask → Tell → List Happening
votes_of id (ask.Accept key ballot era ride state) tell.Accepted = Marked (Voted id key ballot) ∷ []
votes_of id question answer = []

-- the log once the acceptor did it, and once it also voted and answered
abbrev pub done_log : ℕ → Contents → Request → Tell → List Happening → List Happening
done_log id kept request answer log = events_of id kept request.ask answer ++ log

abbrev pub answered_log : ℕ → Contents → Request → Reply → List Happening → List Happening
answered_log id kept request reply log = Replied request reply ∷ (votes_of id request.ask reply.tell ++ done_log id kept request reply.tell log)
