-- What a legal record is. The marks are read newest first.
use Rattle.std.specs.Prelude.{◌≡◌, ℕ, suc, ◌-◌, ◌≤◌, Bool, true, false, not, ◌==◌, if◌then◌else◌, List, [], ◌∷◌, ◌++◌, length, ◌⊎◌}
use Rattle.cas_ballot.specs.declared.ballot.Ballot.{Ballot}
use Rattle.cas_ballot.specs.Members.{has_member}
use Rattle.cas_change.specs.declared.program.Clause.{Clause}
use Rattle.cas_change.specs.declared.state.State.{State}
use Rattle.cas_change.specs.declared.state.State.TheVariants.{Empty}
use Rattle.cas_change.specs.declared.outcome.Took.{Took}
use Rattle.cas_change.specs.Outcome.{outcome_of}
use Rattle.cas_record.specs.declared.answer.Answer.{Answer}
use Rattle.cas_record.specs.declared.answer.Answer.TheVariants as answer
use Rattle.cas_record.specs.declared.answer.Cause.TheVariants as cause
use Rattle.cas_record.specs.declared.entry.Entry.{Entry}
use Rattle.cas_record.specs.declared.mark.Mark.{Mark}
use Rattle.cas_record.specs.declared.mark.Mark.TheVariants.{Begun, Proposed, Voted, Acked, Floor, Ended, Harmed}
use Rattle.cas_record.specs.declared.mark.Proposal.{Proposal}
use Rattle.cas_record.specs.declared.mark.Acknowledgment.{Acknowledgment}
use Rattle.cas_record.specs.Places.{At, Stands, IsOlderPart, IsPrefix}
use Rattle.cas_record.specs.Histories.Chain.{is_call, settled_of}
use Rattle.cas_record.specs.Histories.Replay.{replay_from, opening_state}

-- ---- calls
-- how many calls the caller began
abbrev pub calls_of : ℕ → List Mark → ℕ
calls_of caller [] = 0
calls_of caller (Begun c call key program ∷ older) = if c == caller then suc (calls_of caller older) else calls_of caller older
calls_of caller (mark ∷ older) = calls_of caller older

-- the call was begun, for the key
pub record IsBegun (caller call : ℕ) (key : List ℕ) (marks : List Mark) : Type 0 where
  pub program : List Clause
  pub stands : Stands (Begun caller call key program) marks

-- the call was proposed
pub record IsProposed (caller call : ℕ) (marks : List Mark) : Type 0 where
  pub proposal : Proposal
  pub stands : Stands (Proposed proposal) marks
  pub same_caller : proposal.caller ≡ caller
  pub same_call : proposal.call ≡ call

-- the call was answered
pub record IsEnded (caller call : ℕ) (marks : List Mark) : Type 0 where
  pub rounds : ℕ
  pub answer : Answer
  pub stands : Stands (Ended caller call rounds answer) marks

-- the key has a proposal at the ballot
pub record HasProposal (key : List ℕ) (ballot : Ballot) (marks : List Mark) : Type 0 where
  pub proposal : Proposal
  pub stands : Stands (Proposed proposal) marks
  pub same_key : proposal.key ≡ key
  pub same_ballot : proposal.ballot ≡ ballot

-- the key has a floor at the ballot
pub record HasFloor (key : List ℕ) (ballot : Ballot) (marks : List Mark) : Type 0 where
  pub state : State
  pub stands : Stands (Floor key ballot state) marks

-- a call may be proposed once, after it began and before it is answered, at a ballot that is new for its key
pub record IsFirstProposal (p : Proposal) (older : List Mark) : Type 0 where
  pub begun : IsBegun p.caller p.call p.key older
  pub once : IsProposed p.caller p.call older → ⊥
  pub open_yet : IsEnded p.caller p.call older → ⊥
  pub fresh : HasProposal p.key p.ballot older → ⊥

-- a call may be answered once, after it began
pub record IsFirstEnd (caller call : ℕ) (older : List Mark) : Type 0 where
  pub key : List ℕ
  pub begun : IsBegun caller call key older
  pub once : IsEnded caller call older → ⊥

-- the calls of each caller are numbered from 1 on as they begin; each is proposed once and answered once, in this
-- order; and no two proposals of a key have one ballot
pub record IsNumbered (marks : List Mark) : Type 0 where
  pub begun : {caller call : ℕ} {key : List ℕ} {program : List Clause} {older : List Mark} → At (Begun caller call key program) older marks → call ≡ suc (calls_of caller older)
  pub proposed : {p : Proposal} {older : List Mark} → At (Proposed p) older marks → IsFirstProposal p older
  pub ended : {caller call rounds : ℕ} {answer : Answer} {older : List Mark} → At (Ended caller call rounds answer) older marks → IsFirstEnd caller call older

-- ---- answers
-- the change of a call stands: its entry is in the settled history, and has this outcome on what stands before it
pub record DoesStand (caller call : ℕ) (state : State) (took : Took) (ballot : Ballot) (marks : List Mark) : Type 0 where
  pub proposal : Proposal
  pub proposed : Stands (Proposed proposal) marks
  pub same_caller : proposal.caller ≡ caller
  pub same_call : proposal.call ≡ call
  pub same_ballot : proposal.ballot ≡ ballot
  pub program : List Clause
  pub before : List Entry
  pub after : List Entry
  pub place : settled_of proposal.key marks ≡ before ++ record { caller = caller; call = call; program = program } ∷ after
  pub outcome : outcome_of program (replay_from (opening_state proposal.key marks) before) ≡ record { state = state; took = took }

-- whether an answer tells that the change was never proposed
abbrev pub tells_refused : Answer → Bool
tells_refused (answer.Done state took ballot) = false
tells_refused (answer.Unsettled why) = false
tells_refused (answer.NoMemory proposed) = not proposed
tells_refused other = true

-- whether an answer tells that the change was proposed, and may yet stand
abbrev pub tells_unsettled : Answer → Bool
tells_unsettled (answer.Unsettled why) = true
tells_unsettled (answer.NoMemory proposed) = proposed
tells_unsettled other = false

-- a change that was refused was never proposed, also not later, and one that is unsettled was
pub record RefusedNever (marks : List Mark) : Type 0 where
  pub refused : {caller call rounds : ℕ} {answer : Answer} {older : List Mark} → At (Ended caller call rounds answer) older marks
      → tells_refused answer ≡ true → IsProposed caller call marks → ⊥
  pub unsettled : {caller call rounds : ℕ} {answer : Answer} {older : List Mark} → At (Ended caller call rounds answer) older marks
      → tells_unsettled answer ≡ true → IsProposed caller call older

-- how many harms an answer must be explained by
abbrev pub harms_due : Answer → ℕ
harms_due (answer.Short got need) = need - got
harms_due (answer.Unsettled (cause.Short got need)) = need - got
harms_due other = 0

-- how many frames of the call were harmed
abbrev pub harms_of : ℕ → ℕ → List Mark → ℕ
harms_of caller call [] = 0
harms_of caller call (Harmed c n down ∷ older) = if is_call caller call c n then suc (harms_of caller call older) else harms_of caller call older
harms_of caller call (mark ∷ older) = harms_of caller call older

-- ---- histories
-- the entry was begun as it stands, before it was proposed
pub record WasBegun (key : List ℕ) (entry : Entry) (marks : List Mark) : Type 0 where
  pub proposal : Proposal
  pub older : List Mark
  pub proposed : At (Proposed proposal) older marks
  pub same_key : proposal.key ≡ key
  pub same_caller : proposal.caller ≡ entry.caller
  pub same_call : proposal.call ≡ entry.call
  pub begun : Stands (Begun entry.caller entry.call key entry.program) older

-- ---- votes and floors
-- an acknowledgment has its proposal, of the same era, and the vote of each of its acceptors
pub record HasVotes (a : Acknowledgment) (older : List Mark) : Type 0 where
  pub proposal : Proposal
  pub proposed : Stands (Proposed proposal) older
  pub same_key : proposal.key ≡ a.key
  pub same_ballot : proposal.ballot ≡ a.ballot
  pub same_era : proposal.era ≡ a.era
  pub votes : (acceptor : ℕ) → has_member a.by acceptor ≡ true → Stands (Voted acceptor a.key a.ballot) older

-- the key's ballot was acknowledged
pub record IsAcked (key : List ℕ) (ballot : Ballot) (marks : List Mark) : Type 0 where
  pub acknowledgment : Acknowledgment
  pub stands : Stands (Acked acknowledgment) marks
  pub same_key : acknowledgment.key ≡ key
  pub same_ballot : acknowledgment.ballot ≡ ballot

-- no call was begun
abbrev pub NoneBegun : List Mark → Type 0
NoneBegun marks = (caller call : ℕ) (key : List ℕ) (program : List Clause) → Stands (Begun caller call key program) marks → ⊥

-- an opening floor: no call was begun, and the key has no floor
pub record IsOpeningFloor (key : List ℕ) (older : List Mark) : Type 0 where
  pub none_begun : NoneBegun older
  pub first : {floor : Ballot} {state : State} → Stands (Floor key floor state) older → ⊥

-- a tombstone: the empty state was acknowledged at the ballot
pub record IsTombstone (key : List ℕ) (ballot : Ballot) (state : State) (older : List Mark) : Type 0 where
  pub is_empty : state ≡ Empty
  pub acked : IsAcked key ballot older

-- a floor opens the key's history, or is a tombstone
abbrev pub IsFloor : List ℕ → Ballot → State → List Mark → Type 0
IsFloor key ballot state older = IsOpeningFloor key older ⊎ IsTombstone key ballot state older

-- ---- the whole
pub record IsLegal (marks : List Mark) : Type 0 where
  -- calls are numbered and marked once
  pub numbered : IsNumbered marks
  -- a change that was answered Done stands, with the state, the clause and the ballot of its answer
  pub done_stands : {caller call rounds : ℕ} {state : State} {took : Took} {ballot : Ballot} {older : List Mark}
      → At (Ended caller call rounds (answer.Done state took ballot)) older marks → DoesStand caller call state took ballot older
  -- a refused change was never proposed, an unsettled one was
  pub refused_never : RefusedNever marks
  -- wherever a change that was answered Done stands, it stands after all that was settled when its call began
  pub after_seen : {caller call rounds : ℕ} {state : State} {took : Took} {ballot : Ballot} {key : List ℕ} {program : List Clause} {older earlier : List Mark}
      → At (Ended caller call rounds (answer.Done state took ballot)) older marks → At (Begun caller call key program) earlier older
      → (entry : Entry) (before after : List Entry) → entry.caller ≡ caller → entry.call ≡ call
      → settled_of key older ≡ before ++ entry ∷ after → length (settled_of key earlier) ≤ length before
  -- what was settled stays settled, in its place
  pub only_grows : {later earlier : List Mark} → IsOlderPart later marks → IsOlderPart earlier later
      → (key : List ℕ) → IsPrefix (settled_of key earlier) (settled_of key later)
  -- what is settled at any time was begun
  pub begun_first : {part : List Mark} → IsOlderPart part marks → (key : List ℕ) (entry : Entry)
      → Stands entry (settled_of key part) → WasBegun key entry part
  -- an acknowledgment has its votes
  pub has_votes : {a : Acknowledgment} {older : List Mark} → At (Acked a) older marks → HasVotes a older
  -- floors are tombstones, but for those that open a history
  pub floors : {key : List ℕ} {ballot : Ballot} {state : State} {older : List Mark} → At (Floor key ballot state) older marks → IsFloor key ballot state older
  -- a shortfall of confirmations is explained by as many harmed frames of the call
  pub short_harmed : {caller call rounds : ℕ} {answer : Answer} {older : List Mark} → At (Ended caller call rounds answer) older marks
      → harms_due answer ≤ harms_of caller call older
