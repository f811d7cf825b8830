-- The rules of a legal record, one by one, in its order: those that have no name beside `IsLegal`. The marks are read newest first.
use Rattle.std.specs.Prelude.{◌≡◌, ℕ, ◌≤◌, List, ◌∷◌, ◌++◌, length}
use Rattle.cas_ballot.specs.declared.ballot.Ballot.{Ballot}
use Rattle.cas_change.specs.declared.program.Clause.{Clause}
use Rattle.cas_change.specs.declared.state.State.{State}
use Rattle.cas_change.specs.declared.outcome.Took.{Took}
use Rattle.cas_record.specs.Histories.Chain.{settled_of}
use Rattle.cas_record.specs.Legal.{DoesStand, WasBegun, HasVotes, IsFloor, harms_due, harms_of}
use Rattle.cas_record.specs.Places.{At, Stands, IsOlderPart, IsPrefix}
use Rattle.cas_record.specs.declared.answer.Answer.{Answer}
use Rattle.cas_record.specs.declared.answer.Answer.TheVariants as answer
use Rattle.cas_record.specs.declared.entry.Entry.{Entry}
use Rattle.cas_record.specs.declared.mark.Acknowledgment.{Acknowledgment}
use Rattle.cas_record.specs.declared.mark.Mark.{Mark}
use Rattle.cas_record.specs.declared.mark.Mark.TheVariants.{Begun, Acked, Floor, Ended}

-- an answered change stands with its answer
pub record DoneStands (marks : List Mark) : Type 0 where
  pub each : {caller call rounds : ℕ} {state : State} {took : Took} {ballot : Ballot} {older : List Mark}
      → At (Ended caller call rounds (answer.Done state took ballot)) older marks → DoesStand caller call state took ballot older

-- it stands after all that was settled when its call began
pub record StandsAfterSeen (marks : List Mark) : Type 0 where
  pub each : {caller call rounds : ℕ} {state : State} {took : Took} {ballot : Ballot} {key : List ℕ} {program : List Clause} {older earlier : List Mark}
      → At (Ended caller call rounds (answer.Done state took ballot)) older marks → At (Begun caller call key program) earlier older
      → (entry : Entry) (before after : List Entry) → entry.caller ≡ caller → entry.call ≡ call
      → settled_of key older ≡ before ++ entry ∷ after → length (settled_of key earlier) ≤ length before

-- settled histories only grow
pub record OnlyGrows (marks : List Mark) : Type 0 where
  pub each : {later earlier : List Mark} → IsOlderPart later marks → IsOlderPart earlier later → (key : List ℕ) → IsPrefix (settled_of key earlier) (settled_of key later)

-- what is settled was begun
pub record BegunFirst (marks : List Mark) : Type 0 where
  pub each : {part : List Mark} → IsOlderPart part marks → (key : List ℕ) (entry : Entry) → Stands entry (settled_of key part) → WasBegun key entry part

-- an acknowledgment has its votes
pub record AckedByVotes (marks : List Mark) : Type 0 where
  pub each : {a : Acknowledgment} {older : List Mark} → At (Acked a) older marks → HasVotes a older

-- floors are tombstones
pub record FloorsAreTombstones (marks : List Mark) : Type 0 where
  pub each : {key : List ℕ} {ballot : Ballot} {state : State} {older : List Mark} → At (Floor key ballot state) older marks → IsFloor key ballot state older

-- a shortfall has its harms
pub record ShortIsHarmed (marks : List Mark) : Type 0 where
  pub each : {caller call rounds : ℕ} {answer : Answer} {older : List Mark} → At (Ended caller call rounds answer) older marks → harms_due answer ≤ harms_of caller call older
