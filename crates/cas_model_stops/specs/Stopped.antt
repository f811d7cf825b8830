-- What acceptors that stopped still hold of what is settled.
use Rattle.std.specs.Prelude.{◌≡◌, ◌⊎◌, ◌≤◌, ℕ, true, List, reverse, Some, Ok}
use Rattle.cas_ballot.specs.declared.ballot.Ballot.{Ballot}
use Rattle.cas_ballot.specs.Ballot.{zero_ballot, BallotAtMost, BallotLess}
use Rattle.cas_ballot.specs.Members.{has_member}
use Rattle.cas_change.specs.declared.state.State.TheVariants.{Empty}
use Rattle.cas_quorum.specs.declared.era.Era.{Era}
use Rattle.cas_quorum.specs.Era.{holds_prep}
use Rattle.cas_slot.specs.declared.slot.Accepted.{Accepted}
use Rattle.cas_slot.specs.Contents.{Contents}
use Rattle.cas_slot.specs.Shelf.{Left}
use Rattle.cas_slot.specs.Slot.{accepted_ballot}
use Rattle.cas_slot.specs.Table.{accepted_at}
use Rattle.cas_acceptor.specs.Acceptor.{AcceptorView}
use Rattle.cas_record.specs.declared.mark.Mark.{Mark}
use Rattle.cas_record.specs.Histories.Chain.{chain_of, settled_of}
use Rattle.cas_record.specs.Histories.Replay.{replay_from, opening_state}
use Rattle.cas_record.specs.Legal.{HasFloor}
use Rattle.cas_record.specs.Logs.Orderly.{IsNoneOrAbove}
use Rattle.cas_record.specs.Places.{IsPrefix}
use Rattle.cas_model.specs.History.{IsRemembered}
use Rattle.cas_model.specs.Safe.{IsSafe}
use Rattle.cas_model.specs.View.{Meaning, View, IsAt, era_at}

-- each of these acceptors has started, and may have left these contents
abbrev pub AreLeft : {S V : Type 0} → Meaning S V → View S V → List ℕ → (ℕ → Contents) → Type 0
AreLeft {S} {V} m view by left = (id : ℕ) → has_member by id ≡ true → (acceptor : AcceptorView S) × IsAt view.acceptors id acceptor × (acceptor.started ≡ true) × m.shelves.may_leave acceptor.shelf (Ok (left id))

-- They are members of the era, and a prepare quorum of it is among them.
pub record HasPrepareQuorum (era : Era) (by : List ℕ) : Type 0 where
  pub quorum : holds_prep era by ≡ true
  pub members : (id : ℕ) → has_member by id ≡ true → (has_member era.prep id ≡ true) ⊎ (has_member era.acc id ≡ true)

-- What they hold of a key. The history of the greatest ballot that one of them accepted begins with what is settled, and the state that was
-- accepted at it is the one that this history leaves. Where none of them accepted anything, what is settled leaves the register empty.
pub record HoldSettled (marks : List Mark) (by : List ℕ) (left : ℕ → Contents) (key : List ℕ) : Type 0 where
  pub greatest : (id : ℕ) (accepted : Accepted) → has_member by id ≡ true → accepted_at (left id) key ≡ Some accepted → BallotLess zero_ballot accepted.ballot
      → ((other : ℕ) → has_member by other ≡ true → BallotAtMost (accepted_ballot (accepted_at (left other) key)) accepted.ballot)
      → IsPrefix (settled_of key marks) (chain_of key accepted.ballot marks) × (accepted.state ≡ replay_from (opening_state key marks) (chain_of key accepted.ballot marks))
  pub none : ((id : ℕ) → has_member by id ≡ true → accepted_ballot (accepted_at (left id) key) ≡ zero_ballot) → replay_from (opening_state key marks) (settled_of key marks) ≡ Empty

-- What an acceptor may leave that has started is whole: a crash leaves contents of slots, wherever it stops.
abbrev pub StartedAreWhole : {S V : Type 0} → Meaning S V → Type 0
StartedAreWhole {S} {V} m = m.shelves.tells → (view : View S V) (id : ℕ) (acceptor : AcceptorView S) → IsRemembered m view → IsAt view.acceptors id acceptor → acceptor.started ≡ true
    → (left : Left) → m.shelves.may_leave acceptor.shelf left → (contents : Contents) × (left ≡ Ok contents)

-- Whatever a member of an era in which a proposer works may have left, up or not, it accepted nothing of the key below a floor of it.
abbrev pub StoppedAreClear : {S V : Type 0} → Meaning S V → Type 0
StoppedAreClear {S} {V} m = m.shelves.tells → (view : View S V) (key : List ℕ) (floor : Ballot) (proposer id : ℕ) (acceptor : AcceptorView S) (contents : Contents) → IsSafe view → IsRemembered m view
    → HasFloor key floor (reverse view.marks) → proposer ≤ view.last_proposer → (has_member (era_at view proposer).prep id ≡ true) ⊎ (has_member (era_at view proposer).acc id ≡ true)
    → IsAt view.acceptors id acceptor → acceptor.started ≡ true → m.shelves.may_leave acceptor.shelf (Ok contents) → IsNoneOrAbove floor (accepted_ballot (accepted_at contents key))

-- Members of an era in which a proposer works hold what is settled, if a prepare quorum of that era is among them, whatever each may have left.
abbrev pub SettledIsHeld : {S V : Type 0} → Meaning S V → View S V → Type 0
SettledIsHeld {S} {V} m view = (proposer : ℕ) (by : List ℕ) (left : ℕ → Contents) → proposer ≤ view.last_proposer → HasPrepareQuorum (era_at view proposer) by → AreLeft m view by left → (key : List ℕ)
    → HoldSettled (reverse view.marks) by left key

abbrev pub WhatStoppedHold : {S V : Type 0} → Meaning S V → Type 0
WhatStoppedHold {S} {V} m = m.shelves.tells → m.disks.tells → (view : View S V) → IsSafe view → IsRemembered m view → SettledIsHeld m view
