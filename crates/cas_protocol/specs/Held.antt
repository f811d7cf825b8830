-- What of a key stands on the shelves of a quorum.
use Rattle.std.specs.Prelude.{◌≡◌, ℕ, true, List, Ok}
use Rattle.cas_ballot.specs.declared.ballot.Ballot.{Ballot}
use Rattle.cas_ballot.specs.Ballot.{BallotAtMost}
use Rattle.cas_ballot.specs.Members.{has_member}
use Rattle.cas_slot.specs.Contents.{Contents}
use Rattle.cas_slot.specs.Slot.{accepted_ballot}
use Rattle.cas_slot.specs.Table.{accepted_at}
use Rattle.cas_record.specs.Histories.Chain.{chain_of}
use Rattle.cas_record.specs.Logs.Happening.{Happening, marks_of}
use Rattle.cas_record.specs.Logs.Lawful.{Cluster}
use Rattle.cas_record.specs.Places.{IsPrefix}
use Rattle.cas_protocol.specs.Acceptors.{LogTells, IsAcceptedState, IsLeft}

-- what is kept of the key is at or above the ballot: a state that was proposed, whose history the ballot's begins
pub record Holds (log : List Happening) (key : List ℕ) (ballot : Ballot) (kept : Contents) : Type 0 where
  pub at_least : BallotAtMost ballot (accepted_ballot (accepted_at kept key))
  pub state : IsAcceptedState (marks_of log) key (accepted_at kept key)
  pub begins : IsPrefix (chain_of key ballot (marks_of log)) (chain_of key (accepted_ballot (accepted_at kept key)) (marks_of log))

-- an accept quorum of an era holds it: each of its acceptors does, whatever a crash now leaves of what it keeps
pub record IsHeld (cluster : Cluster) (log : List Happening) (key : List ℕ) (ballot : Ballot) : Type 0 where
  pub era : ℕ
  pub by : List ℕ
  pub quorum : cluster.accepts era by ≡ true
  pub held : (acceptor : ℕ) (kept new : Contents) → has_member by acceptor ≡ true → LogTells log acceptor kept → IsLeft log acceptor kept (Ok new) → Holds log key ballot new
