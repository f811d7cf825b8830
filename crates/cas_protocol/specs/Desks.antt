-- What a proposer's desk knows: the promises that ride along, and the ballots that it draws.
use Rattle.std.specs.Prelude.{◌≡◌, ℕ, ◌≤◌, true, List}
use Rattle.cas_ballot.specs.declared.ballot.Ballot.{Ballot}
use Rattle.cas_ballot.specs.Ballot.{BallotAtMost, BallotLess}
use Rattle.cas_ballot.specs.Members.{has_member}
use Rattle.cas_cache.specs.declared.ready.Ready.{Ready}
use Rattle.cas_record.specs.Legal.{HasFloor}
use Rattle.cas_record.specs.Logs.Happening.{Happening, Took, Drew, marks_of}
use Rattle.cas_record.specs.Logs.Lawful.{Cluster, IsIn}
use Rattle.cas_record.specs.Places.{Stands}
use Rattle.cas_protocol.specs.Acceptors.{IsMadeState}

-- A promise that rode along: each of those that hold it took what it names as read, with its ballot riding, and promised that by the
-- same act; they are a prepare quorum. What is read is a state that was proposed, at or above every floor of the key.
pub record IsRiding (cluster : Cluster) (log : List Happening) (key : List ℕ) (era : ℕ) (ready : Ready) : Type 0 where
  pub quorum : cluster.prepares era ready.by ≡ true
  pub took : (acceptor : ℕ) → has_member ready.by acceptor ≡ true → Stands (Took acceptor key ready.read ready.ballot) log
  pub above : BallotLess ready.read ready.ballot
  pub made_in : ℕ
  pub state : IsMadeState (marks_of log) key ready.read made_in ready.state
  pub over_floors : (floor : Ballot) → HasFloor key floor (marks_of log) → BallotAtMost floor ready.read

-- a proposer that is in the era, and whose counter is at or above that of each ballot that it drew and of each floor of the key
pub record IsPastAll (cluster : Cluster) (log : List Happening) (proposer era counter : ℕ) (key : List ℕ) : Type 0 where
  pub known : proposer ≤ cluster.last_proposer
  pub is_in : IsIn log proposer era
  pub drawn : (ballot : Ballot) (k : List ℕ) (e : ℕ) → Stands (Drew ballot k e) log → ballot.proposer ≡ proposer → ballot.counter ≤ counter
  pub floors : (floor : Ballot) → HasFloor key floor (marks_of log) → floor.counter ≤ counter
