-- What a proposer knows of its round, and what it may do with it.
use Rattle.std.specs.Prelude.{◌≡◌, ◌⊎◌, ◌<◌, ℕ, suc, true, List, Option, None, Some, Contains}
use Rattle.cas_ballot.specs.declared.ballot.Ballot.{Ballot}
use Rattle.cas_ballot.specs.Ballot.{BallotLess}
use Rattle.cas_ballot.specs.Members.{has_member}
use Rattle.cas_change.specs.declared.state.State.{State}
use Rattle.cas_change.specs.declared.state.State.TheVariants.{Empty}
use Rattle.cas_slot.specs.declared.message.Ask.TheVariants as ask
use Rattle.cas_slot.specs.declared.message.Request.{Request}
use Rattle.cas_slot.specs.declared.message.Reply.{Reply}
use Rattle.cas_slot.specs.declared.message.Tell.TheVariants as tell
use Rattle.cas_slot.specs.declared.slot.Accepted.{Accepted}
use Rattle.cas_record.specs.declared.mark.Mark.TheVariants.{Proposed, Voted}
use Rattle.cas_record.specs.declared.mark.Proposal.{Proposal}
use Rattle.cas_record.specs.declared.mark.Acknowledgment.{Acknowledgment}
use Rattle.cas_record.specs.Legal.{HasProposal, HasFloor, IsBegun, IsProposed, IsEnded}
use Rattle.cas_record.specs.Logs.Happening.{Happening, Asked, Took, Entered, Drew, Replied, marks_of}
use Rattle.cas_record.specs.Logs.Lawful.{Cluster}
use Rattle.cas_record.specs.Laws.{HistoryIsOpened}
use Rattle.cas_record.specs.Logs.Orderly.{IsAboveFloors, IsClear}
use Rattle.cas_record.specs.Places.{Stands}
use Rattle.cas_protocol.specs.Acceptors.{IsTellState, IsEmptyAt}

-- ---- messages
-- an acceptor made the reply, and a state that it tells is that of a proposal
pub record IsReplyTrue (log : List Happening) (reply : Reply) : Type 0 where
  pub from : reply.from < 64
  pub request : Request
  pub replied : Stands (Replied request reply) log
  pub state : IsTellState (marks_of log) request.ask reply.tell

-- each of them is so
abbrev pub AreRepliesTrue : List Happening → List Reply → Type 0
AreRepliesTrue log replies = (reply : Reply) → Contains replies reply → IsReplyTrue log reply

-- the acceptor told a probe of the key, asked with this tag, what it had accepted for the key
pub record WasProbed (log : List Happening) (tag : Ballot) (key : List ℕ) (acceptor : ℕ) (accepted : Option Accepted) : Type 0 where
  pub reply : Reply
  pub told : IsReplyTrue log reply
  pub from : reply.from ≡ acceptor
  pub asked : told.request.ask ≡ ask.Probe tag key
  pub promise : Ballot
  pub tells : reply.tell ≡ tell.Probed promise accepted

-- ---- a round
-- The round of a call that is open and was not proposed: its ballot was drawn for the key in the era that the proposer is in, no
-- proposal of the key has it, and it is above the floors of the key.
pub record IsOpenRound (log : List Happening) (caller call : ℕ) (key : List ℕ) (ballot : Ballot) (era : ℕ) : Type 0 where
  pub drawn : Stands (Drew ballot key era) log
  pub not_beyond : Stands (Entered ballot.proposer (suc era)) log → ⊥
  pub fresh : HasProposal key ballot (marks_of log) → ⊥
  pub above_floors : IsAboveFloors (marks_of log) key ballot
  pub begun : IsBegun caller call key (marks_of log)
  pub once : IsProposed caller call (marks_of log) → ⊥
  pub open_yet : IsEnded caller call (marks_of log) → ⊥

-- each floor of the key is empty or opened its history, and each of these acceptors is clear of what was below it
pub record AreFloorsClear (cluster : Cluster) (log : List Happening) (key : List ℕ) (ballot : Ballot) (by : List ℕ) : Type 0 where
  pub empty : (floor : Ballot) → HasFloor key floor (marks_of log) → IsEmptyAt (marks_of log) key floor ⊎ HistoryIsOpened cluster log key floor
  pub clear : (acceptor : ℕ) (floor : Ballot) → has_member by acceptor ≡ true → HasFloor key floor (marks_of log) → BallotLess floor ballot → IsClear log acceptor key floor

-- what was read: the state of the greatest ballot that was told, and nothing is the empty state
abbrev pub state_read : Option Accepted → State
state_read None = Empty
state_read (Some accepted) = accepted.state

-- ---- an acknowledgment
-- its ballot was drawn for its key, and proposed in its era
pub record IsProposedIn (log : List Happening) (a : Acknowledgment) : Type 0 where
  pub drawn : Stands (Drew a.ballot a.key a.era) log
  pub proposal : Proposal
  pub proposed : Stands (Proposed proposal) (marks_of log)
  pub same_key : proposal.key ≡ a.key
  pub same_ballot : proposal.ballot ≡ a.ballot
  pub same_era : proposal.era ≡ a.era

-- A vote is seen: the acceptor took the ballot, or told a probe of the key that it had accepted it. It may have stopped as it took it, and
-- have answered nobody then.
pub data IsVoteSeen (log : List Happening) (acceptor : ℕ) (key : List ℕ) (ballot : Ballot) : Type 0 where
  by_deed : (ride : Ballot) → Stands (Took acceptor key ballot ride) log → IsVoteSeen log acceptor key ballot
  by_probe : (tag : Ballot) (accepted : Accepted) → WasProbed log tag key acceptor (Some accepted) → accepted.ballot ≡ ballot → IsVoteSeen log acceptor key ballot

-- what was proposed has the mark of the vote of each of these, who are an accept quorum of its era
pub record HasVotesSeen (cluster : Cluster) (log : List Happening) (a : Acknowledgment) : Type 0 where
  pub proposed : IsProposedIn log a
  pub votes : (acceptor : ℕ) → has_member a.by acceptor ≡ true → Stands (Voted acceptor a.key a.ballot) (marks_of log)
  pub quorum : cluster.accepts a.era a.by ≡ true

-- ---- a ride
-- whoever was asked to accept the ballot was asked to promise this one by the same act
pub record AllRide (log : List Happening) (key : List ℕ) (ballot ride : Ballot) : Type 0 where
  pub rides : (request : Request) (era : ℕ) (asked : Option Ballot) (state : State) → Stands (Asked request) log → request.ask ≡ ask.Accept key ballot era asked state → asked ≡ Some ride
