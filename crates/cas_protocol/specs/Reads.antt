-- A read that writes nothing: by one exchange a proposer asks what members of its era accepted for a key.
use Rattle.std.specs.Prelude.{◌≡◌, ℕ, suc, true, List, [], ◌∷◌, Option, Some, ◌⊎◌, pos}
use Rattle.cas_ballot.specs.declared.ballot.Ballot.{Ballot}
use Rattle.cas_ballot.specs.Ballot.{zero_ballot, BallotAtMost, BallotLess}
use Rattle.cas_ballot.specs.Members.{has_member}
use Rattle.cas_change.specs.declared.program.Act.TheVariants.{Add}
use Rattle.cas_change.specs.declared.program.Guard.TheVariants.{Always}
use Rattle.cas_change.specs.declared.state.State.TheVariants.{Empty}
use Rattle.cas_slot.specs.declared.message.Request.{Request}
use Rattle.cas_slot.specs.declared.message.Reply.{Reply}
use Rattle.cas_slot.specs.declared.message.Tell.TheVariants as tell
use Rattle.cas_slot.specs.declared.slot.Accepted.{Accepted}
use Rattle.cas_slot.specs.Slot.{accepted_ballot}
use Rattle.cas_record.specs.declared.mark.Acknowledgment.{Acknowledgment}
use Rattle.cas_record.specs.declared.mark.Mark.TheVariants.{Proposed, Acked}
use Rattle.cas_record.specs.declared.mark.Proposal.{Proposal}
use Rattle.cas_record.specs.Histories.Chain.{chain_of, top_of, settled_of}
use Rattle.cas_record.specs.Histories.Replay.{replay_from, opening_state}
use Rattle.cas_record.specs.Laws.{HistoryIsOpened}
use Rattle.cas_record.specs.Legal.{HasFloor}
use Rattle.cas_record.specs.Logs.Happening.{Happening, Entered, Drew, Replied, marks_of}
use Rattle.cas_record.specs.Logs.Lawful.{Cluster, ClusterMeets, Lawful}
use Rattle.cas_record.specs.Logs.Orderly.{Orderly}
use Rattle.cas_record.specs.Logs.Witness.{small_cluster, key_a, at}
use Rattle.cas_record.specs.Places.{At, Stands, IsOlderPart, IsPrefix}
use Rattle.cas_protocol.specs.Acceptors.{IsEmptyAt}
use Rattle.cas_protocol.specs.Proposers.{IsProposedIn, IsVoteSeen, WasProbed}
use Rattle.cas_protocol.specs.Protocol.{GlobalState, IsFloorClear, Run}

-- ---- what a read knows
-- the acceptor told a probe of the key that it accepted the ballot, or zero where it accepted nothing
pub record HasToldBallot (log : List Happening) (tag : Ballot) (key : List ℕ) (ballot : Ballot) (acceptor : ℕ) : Type 0 where
  pub accepted : Option Accepted
  pub probed : WasProbed log tag key acceptor accepted
  pub same_ballot : accepted_ballot accepted ≡ ballot

-- A proposer drew a tag for its question when the log was the earlier one, and was in the era and in none after it. Each of these
-- acceptors, who are a prepare quorum of that era, told a probe with the tag this one ballot.
pub record IsQuorumRead (cluster : Cluster) (before log : List Happening) (tag : Ballot) (key : List ℕ) (ballot : Ballot) (by : List ℕ) : Type 0 where
  pub era : ℕ
  pub drawn : At (Drew tag [] era) before log
  pub not_beyond : Stands (Entered tag.proposer (suc era)) before → ⊥
  pub quorum : cluster.prepares era by ≡ true
  pub told : (acceptor : ℕ) → has_member by acceptor ≡ true → HasToldBallot log tag key ballot acceptor

-- each floor of the key is empty or opened its history, and members are clear of what was below it
pub record AreFloorsKnown (cluster : Cluster) (log : List Happening) (key : List ℕ) : Type 0 where
  pub empty : (floor : Ballot) → HasFloor key floor (marks_of log) → IsEmptyAt (marks_of log) key floor ⊎ HistoryIsOpened cluster log key floor
  pub clear : (floor : Ballot) → HasFloor key floor (marks_of log) → IsFloorClear cluster log key floor

-- the history up to a ballot leaves the empty state, begins with what was settled before, and begins what is settled now
pub record WasEmptySince (before log : List Happening) (key : List ℕ) : Type 0 where
  pub ballot : Ballot
  pub goes_on : IsPrefix (settled_of key (marks_of before)) (chain_of key ballot (marks_of log))
  pub begins : IsPrefix (chain_of key ballot (marks_of log)) (settled_of key (marks_of log))
  pub empty : replay_from (opening_state key (marks_of log)) (chain_of key ballot (marks_of log)) ≡ Empty

-- the acknowledgment of what was told by these
abbrev pub acknowledgment_of : List ℕ → Accepted → List ℕ → Acknowledgment
acknowledgment_of key accepted by = record { key = key; ballot = accepted.ballot; era = accepted.era; by = by }

-- each of its acceptors has a vote that is seen, and they are an accept quorum of the era in which its ballot was proposed
pub record MayBeCounted (cluster : Cluster) (log : List Happening) (a : Acknowledgment) : Type 0 where
  pub votes : (acceptor : ℕ) → has_member a.by acceptor ≡ true → IsVoteSeen log acceptor a.key a.ballot
  pub proposed : IsProposedIn log a
  pub quorum : cluster.accepts a.era a.by ≡ true

-- ---- laws
-- If a prepare quorum told a read one ballot, the history up to it begins with all that was settled of the key when the tag was drawn. The
-- state that was told is the one that this history leaves.
abbrev pub ReadsGoOn : Type 0
ReadsGoOn = (cluster : Cluster) → ClusterMeets cluster → (before log : List Happening) (tag : Ballot) (key by : List ℕ) (acceptor : ℕ) (accepted : Accepted)
    → Lawful cluster log → Orderly cluster log → AreFloorsKnown cluster before key
    → IsQuorumRead cluster before log tag key accepted.ballot by → WasProbed log tag key acceptor (Some accepted)
    → IsPrefix (settled_of key (marks_of before)) (chain_of key accepted.ballot (marks_of log))
    × (accepted.state ≡ replay_from (opening_state key (marks_of log)) (chain_of key accepted.ballot (marks_of log)))

-- If each of a prepare quorum told a read that it accepted nothing, and no floor of the key was made meanwhile, what was settled of the
-- key when the tag was drawn leaves the empty state.
abbrev pub ReadsOfNothing : Type 0
ReadsOfNothing = (cluster : Cluster) → ClusterMeets cluster → (before log : List Happening) (tag : Ballot) (key by : List ℕ)
    → Lawful cluster log → Orderly cluster log → AreFloorsKnown cluster before key
    → ((floor : Ballot) → HasFloor key floor (marks_of log) → HasFloor key floor (marks_of before))
    → IsQuorumRead cluster before log tag key zero_ballot by
    → replay_from (opening_state key (marks_of before)) (settled_of key (marks_of before)) ≡ Empty

-- If floors may have been made meanwhile, the register was empty at some time since: its history had gone on from what was settled before,
-- and goes on to what is settled now.
abbrev pub ReadsOfNothingWereEmpty : Type 0
ReadsOfNothingWereEmpty = (cluster : Cluster) → ClusterMeets cluster → (before log : List Happening) (tag : Ballot) (key by : List ℕ)
    → Lawful cluster log → Orderly cluster log → AreFloorsKnown cluster before key → AreFloorsKnown cluster log key
    → IsQuorumRead cluster before log tag key zero_ballot by → WasEmptySince before log key

-- Those who told a ballot may be an accept quorum of its era. In their log, and in each that goes on from it, the history up to the
-- ballot then begins what is settled of the key, if the last that settled is at or above it.
abbrev pub ReadsStand : Type 0
ReadsStand = (cluster : Cluster) → ClusterMeets cluster → (log later : List Happening) (tag : Ballot) (key by : List ℕ) (acceptor : ℕ) (accepted : Accepted)
    → Orderly cluster log → Lawful cluster later → IsOlderPart log later
    → ((member : ℕ) → has_member by member ≡ true → HasToldBallot log tag key accepted.ballot member) → WasProbed log tag key acceptor (Some accepted)
    → cluster.accepts accepted.era by ≡ true → BallotAtMost accepted.ballot (top_of key (marks_of later))
    → IsPrefix (chain_of key accepted.ballot (marks_of later)) (settled_of key (marks_of later))

-- If their ballot is above the last that settled, their votes may be marked, and it may be acknowledged by them. The history up to it is
-- then what is settled.
abbrev pub ReadsMayCount : Type 0
ReadsMayCount = (cluster : Cluster) (log : List Happening) (tag : Ballot) (key by : List ℕ) (acceptor : ℕ) (accepted : Accepted)
    → Lawful cluster log → Orderly cluster log → ((p : Proposal) → Stands (Proposed p) (marks_of log) → Stands (Drew p.ballot p.key p.era) log)
    → ((member : ℕ) → has_member by member ≡ true → HasToldBallot log tag key accepted.ballot member) → WasProbed log tag key acceptor (Some accepted)
    → cluster.accepts accepted.era by ≡ true → BallotLess (top_of key (marks_of log)) accepted.ballot
    → MayBeCounted cluster log (acknowledgment_of key accepted by) × (settled_of key (Acked (acknowledgment_of key accepted by) ∷ marks_of log) ≡ chain_of key accepted.ballot (marks_of log))

-- what a probe told was told once the log goes on with this, and a read that was told a ballot by a quorum was
pub record StaysRead (cluster : Cluster) (h : Happening) (log : List Happening) : Type 0 where
  pub probed : (tag : Ballot) (key : List ℕ) (acceptor : ℕ) (accepted : Option Accepted) → WasProbed log tag key acceptor accepted → WasProbed (h ∷ log) tag key acceptor accepted
  pub read : (before : List Happening) (tag : Ballot) (key : List ℕ) (ballot : Ballot) (by : List ℕ) → IsQuorumRead cluster before log tag key ballot by → IsQuorumRead cluster before (h ∷ log) tag key ballot by

-- Whatever happens lawfully, what was told stays told, and true.
abbrev pub WhatIsReadStays : Type 0
WhatIsReadStays = (cluster : Cluster) (h : Happening) (log : List Happening) → Lawful cluster (h ∷ log) → StaysRead cluster h log

-- A run in which those that took a ballot stopped and told nobody, so that nothing was settled. A read finds the ballot, and then what its
-- call adds to nothing is settled.
pub record SomeReadIsCounted : Type 0 where
  pub before : GlobalState
  pub global : GlobalState
  pub run : Run small_cluster global
  pub silent : (request : Request) (reply : Reply) → Stands (Replied request reply) global.log → reply.tell ≡ tell.Accepted → ⊥
  pub none_settled : settled_of key_a (marks_of before.log) ≡ []
  pub read : IsQuorumRead small_cluster before.log global.log (at 3 0) key_a (at 1 0) (1 ∷ 2 ∷ [])
  pub settled : settled_of key_a (marks_of global.log) ≡ record { caller = 0; call = 1; program = record { guard = Always; act = Add (pos 5) } ∷ [] } ∷ []
