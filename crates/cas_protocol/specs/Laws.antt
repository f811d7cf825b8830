-- What is true of every cluster.
use Rattle.std.specs.Prelude.{◌≡◌, ℕ, ◌+◌, ◌≤◌, ◌<◌, true, List, [], ◌∷◌, ◌++◌, Option, Ok, ◌⊎◌}
use Rattle.cas_ballot.specs.declared.ballot.Ballot.{Ballot}
use Rattle.cas_ballot.specs.Ballot.{BallotAtMost, BallotLess}
use Rattle.cas_cache.specs.declared.ready.Ready.{Ready}
use Rattle.cas_change.specs.declared.outcome.Outcome.{Outcome}
use Rattle.cas_change.specs.declared.program.Clause.{Clause}
use Rattle.cas_change.specs.declared.state.State.{State}
use Rattle.cas_change.specs.declared.state.State.TheVariants.{Empty}
use Rattle.cas_change.specs.Outcome.{outcome_of}
use Rattle.cas_round.specs.Replies.{promisers_of, accepters_of}
use Rattle.cas_round.specs.Round.{IsRead}
use Rattle.cas_slot.specs.declared.message.Ask.{Ask}
use Rattle.cas_slot.specs.declared.message.Request.{Request}
use Rattle.cas_slot.specs.declared.slot.Accepted.{Accepted}
use Rattle.cas_slot.specs.Slot.{accepted_ballot}
use Rattle.cas_record.specs.declared.mark.Proposal.{Proposal}
use Rattle.cas_record.specs.declared.mark.Acknowledgment.{Acknowledgment}
use Rattle.cas_record.specs.Histories.Chain.{chain_of, link_of, top_of, settled_of}
use Rattle.cas_record.specs.Histories.Replay.{replay_from, opening_state}
use Rattle.cas_slot.specs.declared.message.Reply.{Reply}
use Rattle.cas_slot.specs.Contents.{Contents}
use Rattle.cas_slot.specs.Shelf.{Left}
use Rattle.cas_slot.specs.Table.{IsReplyByTable, accepted_at}
use Rattle.cas_acceptor.specs.Acceptor.{LeavesByTable}
use Rattle.cas_record.specs.declared.answer.Answer.TheVariants as answer
use Rattle.cas_record.specs.declared.mark.Mark.TheVariants.{Begun, Proposed, Floor}
use Rattle.cas_record.specs.Logs.Happening.{Happening, Marked, Asked, Took, Dropped, Drew, marks_of}
use Rattle.cas_record.specs.Legal.{IsEnded, IsAcked, HasFloor}
use Rattle.cas_record.specs.Logs.Lawful.{Cluster, ClusterMeets, Lawful, MayPropose, MayAck, MayEnd}
use Rattle.cas_record.specs.Logs.Orderly.{Orderly, MayDraw, IsAboveFloors, IsClear}
use Rattle.cas_record.specs.Places.{Stands, At}
use Rattle.cas_protocol.specs.Acceptors.{LogTells, IsMadeState, IsEmptyAt, IsAskState, IsElsewhere, IsLeft, done_log, answered_log}
use Rattle.cas_protocol.specs.Desks.{IsRiding, IsPastAll}
use Rattle.cas_protocol.specs.Held.{IsHeld}
use Rattle.cas_protocol.specs.Proposers.{IsReplyTrue, AreRepliesTrue, IsOpenRound, IsProposedIn, AreFloorsClear, AllRide, state_read}

-- the log is lawful and each happening has its reason, and it tells what the acceptor keeps
pub record LogTellsKept (cluster : Cluster) (log : List Happening) (id : ℕ) (kept : Contents) : Type 0 where
  pub lawful : Lawful cluster log
  pub orderly : Orderly cluster log
  pub tells : LogTells log id kept

-- An acceptor keeps what the log tells, and handles a request that it was asked. Then it keeps what the log tells once it goes on with
-- what the acceptor did, and once it also goes on with its vote and its reply.
abbrev pub AcceptorsAnswerLawfully : Type 0
AcceptorsAnswerLawfully = (cluster : Cluster) (log : List Happening) (old new : Contents) (request : Request) (reply : Reply)
    → LogTellsKept cluster log request.to old → Stands (Asked request) log → IsAskState (marks_of log) request.ask → request.from ≤ 16
    → IsReplyByTable request.to old request reply new
    → LogTellsKept cluster (done_log request.to old request reply.tell log) request.to new
    × LogTellsKept cluster (answered_log request.to old request reply log) request.to new

-- The reply that an acceptor makes then is true: it tells what is so, and a state that it tells is that of a proposal.
abbrev pub RepliesAreTrue : Type 0
RepliesAreTrue = (cluster : Cluster) (log : List Happening) (old new : Contents) (request : Request) (reply : Reply)
    → LogTellsKept cluster log request.to old → Stands (Asked request) log → IsAskState (marks_of log) request.ask → request.from ≤ 16 → request.to < 64
    → IsReplyByTable request.to old request reply new → IsReplyTrue (answered_log request.to old request reply log) reply

-- what is known still is once the log goes on with this: that a state is that of a proposal, that a request asks for such a one, that a
-- reply is true; and that a promise rode along, unless a floor is made above what it read
pub record StaysKnown (cluster : Cluster) (h : Happening) (log : List Happening) : Type 0 where
  pub made : (key : List ℕ) (ballot : Ballot) (era : ℕ) (state : State) → IsMadeState (marks_of log) key ballot era state → IsMadeState (marks_of (h ∷ log)) key ballot era state
  pub asked : (question : Ask) → IsAskState (marks_of log) question → IsAskState (marks_of (h ∷ log)) question
  pub replied : (reply : Reply) → IsReplyTrue log reply → IsReplyTrue (h ∷ log) reply
  pub rides : (key : List ℕ) (era : ℕ) (ready : Ready) → ((floor : Ballot) (state : State) → h ≡ Marked (Floor key floor state) → BallotAtMost floor ready.read)
      → IsRiding cluster log key era ready → IsRiding cluster (h ∷ log) key era ready

-- Whatever happens lawfully, and however late a frame arrives, what it bears is still so.
abbrev pub WhatIsKnownStays : Type 0
WhatIsKnownStays = (cluster : Cluster) (h : Happening) (log : List Happening) → Lawful cluster (h ∷ log) → StaysKnown cluster h log

-- What others do changes nothing of what the log tells of an acceptor, be it up or stopped.
abbrev pub OthersChangeNothing : Type 0
OthersChangeNothing = (cluster : Cluster) (h : Happening) (log : List Happening) (id : ℕ) → Lawful cluster (h ∷ log) → IsElsewhere id h
    → ((kept : Contents) → LogTells log id kept → LogTells (h ∷ log) id kept) × ((kept : Contents) (left : Left) → IsLeft log id kept left → IsLeft (h ∷ log) id kept left)

-- An acceptor that stops within a request leaves what the log tells or what the answer would make of it; and whichever a later crash
-- leaves, the log goes on with it lawfully, although nobody was answered.
abbrev pub AcceptorsStopLawfully : Type 0
AcceptorsStopLawfully = (cluster : Cluster) (log : List Happening) (id : ℕ) (kept : Contents) → LogTellsKept cluster log id kept
    → ((request : Request) (left : Left) → Stands (Asked request) log → request.to ≡ id → IsAskState (marks_of log) request.ask → request.from ≤ 16
    → LeavesByTable kept request left → IsLeft log id kept left)
    × ((new : Contents) → IsLeft log id kept (Ok new) → (events_kept : List Happening) × LogTellsKept cluster (events_kept ++ log) id new × (marks_of (events_kept ++ log) ≡ marks_of log))

-- What an acceptor took for a key stays: as long as it did not remove the slot at a tombstone at or above it, the key's accepted ballot
-- is at least that.
abbrev pub WhatWasTakenStays : Type 0
WhatWasTakenStays = (cluster : Cluster) (log : List Happening) (id : ℕ) (kept : Contents) (key : List ℕ) (ballot ride : Ballot) → LogTellsKept cluster log id kept
    → Stands (Took id key ballot ride) log → ((tomb : Ballot) → Stands (Dropped id key tomb) log → BallotLess tomb ballot)
    → BallotAtMost ballot (accepted_ballot (accepted_at kept key))

-- what is read is the state that the history up to the proposal's link leaves
abbrev pub IsStateRead : List Happening → Proposal → Option Accepted → Type 0
IsStateRead log p read = state_read read ≡ replay_from (opening_state p.key (marks_of log)) (chain_of p.key (link_of (marks_of log) p) (marks_of log))

-- A proposer whose prepare phase has a quorum may propose at its ballot what it makes of the state that it read: the one of the
-- greatest ballot that those who promised told, which is the state that the history leaves from which the proposal goes on.
abbrev pub ProposersProposeLawfully : Type 0
ProposersProposeLawfully = (cluster : Cluster) → ClusterMeets cluster → (log : List Happening) (p : Proposal) (replies : List Reply) (read : Option Accepted)
    → Lawful cluster log → Orderly cluster log → IsOpenRound log p.caller p.call p.key p.ballot p.era
    → AreRepliesTrue log replies → p.prepared_by ≡ promisers_of p.ballot replies → cluster.prepares p.era p.prepared_by ≡ true
    → IsRead p.ballot replies read → p.read ≡ accepted_ballot read → AreFloorsClear cluster log p.key p.ballot p.prepared_by
    → MayPropose cluster log p × IsStateRead log p read

-- What a proposal makes of the state from which it goes on is the state of its ballot: the one that acceptors may be asked to accept.
abbrev pub ProposalsMakeStates : Type 0
ProposalsMakeStates = (cluster : Cluster) (log : List Happening) (p : Proposal) (program : List Clause) (state : State) (outcome : Outcome)
    → Lawful cluster log → MayPropose cluster log p → Stands (Begun p.caller p.call p.key program) (marks_of log)
    → state ≡ replay_from (opening_state p.key (marks_of log)) (chain_of p.key (link_of (marks_of log) p) (marks_of log))
    → outcome ≡ outcome_of program state
    → IsMadeState (marks_of (Marked (Proposed p) ∷ log)) p.key p.ballot p.era outcome.state

-- A proposer whose accept phase has a quorum may have its proposal acknowledged by those that accepted.
abbrev pub ProposersCountLawfully : Type 0
ProposersCountLawfully = (cluster : Cluster) (log : List Happening) (a : Acknowledgment) (replies : List Reply)
    → Lawful cluster log → Orderly cluster log → IsProposedIn log a
    → AreRepliesTrue log replies → a.by ≡ accepters_of a.ballot replies → cluster.accepts a.era a.by ≡ true
    → MayAck cluster log a

-- Where whoever was asked to accept a proposal was asked to promise a later ballot by the same act, and a prepare quorum accepted, that
-- promise rode along: it bears the state of the proposal.
abbrev pub PromisesRideLawfully : Type 0
PromisesRideLawfully = (cluster : Cluster) (log : List Happening) (key : List ℕ) (era : ℕ) (ready : Ready) (replies : List Reply)
    → Lawful cluster log → Orderly cluster log → Stands (Drew ready.read key era) log → IsMadeState (marks_of log) key ready.read era ready.state
    → AreRepliesTrue log replies → ready.by ≡ accepters_of ready.read replies → cluster.prepares era ready.by ≡ true
    → BallotLess ready.read ready.ballot → AllRide log key ready.read ready.ballot
    → ((floor : Ballot) → HasFloor key floor (marks_of log) → BallotAtMost floor ready.read)
    → IsRiding cluster log key era ready

-- A proposer with a promise that rode along may propose at its ballot what it makes of the state that was accepted with it, without
-- asking anybody; that state is the one that the history leaves from which the proposal goes on.
abbrev pub RidersProposeLawfully : Type 0
RidersProposeLawfully = (cluster : Cluster) (log : List Happening) (p : Proposal) (ready : Ready)
    → Lawful cluster log → Orderly cluster log → IsOpenRound log p.caller p.call p.key p.ballot p.era → IsRiding cluster log p.key p.era ready
    → p.ballot ≡ ready.ballot → p.read ≡ ready.read → p.prepared_by ≡ ready.by
    → MayPropose cluster log p
    × (ready.state ≡ replay_from (opening_state p.key (marks_of log)) (chain_of p.key (link_of (marks_of log) p) (marks_of log)))

-- The ballot after its counter is one that a proposer may draw, whatever it drew before and wherever it stopped.
abbrev pub ProposersDrawLawfully : Type 0
ProposersDrawLawfully = (cluster : Cluster) (log : List Happening) (proposer era counter : ℕ) (key : List ℕ) → IsPastAll cluster log proposer era counter key
    → MayDraw cluster log (record { counter = counter + 1; proposer = proposer }) key era

-- Once its proposal is acknowledged, a call that is open may be answered Done, with what its program made of the state from which its
-- proposal went on.
abbrev pub CallsAreDoneLawfully : Type 0
CallsAreDoneLawfully = (cluster : Cluster) (log older : List Happening) (p : Proposal) (program : List Clause) (state : State) (outcome : Outcome)
    → Lawful cluster log → At (Marked (Proposed p)) older log → IsAcked p.key p.ballot (marks_of log) → (IsEnded p.caller p.call (marks_of log) → ⊥)
    → Stands (Begun p.caller p.call p.key program) (marks_of older)
    → state ≡ replay_from (opening_state p.key (marks_of older)) (chain_of p.key (link_of (marks_of older) p) (marks_of older))
    → outcome ≡ outcome_of program state
    → MayEnd (marks_of log) p.caller p.call (answer.Done outcome.state outcome.took p.ballot)

-- The empty state that was acknowledged may be made a floor of its key. It is the state of the floor then, and whoever took it is clear
-- of what was below it.
abbrev pub TombstonesAreFloors : Type 0
TombstonesAreFloors = (cluster : Cluster) (log : List Happening) (key : List ℕ) (tomb : Ballot)
    → Lawful cluster log → IsEmptyAt (marks_of log) key tomb → IsAcked key tomb (marks_of log)
    → Lawful cluster (Marked (Floor key tomb Empty) ∷ log)
    × (IsEmptyAt (marks_of (Marked (Floor key tomb Empty) ∷ log)) key tomb
    × ((acceptor : ℕ) (ride : Ballot) → Stands (Took acceptor key tomb ride) log → IsClear (Marked (Floor key tomb Empty) ∷ log) acceptor key tomb))

-- A ballot that was acknowledged is held by a quorum until a floor is made at or above it.
abbrev pub WhatIsAckedIsHeld : Type 0
WhatIsAckedIsHeld = (cluster : Cluster) → ClusterMeets cluster → (log : List Happening) (key : List ℕ) (ballot : Ballot) → Lawful cluster log → Orderly cluster log
    → IsAcked key ballot (marks_of log) → IsAboveFloors (marks_of log) key ballot → IsHeld cluster log key ballot

-- What is settled of a key is held by a quorum, unless nothing is, or the last that settled is a floor.
abbrev pub WhatIsSettledIsHeld : Type 0
WhatIsSettledIsHeld = (cluster : Cluster) → ClusterMeets cluster → (log : List Happening) (key : List ℕ) → Lawful cluster log → Orderly cluster log
    → IsAboveFloors (marks_of log) key (top_of key (marks_of log)) → (settled_of key (marks_of log) ≡ []) ⊎ IsHeld cluster log key (top_of key (marks_of log))
