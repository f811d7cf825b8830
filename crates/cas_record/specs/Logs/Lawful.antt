-- The rules of the protocol: what may happen next in a log. Logs are read newest first.
use Rattle.std.specs.Prelude.{◌≡◌, ⊤, ℕ, suc, ◌<◌, ◌≤◌, Bool, true, ◌&&◌, ◌==◌, if◌then◌else◌, List, [], ◌∷◌, ◌⊎◌}
use Rattle.std.specs.Ordering.{is_lt}
use Rattle.cas_ballot.specs.declared.ballot.Ballot.{Ballot}
use Rattle.cas_ballot.specs.Ballot.{ballot_cmp, zero_ballot, greater_of, BallotAtMost, BallotLess}
use Rattle.cas_ballot.specs.Members.{has_member}
use Rattle.cas_change.specs.declared.state.State.{State}
use Rattle.cas_change.specs.declared.outcome.Took.{Took as Who}
use Rattle.cas_change.specs.Outcome.{outcome_of}
use Rattle.cas_quorum.specs.Quorum.{Shared}
use Rattle.cas_record.specs.declared.answer.Answer.{Answer}
use Rattle.cas_record.specs.declared.answer.Answer.TheVariants as answer
use Rattle.cas_record.specs.declared.mark.Mark.{Mark}
use Rattle.cas_record.specs.declared.mark.Mark.TheVariants.{Begun, Proposed, Voted, Acked, Floor, EraEntered, Ended, Harmed, Told}
use Rattle.cas_record.specs.declared.mark.Proposal.{Proposal}
use Rattle.cas_record.specs.declared.mark.Acknowledgment.{Acknowledgment}
use Rattle.cas_record.specs.Places.{At, Stands}
use Rattle.cas_record.specs.Histories.Chain.{is_key, link_of, entry_of, chain_of}
use Rattle.cas_record.specs.Histories.Replay.{replay_from, opening_state}
use Rattle.cas_record.specs.Legal.{calls_of, IsProposed, HasProposal, HasFloor, IsFirstProposal, IsFirstEnd, tells_refused, tells_unsettled, harms_due, harms_of, HasVotes, IsAcked, IsFloor}
use Rattle.cas_record.specs.Logs.Happening.{Happening, Marked, Promised, Took, Dropped, Entered, marks_of}

-- ---- the cluster
-- the proposers, numbered from 0 up to the greatest, and the members and the quorums of each era
pub record Cluster : Type 0 where
  pub last_proposer : ℕ
  pub members : ℕ → List ℕ
  pub prepares : ℕ → List ℕ → Bool
  pub accepts : ℕ → List ℕ → Bool

-- a prepare quorum and an accept quorum of one era, or of two eras that follow each other, share an acceptor
abbrev pub ClusterMeets : Cluster → Type 0
ClusterMeets cluster = (m n : ℕ) → m ≤ suc n → n ≤ suc m → (prepared accepted : List ℕ)
    → cluster.prepares m prepared ≡ true → cluster.accepts n accepted ≡ true → Shared prepared accepted

-- the second cluster has the same proposers, and in each era all members and quorums of the first, and maybe more
pub record IsWidened (old new : Cluster) : Type 0 where
  pub last_proposer : new.last_proposer ≡ old.last_proposer
  pub members : (era acceptor : ℕ) → has_member (old.members era) acceptor ≡ true → has_member (new.members era) acceptor ≡ true
  pub prepares : (era : ℕ) (by : List ℕ) → old.prepares era by ≡ true → new.prepares era by ≡ true
  pub accepts : (era : ℕ) (by : List ℕ) → old.accepts era by ≡ true → new.accepts era by ≡ true

-- ---- acceptors
-- the acceptor had seen the ballot for the key: it promised it, took it, or let it ride on one that it took
pub data HasSeen (log : List Happening) (acceptor : ℕ) (key : List ℕ) (ballot : Ballot) : Type 0 where
  in_promise : (told : Ballot) → Stands (Promised acceptor key ballot told) log → HasSeen log acceptor key ballot
  in_take : (ride : Ballot) → Stands (Took acceptor key ballot ride) log → HasSeen log acceptor key ballot
  in_ride : (taken : Ballot) → Stands (Took acceptor key taken ballot) log → HasSeen log acceptor key ballot

-- the acceptor had seen no ballot of the key above this one
abbrev pub HasSeenAtMost : List Happening → ℕ → List ℕ → Ballot → Type 0
HasSeenAtMost log acceptor key ballot = (seen : Ballot) → HasSeen log acceptor key seen → BallotAtMost seen ballot

-- a floor of the key, below the upper ballot, is at or above the lower
pub record IsFloored (key : List ℕ) (lower upper : Ballot) (marks : List Mark) : Type 0 where
  pub floor : Ballot
  pub state : State
  pub stands : Stands (Floor key floor state) marks
  pub above : BallotAtMost lower floor
  pub below : BallotLess floor upper

-- a ballot may be promised where none above it was seen; what the acceptor took is then told, or is under a floor
pub record MayPromise (log : List Happening) (acceptor : ℕ) (key : List ℕ) (ballot told : Ballot) : Type 0 where
  pub seen : HasSeenAtMost log acceptor key ballot
  pub tells : {taken ride : Ballot} → Stands (Took acceptor key taken ride) log → BallotAtMost taken told ⊎ IsFloored key taken ballot (marks_of log)

-- the key's ballot was proposed, or is one of its floors, with which a history may open
abbrev pub IsMade : List ℕ → Ballot → List Mark → Type 0
IsMade key ballot marks = HasProposal key ballot marks ⊎ HasFloor key ballot marks

-- a ballot may be taken where it was made and none above it was seen
pub record MayTake (log : List Happening) (acceptor : ℕ) (key : List ℕ) (ballot : Ballot) : Type 0 where
  pub made : IsMade key ballot (marks_of log)
  pub seen : HasSeenAtMost log acceptor key ballot

-- a slot as the log tells it: the ballot that it promised, and the ballot that it accepted
pub record SlotTold : Type 0 where
  pub promise : Ballot
  pub accepted : Ballot

-- whether it is this acceptor's slot of this key
abbrev pub is_slot : ℕ → List ℕ → ℕ → List ℕ → Bool
is_slot acceptor key a k = (a == acceptor) && is_key k key

-- the slot after it promised a ballot: one that has seen it stays as it is
abbrev pub promised_slot : SlotTold → Ballot → SlotTold
promised_slot slot ballot = if is_lt (ballot_cmp (greater_of slot.promise slot.accepted) ballot) then record slot { promise = ballot } else slot

abbrev pub slot_told : List Happening → ℕ → List ℕ → SlotTold
slot_told [] acceptor key = record { promise = zero_ballot; accepted = zero_ballot }
slot_told (Promised a k ballot told ∷ older) acceptor key =
    if is_slot acceptor key a k then promised_slot (slot_told older acceptor key) ballot else slot_told older acceptor key
slot_told (Took a k ballot ride ∷ older) acceptor key = if is_slot acceptor key a k then record { promise = ride; accepted = ballot } else slot_told older acceptor key
slot_told (Dropped a k tombstone ∷ older) acceptor key =
    if is_slot acceptor key a k then record { promise = zero_ballot; accepted = zero_ballot } else slot_told older acceptor key
slot_told (other ∷ older) acceptor key = slot_told older acceptor key

-- a slot may be removed where it holds a floor of its key and has promised nothing above it
pub record MayDrop (log : List Happening) (acceptor : ℕ) (key : List ℕ) (tombstone : Ballot) : Type 0 where
  pub state : State
  pub floor : Stands (Floor key tombstone state) (marks_of log)
  pub holds : (slot_told log acceptor key).accepted ≡ tombstone
  pub promise : BallotAtMost (slot_told log acceptor key).promise tombstone

-- ---- opening floors
-- nothing happened but that floors were marked and taken
abbrev pub AreFirst : List Happening → Type 0
AreFirst [] = ⊤
AreFirst (Marked (Floor key floor state) ∷ older) = AreFirst older
AreFirst (Took acceptor key ballot ride ∷ older) = AreFirst older
AreFirst (other ∷ older) = ⊥

-- the history of the key opened with this floor: it was marked before all that is no floor
pub record HasOpening (key : List ℕ) (floor : Ballot) (log : List Happening) : Type 0 where
  pub state : State
  pub older : List Happening
  pub at : At (Marked (Floor key floor state)) older log
  pub first : AreFirst older

-- a floor of the key is above the ballot
pub record HasFloorAbove (key : List ℕ) (ballot : Ballot) (marks : List Mark) : Type 0 where
  pub floor : Ballot
  pub state : State
  pub stands : Stands (Floor key floor state) marks
  pub above : BallotLess ballot floor

-- ---- eras
-- the proposer is in the era; all are in era 0 from the beginning
abbrev pub IsIn : List Happening → ℕ → ℕ → Type 0
IsIn log proposer era = (era ≡ 0) ⊎ Stands (Entered proposer era) log

-- all proposers are marked as in the era
abbrev pub AllEntered : Cluster → ℕ → List Mark → Type 0
AllEntered cluster era marks = (proposer : ℕ) → proposer ≤ cluster.last_proposer → Stands (EraEntered proposer era) marks

-- the key was proposed anew in the era, after all proposers had entered it, and that was acknowledged
pub record IsRescanned (cluster : Cluster) (era : ℕ) (key : List ℕ) (marks : List Mark) : Type 0 where
  pub proposal : Proposal
  pub older : List Mark
  pub proposed : At (Proposed proposal) older marks
  pub same_key : proposal.key ≡ key
  pub same_era : proposal.era ≡ era
  pub entered : AllEntered cluster era older
  pub acked : IsAcked key proposal.ballot marks

-- a floor of the key is at or above all its proposals of earlier eras
pub record IsCollected (era : ℕ) (key : List ℕ) (marks : List Mark) : Type 0 where
  pub floor : Ballot
  pub state : State
  pub stands : Stands (Floor key floor state) marks
  pub above : {p : Proposal} → Stands (Proposed p) marks → p.key ≡ key → p.era < era → BallotAtMost p.ballot floor

-- the era after `left` may be entered once, by a proposer that is known, when all are in `left` and each key that was
-- proposed in an earlier era is rescanned in `left` or collected; and so is, from era 1 on, each key with an opening floor
pub record MayLeaveEra (cluster : Cluster) (log : List Happening) (proposer left : ℕ) : Type 0 where
  pub known : proposer ≤ cluster.last_proposer
  pub once : Stands (Entered proposer (suc left)) log → ⊥
  pub all_in : 0 < left → AllEntered cluster left (marks_of log)
  pub stones : {p : Proposal} → Stands (Proposed p) (marks_of log) → p.era < left
      → IsRescanned cluster left p.key (marks_of log) ⊎ IsCollected left p.key (marks_of log)
  pub openings : {key : List ℕ} {floor : Ballot} → HasOpening key floor log → 0 < left
      → IsRescanned cluster left key (marks_of log) ⊎ HasFloorAbove key floor (marks_of log)

pub record MayEnter (cluster : Cluster) (log : List Happening) (proposer era : ℕ) : Type 0 where
  pub left : ℕ
  pub next : era ≡ suc left
  pub may_leave : MayLeaveEra cluster log proposer left

-- ---- proposals
-- the acceptor granted the ballot to a proposer that was in the era: it promised it and told at most what was read, or
-- the ballot rode on what was read
pub data Granted (log : List Happening) (acceptor : ℕ) (p : Proposal) : Type 0 where
  by_promise : (told : Ballot) (place : Stands (Promised acceptor p.key p.ballot told) log)
      → BallotAtMost told p.read → IsIn place.older p.ballot.proposer p.era → Granted log acceptor p
  by_ride : (place : Stands (Took acceptor p.key p.read p.ballot) log) → IsIn place.older p.ballot.proposer p.era → Granted log acceptor p

-- a proposer may propose what it read, in the era in which it is, once a prepare quorum granted its ballot
pub record MayPropose (cluster : Cluster) (log : List Happening) (p : Proposal) : Type 0 where
  pub first : IsFirstProposal p (marks_of log)
  pub above_read : BallotLess p.read p.ballot
  pub read_stands : (p.read ≡ zero_ballot) ⊎ IsMade p.key p.read (marks_of log)
  pub above_floors : {floor : Ballot} {state : State} → Stands (Floor p.key floor state) (marks_of log) → BallotLess floor p.ballot
  pub quorum : cluster.prepares p.era p.prepared_by ≡ true
  pub granted : (acceptor : ℕ) → has_member p.prepared_by acceptor ≡ true → Granted log acceptor p
  pub known : p.ballot.proposer ≤ cluster.last_proposer
  pub is_in : IsIn log p.ballot.proposer p.era
  pub not_beyond : Stands (Entered p.ballot.proposer (suc p.era)) log → ⊥

-- ---- acknowledgments and answers
-- a vote tells what the acceptor took
pub record MayVote (log : List Happening) (acceptor : ℕ) (key : List ℕ) (ballot : Ballot) : Type 0 where
  pub ride : Ballot
  pub taken : Stands (Took acceptor key ballot ride) log

-- a ballot may be acknowledged by the votes of an accept quorum of its era
pub record MayAck (cluster : Cluster) (log : List Happening) (a : Acknowledgment) : Type 0 where
  pub votes : HasVotes a (marks_of log)
  pub quorum : cluster.accepts a.era a.by ≡ true

-- a call may be answered Done with what its program made of the history that its proposal goes on from
pub record MayBeDone (marks : List Mark) (caller call : ℕ) (state : State) (took : Who) (ballot : Ballot) : Type 0 where
  pub proposal : Proposal
  pub older : List Mark
  pub proposed : At (Proposed proposal) older marks
  pub same_caller : proposal.caller ≡ caller
  pub same_call : proposal.call ≡ call
  pub same_ballot : proposal.ballot ≡ ballot
  pub acked : IsAcked proposal.key ballot marks
  pub outcome : outcome_of (entry_of older proposal).program
      (replay_from (opening_state proposal.key marks) (chain_of proposal.key (link_of older proposal) older))
      ≡ record { state = state; took = took }

-- what an answer tells must be so
abbrev pub MayAnswer : List Mark → ℕ → ℕ → Answer → Type 0
MayAnswer marks caller call (answer.Done state took ballot) = MayBeDone marks caller call state took ballot
MayAnswer marks caller call other = ⊤

pub record MayEnd (marks : List Mark) (caller call : ℕ) (answer : Answer) : Type 0 where
  pub first : IsFirstEnd caller call marks
  pub answered : MayAnswer marks caller call answer
  pub refused : tells_refused answer ≡ true → IsProposed caller call marks → ⊥
  pub unsettled : tells_unsettled answer ≡ true → IsProposed caller call marks
  pub harmed : harms_due answer ≤ harms_of caller call marks

-- a proposer may be marked, once, as in the era that it is in
pub record MayMarkEra (log : List Happening) (proposer era : ℕ) : Type 0 where
  pub entered : Stands (Entered proposer era) log
  pub once : Stands (EraEntered proposer era) (marks_of log) → ⊥

-- ---- the whole
-- the mark may be made next
abbrev pub MayMark : Cluster → List Happening → Mark → Type 0
MayMark cluster log (Begun caller call key program) = call ≡ suc (calls_of caller (marks_of log))
MayMark cluster log (Proposed p) = MayPropose cluster log p
MayMark cluster log (Voted acceptor key ballot) = MayVote log acceptor key ballot
MayMark cluster log (Acked a) = MayAck cluster log a
MayMark cluster log (Floor key ballot state) = IsFloor key ballot state (marks_of log)
MayMark cluster log (EraEntered proposer era) = MayMarkEra log proposer era
MayMark cluster log (Ended caller call rounds answer) = MayEnd (marks_of log) caller call answer
MayMark cluster log (Harmed caller call down) = ⊤
MayMark cluster log (Told asked answer) = ⊤

-- it may happen next; no rule speaks of what is drawn, asked and answered
abbrev pub May : Cluster → List Happening → Happening → Type 0
May cluster log (Marked mark) = MayMark cluster log mark
May cluster log (Promised acceptor key ballot told) = MayPromise log acceptor key ballot told
May cluster log (Took acceptor key ballot ride) = MayTake log acceptor key ballot
May cluster log (Dropped acceptor key tombstone) = MayDrop log acceptor key tombstone
May cluster log (Entered proposer era) = MayEnter cluster log proposer era
May cluster log other = ⊤

-- each happening was allowed by what had happened before
abbrev pub Lawful : Cluster → List Happening → Type 0
Lawful cluster [] = ⊤
Lawful cluster (happening ∷ older) = Lawful cluster older × May cluster older happening
