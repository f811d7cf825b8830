-- What is true of every record and every log. Each of these is the contract of a function in `laws`.
use Rattle.std.specs.Prelude.{◌≡◌, ℕ, suc, ◌<◌, true, List, [], ◌∷◌, ◌⊎◌}
use Rattle.cas_ballot.specs.declared.ballot.Ballot.{Ballot}
use Rattle.cas_ballot.specs.Ballot.{zero_ballot, BallotAtMost, BallotLess}
use Rattle.cas_ballot.specs.Members.{has_member}
use Rattle.cas_slot.specs.declared.message.Request.{Request}
use Rattle.cas_slot.specs.Message.{tag_of}
use Rattle.cas_slot.specs.Rules.{key_of}
use Rattle.cas_record.specs.declared.mark.Mark.{Mark}
use Rattle.cas_record.specs.declared.mark.Mark.TheVariants.{Proposed}
use Rattle.cas_record.specs.declared.mark.Proposal.{Proposal}
use Rattle.cas_record.specs.Places.{Stands, IsOlderPart, IsPrefix}
use Rattle.cas_record.specs.Histories.Chain.{has_opening, link_of, chain_of, settled_of}
use Rattle.cas_record.specs.Legal.{HasFloor, IsLegal}
use Rattle.cas_record.specs.Logs.Happening.{Happening, Promised, Took, Dropped, Entered, Drew, marks_of}
use Rattle.cas_record.specs.Logs.Lawful.{Cluster, ClusterMeets, IsWidened, HasOpening, HasFloorAbove, AllEntered, IsRescanned, IsCollected, MayLeaveEra, MayPropose, Granted, Lawful, MayVote}
use Rattle.cas_record.specs.Logs.Listing.{WasAbsent}
use Rattle.cas_record.specs.Logs.Orderly.{IsRoundAsk, WasAsked, IsClear, IsNoneOrAbove, WasRead, Orderly}

-- the proposal was chosen: an accept quorum of its era took its ballot
pub record IsChosen (cluster : Cluster) (log : List Happening) (p : Proposal) : Type 0 where
  pub proposed : Stands (Proposed p) (marks_of log)
  pub by : List ℕ
  pub quorum : cluster.accepts p.era by ≡ true
  pub taken : (acceptor : ℕ) → has_member by acceptor ≡ true → MayVote log acceptor p.key p.ballot

-- the history of a chosen ballot begins that of each greater proposal of its key
abbrev pub ChainsExtend : Type 0
ChainsExtend = (cluster : Cluster) → ClusterMeets cluster → (log : List Happening) → Lawful cluster log
    → (chosen p : Proposal) → IsChosen cluster log chosen → Stands (Proposed p) (marks_of log) → p.key ≡ chosen.key → BallotLess chosen.ballot p.ballot
    → IsPrefix (chain_of p.key chosen.ballot (marks_of log)) (chain_of p.key p.ballot (marks_of log))

-- the history up to an opening floor is empty, in every list of marks
abbrev pub OpeningsAreEmpty : Type 0
OpeningsAreEmpty = (marks : List Mark) (key : List ℕ) (ballot : Ballot) → has_opening key ballot marks ≡ true → chain_of key ballot marks ≡ []

-- what was settled at an earlier time begins what is settled
abbrev pub SettledGrows : Type 0
SettledGrows = (cluster : Cluster) → ClusterMeets cluster → (log : List Happening) → Lawful cluster log
    → (earlier : List Mark) → IsOlderPart earlier (marks_of log) → (key : List ℕ) → IsPrefix (settled_of key earlier) (settled_of key (marks_of log))

-- the marks of a lawful log are a legal record
abbrev pub LawfulIsLegal : Type 0
LawfulIsLegal = (cluster : Cluster) → ClusterMeets cluster → (log : List Happening) → Lawful cluster log → IsLegal (marks_of log)

-- a legal record was legal at each earlier time
abbrev pub EarlierIsLegal : Type 0
EarlierIsLegal = (marks earlier : List Mark) → IsOlderPart earlier marks → IsLegal marks → IsLegal earlier

-- ---- what the reasons of happenings give
-- a ballot is drawn for one key and in one era
abbrev pub DrawnOnce : Type 0
DrawnOnce = (cluster : Cluster) (log : List Happening) → Orderly cluster log → (ballot : Ballot) (key k : List ℕ) (era e : ℕ)
    → Stands (Drew ballot key era) log → Stands (Drew ballot k e) log → (key ≡ k) × (era ≡ e)

-- what an acceptor may answer of a round is above each tombstone at which it removed the key's slot
abbrev pub AnswersAboveRemovals : Type 0
AnswersAboveRemovals = (cluster : Cluster) (log : List Happening) → Orderly cluster log → (acceptor : ℕ) (request : Request)
    → WasAsked log acceptor request → IsRoundAsk request.ask
    → (tombstone : Ballot) → Stands (Dropped acceptor (key_of request.ask) tombstone) log → BallotLess tombstone (tag_of request.ask)

-- a ballot that was drawn and that an acceptor promised, or let ride on what was read, is granted
pub record DrawsAreGranted : Type 0 where
  pub promised : (cluster : Cluster) (log : List Happening) → Orderly cluster log → (acceptor : ℕ) (p : Proposal) (told : Ballot) → Stands (Drew p.ballot p.key p.era) log
      → Stands (Promised acceptor p.key p.ballot told) log → BallotAtMost told p.read → Granted log acceptor p
  pub rode : (cluster : Cluster) (log : List Happening) → Orderly cluster log → (acceptor : ℕ) (p : Proposal) → Stands (Drew p.ballot p.key p.era) log
      → (p.ballot ≡ zero_ballot → ⊥) → Stands (Took acceptor p.key p.read p.ballot) log → Granted log acceptor p

-- an acceptor that is clear of what was below a floor tells a ballot above it nothing, or a ballot at or above the floor
abbrev pub FloorsAreTold : Type 0
FloorsAreTold = (cluster : Cluster) (log : List Happening) → Lawful cluster log → Orderly cluster log → (acceptor : ℕ) (key : List ℕ) (floor ballot told : Ballot)
    → IsClear log acceptor key floor → Stands (Promised acceptor key ballot told) log → BallotLess floor ballot → IsNoneOrAbove floor told

-- a proposal whose acceptors are clear of the floors below it goes on from what it read, or, where it read nothing, from a
-- floor
abbrev pub LinksAreRead : Type 0
LinksAreRead = (cluster : Cluster) (log : List Happening) → Lawful cluster log → Orderly cluster log → (p : Proposal) → WasRead log p
    → ((acceptor : ℕ) (floor : Ballot) → has_member p.prepared_by acceptor ≡ true → HasFloor p.key floor (marks_of log) → BallotLess floor p.ballot → IsClear log acceptor p.key floor)
    → (link_of (marks_of log) p ≡ p.read) ⊎ ((p.read ≡ zero_ballot) × HasFloor p.key (link_of (marks_of log) p) (marks_of log))

-- the history of the key opened with this floor, and a quorum of either kind of the first era took it then
pub record HistoryIsOpened (cluster : Cluster) (log : List Happening) (key : List ℕ) (floor : Ballot) : Type 0 where
  pub opening : HasOpening key floor log
  pub some : BallotLess zero_ballot floor
  pub by : List ℕ
  pub prepares : cluster.prepares 0 by ≡ true
  pub accepts : cluster.accepts 0 by ≡ true
  pub took : (acceptor : ℕ) → has_member by acceptor ≡ true → Stands (Took acceptor key floor zero_ballot) log

-- a proposal that read nothing does not go on from the floor with which the history of its key opened
abbrev pub OpeningsAreRead : Type 0
OpeningsAreRead = (cluster : Cluster) → ClusterMeets cluster → (log : List Happening) → Lawful cluster log → Orderly cluster log → (p : Proposal) → MayPropose cluster log p → p.read ≡ zero_ballot
    → (floor : Ballot) → HistoryIsOpened cluster log p.key floor → link_of (marks_of log) p ≡ floor → ⊥

-- ---- eras
-- once all proposers had entered an era, each key that an accept quorum of it then had no slot of, or that was rescanned,
-- has its stepping stone where it was proposed in an earlier era
abbrev pub ListingsGiveStones : Type 0
ListingsGiveStones = (cluster : Cluster) → ClusterMeets cluster → (log : List Happening) → Lawful cluster log → (era : ℕ) (by : List ℕ) → AllEntered cluster era (marks_of log)
    → cluster.accepts era by ≡ true
    → ((acceptor : ℕ) (key : List ℕ) → has_member by acceptor ≡ true → IsRescanned cluster era key (marks_of log) ⊎ WasAbsent cluster era log acceptor key)
    → (p : Proposal) → Stands (Proposed p) (marks_of log) → p.era < era → IsRescanned cluster era p.key (marks_of log) ⊎ IsCollected era p.key (marks_of log)

-- and so has each key whose history opened with a floor: it was rescanned in the era, or has a later floor
abbrev pub ListingsGiveOpeningStones : Type 0
ListingsGiveOpeningStones = (cluster : Cluster) → ClusterMeets cluster → (log : List Happening) → Lawful cluster log → Orderly cluster log → (era : ℕ) (by : List ℕ) → 0 < era
    → AllEntered cluster era (marks_of log) → cluster.accepts era by ≡ true
    → ((acceptor : ℕ) (key : List ℕ) → has_member by acceptor ≡ true → IsRescanned cluster era key (marks_of log) ⊎ WasAbsent cluster era log acceptor key)
    → (key : List ℕ) (floor : Ballot) → HistoryIsOpened cluster log key floor → IsRescanned cluster era key (marks_of log) ⊎ HasFloorAbove key floor (marks_of log)

-- what may be left may be left later, as long as the proposer has not left it
abbrev pub LeavingStays : Type 0
LeavingStays = (cluster : Cluster) (happening : Happening) (log : List Happening) → Lawful cluster (happening ∷ log) → (proposer left : ℕ) → (happening ≡ Entered proposer (suc left) → ⊥)
    → MayLeaveEra cluster log proposer left → MayLeaveEra cluster (happening ∷ log) proposer left

-- in a cluster with more members and quorums a log stays lawful, and orderly
pub record WiderStaysLawful : Type 0 where
  pub lawful : (old new : Cluster) → IsWidened old new → (log : List Happening) → Lawful old log → Lawful new log
  pub orderly : (old new : Cluster) → IsWidened old new → (log : List Happening) → Orderly old log → Orderly new log
