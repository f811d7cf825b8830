-- That each happening has its reason: a ballot is drawn once, what is asked was drawn, an acceptor does what it was asked
-- and answers what it did. Beside the rules of the protocol this is what the messages under way and the proposers need.
-- Logs and marks are read newest first.
use Rattle.std.specs.Prelude.{◌≡◌, ⊤, ℕ, ◌<◌, ◌≤◌, ◌==◌, max, if◌then◌else◌, List, [], ◌∷◌, Option, None, Some, IfSome, unwrap_or, Bool, true, false, IsTrue, ◌⊎◌}
use Rattle.std.specs.List.{list_any}
use Rattle.cas_ballot.specs.declared.ballot.Ballot.{Ballot}
use Rattle.cas_ballot.specs.Members.{has_member}
use Rattle.cas_ballot.specs.Ballot.{zero_ballot, BallotAtMost, BallotLess}
use Rattle.cas_change.specs.declared.state.State.{State}
use Rattle.cas_slot.specs.declared.message.Ask.{Ask}
use Rattle.cas_slot.specs.declared.message.Ask.TheVariants as ask
use Rattle.cas_slot.specs.declared.message.Request.{Request}
use Rattle.cas_slot.specs.declared.message.Reply.{Reply}
use Rattle.cas_slot.specs.declared.message.Tell.{Tell}
use Rattle.cas_slot.specs.declared.message.Tell.TheVariants as tell
use Rattle.cas_slot.specs.Ages.{least_age}
use Rattle.cas_slot.specs.Message.{phase_of, tag_of}
use Rattle.cas_slot.specs.Rules.{key_of}
use Rattle.cas_slot.specs.Slot.{accepted_ballot}
use Rattle.cas_slot.specs.Slots.{is_above}
use Rattle.cas_record.specs.declared.mark.Mark.{Mark}
use Rattle.cas_record.specs.declared.mark.Mark.TheVariants.{Floor, Voted}
use Rattle.cas_record.specs.declared.mark.Proposal.{Proposal}
use Rattle.cas_record.specs.Places.{Stands}
use Rattle.cas_record.specs.Histories.Chain.{is_key}
use Rattle.cas_record.specs.Legal.{HasProposal, HasFloor, IsAcked}
use Rattle.cas_record.specs.Logs.Happening.{Happening, Asked, Promised, Took, Dropped, Drew, Raised, Replied, marks_of}
use Rattle.cas_record.specs.Logs.Lawful.{Cluster, AreFirst, HasOpening, IsIn, SlotTold, slot_told}
use Rattle.cas_record.specs.Logs.Listing.{no_slot_told}

-- ---- ages
-- the least age that the acceptor asks the proposer for, for certain
abbrev pub age_told : List Happening → ℕ → ℕ → ℕ
age_told [] acceptor proposer = 0
age_told (Raised a least ∷ older) acceptor proposer =
    if a == acceptor then max (least_age least proposer) (age_told older acceptor proposer) else age_told older acceptor proposer
age_told (other ∷ older) acceptor proposer = age_told older acceptor proposer

-- ---- ballots
-- every floor of the key is below the ballot
pub record IsAboveFloors (marks : List Mark) (key : List ℕ) (ballot : Ballot) : Type 0 where
  pub above : {floor : Ballot} {state : State} → Stands (Floor key floor state) marks → BallotLess floor ballot

-- a proposer may draw a ballot once, in the era in which it is, above the floors of its key
pub record MayDraw (cluster : Cluster) (log : List Happening) (ballot : Ballot) (key : List ℕ) (era : ℕ) : Type 0 where
  pub known : ballot.proposer ≤ cluster.last_proposer
  pub some : BallotLess zero_ballot ballot
  pub fresh : (k : List ℕ) (e : ℕ) → Stands (Drew ballot k e) log → ⊥
  pub is_in : IsIn log ballot.proposer era
  pub above : IsAboveFloors (marks_of log) key ballot

-- ---- requests
-- the request is one of a round: to promise or to accept a ballot
abbrev pub IsRoundAsk : Ask → Type 0
IsRoundAsk (ask.Prepare key ballot) = ⊤
IsRoundAsk (ask.Accept key ballot era ride state) = ⊤
IsRoundAsk other = ⊥

-- its proposer drew the ballot for the key, above the floors of the key, in an era of which the acceptor is a member
pub record MayAskFor (cluster : Cluster) (log : List Happening) (request : Request) (key : List ℕ) (ballot : Ballot) : Type 0 where
  pub era : ℕ
  pub drawn : Stands (Drew ballot key era) log
  pub own : ballot.proposer ≡ request.from
  pub member : has_member (cluster.members era) request.to ≡ true
  pub above : IsAboveFloors (marks_of log) key ballot

-- a ballot that rides was drawn for the same key, and is above the one that it rides on
pub record MayRide (log : List Happening) (key : List ℕ) (ballot ride : Ballot) : Type 0 where
  pub era : ℕ
  pub drawn : Stands (Drew ride key era) log
  pub above : BallotLess ballot ride

-- what was asked of the acceptor for the key at or below the tombstone is too old for it now
pub record IsAgedOut (log : List Happening) (acceptor : ℕ) (key : List ℕ) (tombstone : Ballot) : Type 0 where
  pub aged : (request : Request) → Stands (Asked request) log → request.to ≡ acceptor → IsRoundAsk request.ask → key_of request.ask ≡ key
      → BallotAtMost (tag_of request.ask) tombstone → request.age < age_told log acceptor request.from

-- a request is for a ballot that was drawn: to accept it, it was proposed; to remove a tombstone, it was acknowledged and is
-- a floor, and what was asked at or below it is aged out
abbrev pub MayAsk : Cluster → List Happening → Request → Ask → Type 0
MayAsk cluster log request (ask.Prepare key ballot) = MayAskFor cluster log request key ballot
MayAsk cluster log request (ask.Accept key ballot era ride state) = MayAskFor cluster log request key ballot × HasProposal key ballot (marks_of log) × IfSome ride (MayRide log key ballot)
MayAsk cluster log request (ask.Remove key tomb) = HasFloor key tomb (marks_of log) × IsAcked key tomb (marks_of log) × IsAgedOut log request.to key tomb
MayAsk cluster log request (ask.List tag after) = MayAskFor cluster log request [] tag
MayAsk cluster log request (ask.Probe tag key) = MayAskFor cluster log request [] tag
MayAsk cluster log request other = ⊤

-- ---- what acceptors do
-- the acceptor was asked this, and the request is not too old for it
pub record WasAsked (log : List Happening) (acceptor : ℕ) (request : Request) : Type 0 where
  pub asked : Stands (Asked request) log
  pub to : request.to ≡ acceptor
  pub age : age_told log acceptor request.from ≤ request.age

-- a promise was asked for, and tells what the slot had accepted
pub record MayPromiseBy (log : List Happening) (acceptor : ℕ) (key : List ℕ) (ballot told : Ballot) : Type 0 where
  pub request : Request
  pub was_asked : WasAsked log acceptor request
  pub is : request.ask ≡ ask.Prepare key ballot
  pub slot : told ≡ (slot_told log acceptor key).accepted

-- a ballot is taken that was asked to be accepted, and with it the ride of that request
pub record MayTakeBy (log : List Happening) (acceptor : ℕ) (key : List ℕ) (ballot ride : Ballot) : Type 0 where
  pub request : Request
  pub was_asked : WasAsked log acceptor request
  pub era : ℕ
  pub rides : Option Ballot
  pub state : State
  pub is : request.ask ≡ ask.Accept key ballot era rides state
  pub ride_is : ride ≡ unwrap_or rides zero_ballot

-- or it is the floor with which the key's history opened, taken by a member of the first era before all that is no floor
pub record MayTakeFirst (cluster : Cluster) (log : List Happening) (acceptor : ℕ) (key : List ℕ) (ballot ride : Ballot) : Type 0 where
  pub first : AreFirst log
  pub member : has_member (cluster.members 0) acceptor ≡ true
  pub opening : HasOpening key ballot log
  pub no_ride : ride ≡ zero_ballot

-- a slot is removed that was asked to be
pub record MayDropBy (log : List Happening) (acceptor : ℕ) (key : List ℕ) (tombstone : Ballot) : Type 0 where
  pub request : Request
  pub was_asked : WasAsked log acceptor request
  pub is : request.ask ≡ ask.Remove key tombstone

-- ---- replies
abbrev pub last_of : List (List ℕ) → Option (List ℕ)
last_of [] = None
last_of (key ∷ []) = Some key
last_of (key ∷ next ∷ keys) = last_of (next ∷ keys)

-- a listing of these keys goes past a key: the key is none of them, and where more follow it is not above the last
pub record IsPassed (keys : List (List ℕ)) (more : Bool) (key : List ℕ) : Type 0 where
  pub not_listed : list_any (is_key key) keys ≡ false
  pub not_above : IsTrue more → IfSome (last_of keys) (λ last. is_above (Some last) key ≡ false)

-- the slot holds the tombstone and has promised nothing above it
pub record IsTombstoneTold (slot : SlotTold) (tomb : Ballot) : Type 0 where
  pub holds : slot.accepted ≡ tomb
  pub promise : BallotAtMost slot.promise tomb

-- what an acceptor answers is so
abbrev pub IsTold : List Happening → ℕ → Ask → Tell → Type 0
IsTold log acceptor (ask.Prepare key ballot) (tell.Promised accepted) = Stands (Promised acceptor key ballot (accepted_ballot accepted)) log × BallotAtMost (accepted_ballot accepted) ballot
IsTold log acceptor (ask.Accept key ballot era ride state) tell.Accepted = Stands (Voted acceptor key ballot) (marks_of log)
IsTold log acceptor (ask.Ages tag least) tell.AgesSet = (proposer : ℕ) → proposer ≤ 16 → least_age least proposer ≤ age_told log acceptor proposer
IsTold log acceptor (ask.Remove key tomb) tell.Removed = slot_told log acceptor key ≡ no_slot_told
IsTold log acceptor (ask.List tag after) (tell.Listed told keys more) = (told ≡ after)
    × ((key : List ℕ) → IsTrue (is_above after key) → IsPassed keys more key → slot_told log acceptor key ≡ no_slot_told)
IsTold log acceptor (ask.Probe tag key) (tell.Probed promise accepted) = slot_told log acceptor key ≡ record { promise = promise; accepted = accepted_ballot accepted }
IsTold log acceptor (ask.Prepare key ballot) (tell.Met seen) = BallotLess ballot seen
IsTold log acceptor (ask.Accept key ballot era ride state) (tell.Met seen) = BallotLess ballot seen
IsTold log acceptor (ask.Remove key tomb) tell.Kept = IsTombstoneTold (slot_told log acceptor key) tomb → ⊥
IsTold log acceptor question answer = ⊤

-- a reply answers a request that was asked, to who asked it, and tells what is so
pub record MayReply (log : List Happening) (request : Request) (reply : Reply) : Type 0 where
  pub asked : Stands (Asked request) log
  pub from : reply.from ≡ request.to
  pub to : reply.to ≡ request.from
  pub phase : reply.phase ≡ phase_of request.ask
  pub tag : reply.tag ≡ tag_of request.ask
  pub told : IsTold log request.to request.ask reply.tell

-- ---- floors
-- the acceptor is clear of what was below a floor of the key: it took the floor, or it was never asked for the key at or
-- below it, and took nothing below it
pub data IsClear (log : List Happening) (acceptor : ℕ) (key : List ℕ) (floor : Ballot) : Type 0 where
  took_it : (ride : Ballot) → Stands (Took acceptor key floor ride) log → IsClear log acceptor key floor
  never_asked : ((request : Request) → Stands (Asked request) log → request.to ≡ acceptor → IsRoundAsk request.ask → key_of request.ask ≡ key → BallotLess floor (tag_of request.ask))
      → ((ballot ride : Ballot) → Stands (Took acceptor key ballot ride) log → BallotAtMost floor ballot) → IsClear log acceptor key floor

-- nothing, or a ballot at or above the floor
abbrev pub IsNoneOrAbove : Ballot → Ballot → Type 0
IsNoneOrAbove floor ballot = (ballot ≡ zero_ballot) ⊎ BallotAtMost floor ballot

-- what a proposal read was told to its ballot by one of those that it prepared, or is nothing
pub data WasRead (log : List Happening) (p : Proposal) : Type 0 where
  nothing_read : p.read ≡ zero_ballot → WasRead log p
  read_from : (acceptor : ℕ) → has_member p.prepared_by acceptor ≡ true → Stands (Promised acceptor p.key p.ballot p.read) log → WasRead log p

-- ---- the whole
-- the happening has its reason in what happened before
abbrev pub HasReason : Cluster → List Happening → Happening → Type 0
HasReason cluster log (Drew ballot key era) = MayDraw cluster log ballot key era
HasReason cluster log (Asked request) = MayAsk cluster log request request.ask
HasReason cluster log (Promised acceptor key ballot told) = MayPromiseBy log acceptor key ballot told
HasReason cluster log (Took acceptor key ballot ride) = MayTakeBy log acceptor key ballot ride ⊎ MayTakeFirst cluster log acceptor key ballot ride
HasReason cluster log (Dropped acceptor key tombstone) = MayDropBy log acceptor key tombstone
HasReason cluster log (Replied request reply) = MayReply log request reply
HasReason cluster log other = ⊤

abbrev pub Orderly : Cluster → List Happening → Type 0
Orderly cluster [] = ⊤
Orderly cluster (happening ∷ older) = Orderly cluster older × HasReason cluster older happening
