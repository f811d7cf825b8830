-- What the log tells of what the operator has under way: of its exchange, and of the change of membership and its listing; and that all who
-- are members were used.
use Rattle.std.specs.Prelude.{◌≡◌, ◌⊎◌, ⊤, ℕ, true, false, List, [], Option, None, Some}
use Rattle.std.specs.List.{list_any}
use Rattle.cas_ballot.specs.Members.{has_member, IsMemberSet}
use Rattle.cas_quorum.specs.declared.era.Era.{Era}
use Rattle.cas_slot.specs.Slots.{is_above}
use Rattle.cas_record.specs.Histories.Chain.{is_key}
use Rattle.cas_record.specs.Logs.Happening.{Happening, Drew, marks_of}
use Rattle.cas_record.specs.Logs.Lawful.{Cluster, AllEntered, IsRescanned}
use Rattle.cas_record.specs.Legal.{IsProposed, IsEnded}
use Rattle.cas_record.specs.Logs.Listing.{WasAbsent}
use Rattle.cas_record.specs.Logs.Orderly.{IsAboveFloors}
use Rattle.cas_record.specs.Places.{Stands}
use Rattle.cas_model.specs.Council.{Place, GoesOn, Ended, place_in, ListingView, ExchangeView, PlanView, Council}
use Rattle.cas_model.specs.Collection.Logged.{IsCollectingTrue}
use Rattle.cas_model.specs.Eras.Course.{entering}
use Rattle.cas_model.specs.Parties.{IsExchangeTrue}
use Rattle.cas_protocol.specs.Protocol.{IsListed}
use Rattle.cas_model.specs.Eras.Listings.{ended_in}

-- ---- listings
-- a key at a member: it was proposed anew in the era, or is among these that are to be, or the member had no slot of it once all had
-- entered the era
pub data IsShown (cluster : Cluster) (log : List Happening) (era member : ℕ) (keys : List (List ℕ)) (key : List ℕ) : Type 0 where
  rescanned : IsRescanned cluster era key (marks_of log) → IsShown cluster log era member keys key
  listed : list_any (is_key key) keys ≡ true → IsShown cluster log era member keys key
  absent : WasAbsent cluster era log member key → IsShown cluster log era member keys key

-- each key is so up to the place of the member
abbrev pub AreShown : Cluster → List Happening → ℕ → ℕ → List (List ℕ) → Place → Type 0
AreShown cluster log era member keys (GoesOn after) = (key : List ℕ) → is_above after key ≡ false → IsShown cluster log era member keys key
AreShown cluster log era member keys Ended = (key : List ℕ) → IsShown cluster log era member keys key

-- Its tag was drawn once all had entered the era, when no call of caller 0 that was proposed was open; and what was listed since is shown.
-- Where it is complete an accept quorum has come to its end.
pub record IsListingTrue (cluster : Cluster) (log : List Happening) (era : ℕ) (listing : ListingView) : Type 0 where
  pub own : listing.tag.proposer ≡ 0
  pub drawn : Stands (Drew listing.tag [] era) log
  pub above_floors : IsAboveFloors (marks_of log) [] listing.tag
  pub entered : AllEntered cluster era (marks_of drawn.older)
  pub all_ended : (call : ℕ) → IsProposed 0 call (marks_of drawn.older) → IsEnded 0 call (marks_of drawn.older)
  pub shown : (member : ℕ) → AreShown cluster log era member listing.keys (place_in listing.places member)
  pub quorum : listing.complete ≡ true → cluster.accepts era (ended_in listing.places) ≡ true

-- ---- the change of membership
-- an era that is left is the first or is listed
pub record IsPlanKnown (cluster : Cluster) (log : List Happening) (plan : PlanView) : Type 0 where
  pub settled : (next : Era) → entering plan.progress.left ≡ Some next → (plan.progress.era.number ≡ 0) ⊎ IsListed cluster log plan.progress.era.number
  pub listing : (listing : ListingView) → plan.listing ≡ Some listing → IsListingTrue cluster log plan.progress.era.number listing

abbrev pub IsPlanTrue : Cluster → List Happening → Option PlanView → Type 0
IsPlanTrue cluster log None = ⊤
IsPlanTrue cluster log (Some plan) = IsPlanKnown cluster log plan

-- ---- all of it
abbrev pub IsAskingTrue : Cluster → List Happening → Option ExchangeView → Type 0
IsAskingTrue cluster log open_ = (exchange : ExchangeView) → open_ ≡ Some exchange → IsExchangeTrue cluster log exchange

-- who is a member of an era of the cluster is among those who were used
pub record AreUsed (cluster : Cluster) (used : List ℕ) : Type 0 where
  pub set : IsMemberSet used
  pub members : (era acceptor : ℕ) → has_member (cluster.members era) acceptor ≡ true → has_member used acceptor ≡ true

abbrev pub IsCouncilTrue : Cluster → List Happening → Council → Type 0
IsCouncilTrue cluster log council = IsAskingTrue cluster log council.exchange × IsPlanTrue cluster log council.plan × AreUsed cluster council.used × IsCollectingTrue cluster log council.collection
