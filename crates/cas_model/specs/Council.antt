-- What the operator has under way: its call that is open, the exchange in which proposer 0 asks all members, the change of membership, and
-- the collection of a deleted key.
-- The frames of an exchange have a queue of their own.
use Rattle.std.specs.Prelude.{◌≡◌, ◌+◌, ◌==◌, ◌&&◌, ℕ, suc, Bool, true, false, if◌then◌else◌, List, [], ◌∷◌, length, drop, Option, None, Some, option_map}
use Rattle.cas_ballot.specs.declared.ballot.Ballot.{Ballot}
use Rattle.cas_quorum.specs.declared.era.Era.{Era}
use Rattle.cas_slot.specs.declared.message.Ask.{Ask}
use Rattle.cas_slot.specs.declared.message.Ask.TheVariants as ask
use Rattle.cas_slot.specs.declared.message.Phase.{Phase}
use Rattle.cas_slot.specs.declared.message.Phase.TheVariants as phase
use Rattle.cas_slot.specs.declared.message.Reply.{Reply}
use Rattle.cas_record.specs.declared.operator.Asked.{Asked}
use Rattle.cas_record.specs.declared.operator.OpAnswer.{OpAnswer}
use Rattle.cas_record.specs.declared.operator.Probe.{Probe as Answered}
use Rattle.cas_members.specs.Steps.{Progress}
use Rattle.cas_slot.specs.declared.ages.Ages.{Ages}
use Rattle.cas_model.specs.Collection.State.{CollectionView, reserved_for_collection}

-- ---- listings
-- how far the listing of a member has come: behind a key, or nowhere yet; or to its end
pub data Place : Type 0 where
  GoesOn : (after : Option (List ℕ)) → Place
  Ended : Place

pub record MemberPlace : Type 0 where
  pub member : ℕ
  pub place : Place

-- a listing of all keys that the members of an era keep a slot of
pub record ListingView : Type 0 where
  pub tag : Ballot
  pub places : List MemberPlace
  -- the keys that are still to be proposed anew, in the order of their bytes
  pub keys : List (List ℕ)
  -- whether so many members have come to their end that nothing is missing
  pub complete : Bool

-- where one stands that is not there has come nowhere yet
abbrev pub place_in : List MemberPlace → ℕ → Place
place_in [] member = GoesOn None
place_in (one ∷ places) member = if one.member == member then one.place else place_in places member

abbrev pub has_ended : Place → Bool
has_ended Ended = true
has_ended (GoesOn after) = false

-- the key behind which it goes on
abbrev pub after_of : Place → Option (List ℕ)
after_of (GoesOn after) = after
after_of Ended = None

-- ---- exchanges
-- what proposer 0 asks all members
pub data Question : Type 0 where
  -- what each keeps for the key
  Probe : (key : List ℕ) → Question
  -- the next keys that each keeps a slot of, behind its place
  NextKeys : (places : List MemberPlace) → Question
  -- that each answers no request any more that is older than this, for the collection of a key
  NewAges : (key : List ℕ) (least : Ages) → Question
  -- that each removes its slot of a key that is collected
  Removal : (key : List ℕ) → Question

-- the request to one of them
abbrev pub ask_of : Ballot → Question → ℕ → Ask
ask_of tag (Probe key) member = ask.Probe tag key
ask_of tag (NextKeys places) member = ask.List tag (after_of (place_in places member))
ask_of tag (NewAges key least) member = ask.Ages tag least
ask_of tag (Removal key) member = ask.Remove key tag

-- the phase of it
abbrev pub phase_for : Question → Phase
phase_for (Probe key) = phase.Probe
phase_for (NextKeys places) = phase.List
phase_for (NewAges key least) = phase.Ages
phase_for (Removal key) = phase.Remove

-- the key for which its tag was drawn: in a collection the tag is the tombstone's ballot, and otherwise it is of no key
abbrev pub tag_key : Question → List ℕ
tag_key (Probe key) = []
tag_key (NextKeys places) = []
tag_key (NewAges key least) = key
tag_key (Removal key) = key

-- the reply is to a request of this tag and question
pub record IsReplyTo (of : Ballot) (question : Question) (reply : Reply) : Type 0 where
  pub tag : reply.tag ≡ of
  pub phase : reply.phase ≡ phase_for question

-- an exchange with these members that has not been gathered yet
pub record ExchangeView : Type 0 where
  pub question : Question
  pub tag : Ballot
  pub members : List ℕ
  -- how many marks had been made when they were asked
  pub since : ℕ
  -- what each of them told in its first reply, in their order
  pub told : List Answered
  -- the members of which a frame was harmed
  pub harmed : List ℕ
  -- how many marks are reserved for it still
  pub reserved : ℕ
  -- whether proposer 0 crashed within it
  pub crashed : Bool
  -- the era of proposer 0 when they were asked, if the operator's call is to read the key
  pub reads : Option Era

-- a call of the operator that has not been told its answer yet
pub record OrderView : Type 0 where
  pub asked : Asked
  -- what its last step told
  pub told : Option OpAnswer

-- a change of membership that is under way
pub record PlanView : Type 0 where
  -- what it was opened for
  pub asked : Asked
  -- the era that all entered last, and the steps that are left
  pub progress : Progress
  -- the proposers below this number are marked as in the era that is to be entered
  pub entered : ℕ
  -- how many keys it has proposed anew; the count stands still at its end
  pub rescanned : ℕ
  -- what was listed of the era that is to be settled
  pub listing : Option ListingView

-- ---- the change of membership
-- its first step is done
abbrev pub stepped : PlanView → PlanView
stepped plan = record plan { progress = record { era = plan.progress.era; left = drop 1 plan.progress.left }; listing = None }

-- the era is settled once a complete listing has no key left
abbrev pub with_listing : PlanView → ListingView → PlanView
with_listing plan listing = if listing.complete && (length listing.keys == 0) then stepped plan else record plan { listing = Some listing }

-- a listing that is not complete is dropped
abbrev pub complete_only : Option ListingView → Option ListingView
complete_only None = None
complete_only (Some listing) = if listing.complete then Some listing else None

abbrev pub without_partial : PlanView → PlanView
without_partial plan = record plan { listing = complete_only plan.listing }

-- ---- all of it
pub record Council : Type 0 where
  pub order : Option OrderView
  pub exchange : Option ExchangeView
  pub plan : Option PlanView
  pub collection : Option CollectionView
  -- who was a member since the opening
  pub used : List ℕ

abbrev pub opening_council : List ℕ → Council
opening_council members = record { order = None; exchange = None; plan = None; collection = None; used = members }

-- no call is open, and no exchange
pub record IsAtRest (council : Council) : Type 0 where
  pub order : council.order ≡ None
  pub exchange : council.exchange ≡ None

-- a collection is over with its call; all else is as it was, but for a listing that is not complete
abbrev pub at_rest : Council → Council
at_rest council = record council { order = None; exchange = None; plan = option_map without_partial council.plan; collection = None }

-- ---- the queue and the marks
-- the queue of the exchange stands behind those of the proposers
abbrev pub exchange_place : ℕ
exchange_place = 17

-- how many marks are reserved for them
abbrev pub reserved_for_order : Option OrderView → ℕ
reserved_for_order None = 0
reserved_for_order (Some order) = 1

-- a read may mark a vote of each member, and then an acknowledgment
abbrev pub marks_of_read : Option Era → List ℕ → ℕ
marks_of_read None members = 0
marks_of_read (Some era) members = suc (length members)

abbrev pub reserved_for_exchange : Option ExchangeView → ℕ
reserved_for_exchange None = 0
reserved_for_exchange (Some exchange) = exchange.reserved + marks_of_read exchange.reads exchange.members

abbrev pub reserved_by : Council → ℕ
reserved_by council = reserved_for_order council.order + reserved_for_exchange council.exchange + reserved_for_collection council.collection

-- ---- parts of it
-- the open call is told this
abbrev pub told_so : OpAnswer → OrderView → OrderView
told_so answer order = record order { told = Some answer }

abbrev pub telling : Council → OpAnswer → Council
telling council answer = record council { order = option_map (told_so answer) council.order }

-- its last step told nothing
abbrev pub silent_order : OrderView → OrderView
silent_order order = record order { told = None }

abbrev pub hushed : Council → Council
hushed council = record council { order = option_map silent_order council.order }

-- proposer 0 crashed
abbrev pub broken_off : ExchangeView → ExchangeView
broken_off exchange = record exchange { crashed = true }

abbrev pub crashed_in : Council → Council
crashed_in council = record council { exchange = option_map broken_off council.exchange }
