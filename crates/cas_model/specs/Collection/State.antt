-- A collection: how proposer 0 leads to the removal of a deleted key's slots, in the order of its steps.
use Rattle.std.specs.Prelude.{◌++◌, ℕ, Bool, true, false, List, [], take, replicate, Option, None, Some}
use Rattle.cas_ballot.specs.declared.ballot.Ballot.{Ballot}
use Rattle.cas_ballot.specs.Ballot.{zero_ballot}
use Rattle.cas_collect.specs.declared.collect.CollectStep.TheVariants.{Round}
use Rattle.cas_collect.specs.Order.{Collection, with_step, step_after}
use Rattle.cas_quorum.specs.declared.era.Era.{Era}
use Rattle.cas_slot.specs.declared.ages.Ages.{Ages}

-- what became of the round that proposes the tombstone
pub data Tombstone : Type 0 where
  -- none was acknowledged yet, and the key was not read as held
  Sought : Tombstone
  -- the key holds a state of this version, and nothing was proposed
  FoundHeld : (version : ℕ) → Tombstone
  -- the empty state was acknowledged at this ballot, by these acceptors
  Acknowledged : (ballot : Ballot) (by : List ℕ) → Tombstone

pub record CollectionView : Type 0 where
  -- its key, its era, and the step that comes next
  pub course : Collection
  -- whether its call is open
  pub calling : Bool
  pub tombstone : Tombstone
  -- the new age of each proposer that was renewed, in the order of their numbers
  pub ages : List ℕ
  -- how many members removed their slot at the end, and how many kept it for a later change
  pub removed : ℕ
  pub kept : ℕ
  -- how many marks are reserved for it still: that of its floor
  pub reserved : ℕ

-- one whose call begins
abbrev pub new_collection : List ℕ → Era → ℕ → CollectionView
new_collection key era proposers = record {
  course = record { key = key; era = era; proposers = proposers; confirmed = []; step = Round };
  calling = true;
  tombstone = Sought;
  ages = [];
  removed = 0;
  kept = 0;
  reserved = 0;
}

-- its step is confirmed, and the next one is due
abbrev pub course_stepped : Collection → Collection
course_stepped course = record course { confirmed = with_step course.confirmed course.step; step = step_after course.proposers course.step }

abbrev pub confirmed_step : CollectionView → CollectionView
confirmed_step collection = record collection { course = course_stepped collection.course }

-- its call is over
abbrev pub called : CollectionView → CollectionView
called collection = record collection { calling = false }

-- the ballot of its tombstone, and who acknowledged it
abbrev pub tomb_of : Tombstone → Ballot
tomb_of (Acknowledged ballot by) = ballot
tomb_of other = zero_ballot

abbrev pub voters_of : Tombstone → List ℕ
voters_of (Acknowledged ballot by) = by
voters_of other = []

-- the least ages that all members are told: of each proposer the one to which it was renewed
abbrev pub ages_of : List ℕ → Ages
ages_of ages = record { 0 = take 17 (ages ++ replicate 17 0) }

abbrev pub reserved_for_collection : Option CollectionView → ℕ
reserved_for_collection None = 0
reserved_for_collection (Some collection) = collection.reserved
