-- What a complete listing of an era shows: which acceptors had no slot of a key once all proposers were in the era.
use Rattle.std.specs.Prelude.{◌≡◌, ℕ, List}
use Rattle.cas_ballot.specs.Ballot.{zero_ballot}
use Rattle.cas_record.specs.Places.{IsOlderPart}
use Rattle.cas_record.specs.Logs.Happening.{Happening, marks_of}
use Rattle.cas_record.specs.Logs.Lawful.{Cluster, AllEntered, SlotTold, slot_told}

-- a slot that is not there
abbrev pub no_slot_told : SlotTold
no_slot_told = record { promise = zero_ballot; accepted = zero_ballot }

-- at some time after all proposers had entered the era the acceptor had no slot of the key
pub record WasAbsent (cluster : Cluster) (era : ℕ) (log : List Happening) (acceptor : ℕ) (key : List ℕ) : Type 0 where
  pub then : List Happening
  pub part : IsOlderPart then log
  pub entered : AllEntered cluster era (marks_of then)
  pub none : slot_told then acceptor key ≡ no_slot_told
