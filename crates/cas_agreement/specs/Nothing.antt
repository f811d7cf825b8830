-- What a key held before a read that found nothing of it.
use Rattle.std.specs.Prelude.{◌≡◌, ◌≤◌, ℕ, List, length, reverse}
use Rattle.cas_ballot.specs.declared.ballot.Ballot.{Ballot}
use Rattle.cas_ballot.specs.Ballot.{zero_ballot}
use Rattle.cas_change.specs.declared.state.State.{State}
use Rattle.cas_change.specs.declared.state.State.TheVariants.{Empty}
use Rattle.cas_quorum.specs.declared.era.Era.{Era}
use Rattle.cas_record.specs.declared.mark.Mark.{Mark}
use Rattle.cas_record.specs.declared.mark.Mark.TheVariants.{Floor}
use Rattle.cas_record.specs.Histories.Chain.{settled_of}
use Rattle.cas_record.specs.Histories.Replay.{replay_from, opening_state}
use Rattle.cas_record.specs.Places.{At, IsOlderPart}
use Rattle.cas_model.specs.Council.{ExchangeView}
use Rattle.cas_model.specs.Exchanges.Read.{AgreeAt}
use Rattle.cas_model.specs.Exchanges.ReadLaws.{IsReadGathered}
use Rattle.cas_model.specs.History.{IsRemembered}
use Rattle.cas_model.specs.View.{Meaning, View}

-- no floor of the key was made since the older part; marks are read newest first
abbrev pub HasNoFloorSince : List ℕ → List Mark → List Mark → Type 0
HasNoFloorSince key part all = (floor : Ballot) (state : State) (older : List Mark) → At (Floor key floor state) older all → IsOlderPart part older → ⊥

-- what was settled of the key by then leaves the empty state
abbrev pub IsSettledEmpty : List ℕ → List Mark → Type 0
IsSettledEmpty key marks = replay_from (opening_state key marks) (settled_of key marks) ≡ Empty

-- If members agree that they accepted nothing, then what was settled when they were asked leaves the empty state. So does what was settled at
-- any time before, if no floor of the key was made since.
abbrev pub ReadsOfNothingFindNothing : {S V : Type 0} → Meaning S V → Type 0
ReadsOfNothingFindNothing {S} {V} m = (old new : View S V) (exchange : ExchangeView) (key : List ℕ) (era : Era) (part : List Mark) → IsRemembered m old → IsReadGathered old exchange key era new
    → AgreeAt era exchange.told zero_ballot → IsOlderPart part (reverse old.marks) → length part ≤ exchange.since → HasNoFloorSince key part (reverse old.marks) → IsSettledEmpty key part
