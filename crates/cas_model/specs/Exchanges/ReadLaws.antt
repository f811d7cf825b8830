-- That what a read tells is so: of what was settled when it asked, and of what is settled once it is gathered.
use Rattle.std.specs.Prelude.{◌≡◌, ℕ, false, List, take, None, Some, reverse}
use Rattle.cas_ballot.specs.declared.ballot.Ballot.{Ballot}
use Rattle.cas_ballot.specs.Ballot.{zero_ballot}
use Rattle.cas_change.specs.declared.state.State.TheVariants.{Empty}
use Rattle.cas_quorum.specs.declared.era.Era.{Era}
use Rattle.cas_slot.specs.declared.slot.Accepted.{Accepted}
use Rattle.cas_record.specs.declared.mark.Mark.{Mark}
use Rattle.cas_record.specs.Histories.Chain.{chain_of, settled_of}
use Rattle.cas_record.specs.Histories.Replay.{replay_from, opening_state}
use Rattle.cas_record.specs.Legal.{HasFloor}
use Rattle.cas_record.specs.Places.{IsPrefix}
use Rattle.cas_model.specs.Council.{Probe, ExchangeView}
use Rattle.cas_model.specs.Exchanges.Read.{AgreeAt, AgreeOn}
use Rattle.cas_model.specs.Exchanges.Step.{StepGather}
use Rattle.cas_model.specs.History.{IsRemembered}
use Rattle.cas_model.specs.View.{Meaning, View}

-- ---- a read that is gathered
-- a read of the key was open, in this era, and is gathered
pub record IsReadGathered {S V : Type 0} (old : View S V) (exchange : ExchangeView) (key : List ℕ) (era : Era) (new : View S V) : Type 0 where
  pub is_open : old.council.exchange ≡ Some exchange
  pub asks : exchange.question ≡ Probe key
  pub reads : exchange.reads ≡ Some era
  pub up : exchange.crashed ≡ false
  pub step : StepGather old new
  pub over : new.council.exchange ≡ None

-- the marks behind which they were asked, newest first
abbrev pub marks_before : {S V : Type 0} → View S V → ExchangeView → List Mark
marks_before view exchange = reverse (take exchange.since view.marks)

-- ---- what it tells
-- The state is what the history up to its ballot leaves. This history goes on from what was settled before, and begins what is settled now.
pub record IsReadSo (before now : List Mark) (key : List ℕ) (accepted : Accepted) : Type 0 where
  pub state : accepted.state ≡ replay_from (opening_state key now) (chain_of key accepted.ballot now)
  pub goes_on : IsPrefix (settled_of key before) (chain_of key accepted.ballot now)
  pub begins : IsPrefix (chain_of key accepted.ballot now) (settled_of key now)

-- The register was empty at some time since: a history that leaves the empty state goes on from what was settled before, and begins what is
-- settled now. If no floor of the key was made since, what was settled before leaves the empty state.
pub record WasEmptyOnce (before now : List Mark) (key : List ℕ) : Type 0 where
  pub ballot : Ballot
  pub goes_on : IsPrefix (settled_of key before) (chain_of key ballot now)
  pub begins : IsPrefix (chain_of key ballot now) (settled_of key now)
  pub empty : replay_from (opening_state key now) (chain_of key ballot now) ≡ Empty
  pub at_first : ((floor : Ballot) → HasFloor key floor now → HasFloor key floor before) → replay_from (opening_state key before) (settled_of key before) ≡ Empty

-- ---- the laws
-- What members agree on is so.
abbrev pub ReadsAreSo : {S V : Type 0} → Meaning S V → Type 0
ReadsAreSo {S} {V} m = (old new : View S V) (exchange : ExchangeView) (key : List ℕ) (era : Era) (accepted : Accepted) → IsRemembered m old → IsReadGathered old exchange key era new → AgreeOn era exchange.told accepted
    → IsReadSo (marks_before old exchange) (reverse new.marks) key accepted

-- If they agree that they accepted nothing, nothing is marked, and the register was empty.
abbrev pub ReadsOfNothingAreSo : {S V : Type 0} → Meaning S V → Type 0
ReadsOfNothingAreSo {S} {V} m = (old new : View S V) (exchange : ExchangeView) (key : List ℕ) (era : Era) → IsRemembered m old → IsReadGathered old exchange key era new → AgreeAt era exchange.told zero_ballot
    → (new.marks ≡ old.marks) × WasEmptyOnce (marks_before old exchange) (reverse new.marks) key
