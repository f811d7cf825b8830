-- How far a caller's open call has come, as is read of the world.
use Rattle.std.specs.Prelude.{◌≡◌, ℕ, Bool, true, false, length, Option, None, Some, IsSome, option_map, slice_get}
use Rattle.cas_fate.specs.declared.fate.Leg.{Leg}
use Rattle.cas_flow.specs.Flow.{queue_at}
use Rattle.cas_flow.specs.Message.{head_of}
use Rattle.cas_proposer.specs.Desk.{DeskView}
use Rattle.cas_model.specs.View.{View, IsAt}
use Rattle.cas_world.specs.Exchanges.Exchange.{place_of}
use Rattle.cas_board_steps.specs.declared.changes.Stage.{Stage}
use Rattle.cas_board_steps.specs.declared.changes.Stage.TheVariants.{Waits, Through, Met}
use Rattle.cas_board_steps.specs.declared.changes.Waiting.{Waiting}

-- the leg of the caller's first frame that waits, and the acceptor at its other end
abbrev pub front_of : {S V : Type 0} → View S V → ℕ → Option (Leg × ℕ)
front_of view n = option_map head_of (slice_get (queue_at view.flow (place_of view n)).messages 0)

-- it is this one, beside so many late ones
abbrev pub IsFirst : {S V : Type 0} → View S V → ℕ → Waiting → Type 0
IsFirst view n frame = (front_of view n ≡ Some (frame.leg, frame.peer)) × (frame.late ≡ length view.flow.late)

-- it is this one, or none waits
abbrev pub HasFirst : {S V : Type 0} → View S V → ℕ → Option Waiting → Type 0
HasFirst view n None = front_of view n ≡ None
HasFirst view n (Some frame) = IsFirst view n frame

-- the first frame of its round waits; or none does, and its round is open or not
abbrev pub IsStageOf : {S V : Type 0} → View S V → ℕ → Stage → Type 0
IsStageOf view n (Waits frame) = IsFirst view n frame
IsStageOf {S} {V} view n Through = (front_of view n ≡ None) × ((desk : DeskView V) → IsAt view.desks n desk → IsSome desk.round)
IsStageOf {S} {V} view n Met = (front_of view n ≡ None) × ((desk : DeskView V) → IsAt view.desks n desk → desk.round ≡ None)

-- whether it is the stage behind a conflict
abbrev pub tells_met : Stage → Bool
tells_met Met = true
tells_met other = false
