-- How much room a text takes at most.
use Rattle.std.proofs.Common.{◌≤◌, Option, Some, None, arith}
use Rattle.cas_change.specs.declared.state.State.{State}
use Rattle.cas_change.specs.declared.state.State.TheVariants.{Empty, Held}
use Rattle.cas_change.specs.declared.state.Body.{Body}
use Rattle.cas_change.specs.declared.state.Body.TheVariants.{Number, Text}
use Rattle.cas_slot.specs.declared.slot.Accepted.{Accepted}
use Rattle.cas_wire.specs.Room.{body_room, state_room, accepted_room}

pub body_small : (body : Body) → body_room body ≤ 4000
body_small (Number n) = omega arith
body_small (Text text) = omega arith

pub state_small : (state : State) → state_room state ≤ 4000
state_small Empty = omega arith
state_small (Held version body) = body_small body

pub accepted_small : (accepted : Option Accepted) → accepted_room accepted ≤ 4000
accepted_small None = omega arith
accepted_small (Some accepted) = state_small accepted.state
