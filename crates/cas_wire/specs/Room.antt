-- How much room a part takes beyond that of its parts of one length: the bytes of its text, of which there are at most 4,000.
use Rattle.std.specs.Prelude.{ℕ, length, min, Option, Some, None}
use Rattle.cas_change.specs.declared.state.State.{State}
use Rattle.cas_change.specs.declared.state.State.TheVariants.{Empty, Held}
use Rattle.cas_change.specs.declared.state.Body.{Body}
use Rattle.cas_change.specs.declared.state.Body.TheVariants.{Number, Text}
use Rattle.cas_slot.specs.declared.slot.Accepted.{Accepted}
use Rattle.cas_slot.specs.declared.message.Ask.{Ask}
use Rattle.cas_slot.specs.declared.message.Ask.TheVariants.{Prepare, Accept, Ages, Remove, List as ListKeys, Probe}

abbrev pub body_room : Body → ℕ
body_room (Number n) = 0
body_room (Text text) = min 4000 (length text)

abbrev pub state_room : State → ℕ
state_room Empty = 0
state_room (Held version body) = body_room body

abbrev pub accepted_room : Option Accepted → ℕ
accepted_room None = 0
accepted_room (Some accepted) = state_room accepted.state

abbrev pub ask_room : Ask → ℕ
ask_room (Prepare key ballot) = 0
ask_room (Accept key ballot era ride state) = state_room state
ask_room (Ages tag least) = 0
ask_room (Remove key tomb) = 0
ask_room (ListKeys tag after) = 0
ask_room (Probe tag key) = 0
