-- What an operator is answered that reads a key.
use Rattle.std.specs.Prelude.{ℕ, List, Option, Some, option_and_then, slice_get}
use Rattle.cas_change.specs.declared.state.State.{State}
use Rattle.cas_change.specs.declared.state.State.TheVariants.{Empty}
use Rattle.cas_slot.specs.declared.message.Tell.{Tell}
use Rattle.cas_slot.specs.declared.message.Tell.TheVariants as tell
use Rattle.cas_record.specs.declared.agreement.Agreement.{Agreement}
use Rattle.cas_record.specs.declared.agreement.Agreement.TheVariants as agreed
use Rattle.cas_record.specs.declared.operator.Probe.{Probe}
use Rattle.cas_record.specs.declared.read_answer.ReadAnswer.{ReadAnswer}
use Rattle.cas_record.specs.declared.read_answer.ReadAnswer.TheVariants.{Value, Short, NotAgreed, OldEra}

-- what the member at this place told; nothing where there is no place
abbrev pub told_at : Option ℕ → List Probe → Option Tell
told_at place found = option_and_then (λ probe. probe.told) (option_and_then (slice_get found) place)

-- the state that a member told that it accepted, and the empty one where it told none
abbrev pub state_kept : Option Tell → State
state_kept (Some (tell.Probed promise (Some accepted))) = accepted.state
state_kept told = Empty

-- what is answered of a key by what the members agree on, and by what they told
abbrev pub read_of : List ℕ → Agreement → List Probe → ReadAnswer
read_of key (agreed.Value ballot at) found = Value key (state_kept (told_at at found)) ballot
read_of key (agreed.Short got need) found = Short got need
read_of key (agreed.NotAgreed low high) found = NotAgreed low high
read_of key (agreed.OldEra ballot number) found = OldEra ballot number
