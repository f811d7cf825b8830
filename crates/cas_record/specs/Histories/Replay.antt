-- What a register holds after a history, and with what its history starts.
use Rattle.std.specs.Prelude.{ℕ, not, ◌&&◌, if◌then◌else◌, List, [], ◌∷◌}
use Rattle.cas_change.specs.declared.state.State.{State}
use Rattle.cas_change.specs.declared.state.State.TheVariants.{Empty}
use Rattle.cas_change.specs.Outcome.{outcome_of}
use Rattle.cas_record.specs.declared.entry.Entry.{Entry}
use Rattle.cas_record.specs.declared.mark.Mark.{Mark}
use Rattle.cas_record.specs.declared.mark.Mark.TheVariants.{Floor}
use Rattle.cas_record.specs.Histories.Chain.{is_key, has_calls}

-- the state after the programs have acted in turn
abbrev pub replay_from : State → List Entry → State
replay_from state [] = state
replay_from state (entry ∷ later) = replay_from (outcome_of entry.program state).state later

-- the state after a whole history, of a register that was empty
abbrev pub replay : List Entry → State
replay entries = replay_from Empty entries

-- the state with which the key's history starts: that of its opening floor, made before any call began, or empty
abbrev pub opening_state : List ℕ → List Mark → State
opening_state key [] = Empty
opening_state key (Floor k floor state ∷ older) = if is_key k key && not (has_calls older) then state else opening_state key older
opening_state key (mark ∷ older) = opening_state key older
