-- The floors with which the histories of a reopened store begin.
use Rattle.std.specs.Prelude.{◌≡◌, ◌≤◌, ℕ, List, length, Option, Some, Contains}
use Rattle.std.specs.Option.{option_map}
use Rattle.cas_slot.specs.declared.slot.Accepted.{Accepted}
use Rattle.cas_slot.specs.declared.slot.Slot.{Slot}
use Rattle.cas_slot.specs.Slots.{Slots, slot_at, slot_count}
use Rattle.cas_model.specs.Openings.{Opening, KeysDiffer}

-- the history of the key opens with what was accepted last
abbrev pub opening_with : List ℕ → Accepted → Opening
opening_with key accepted = record { key = key; ballot = accepted.ballot; state = accepted.state }

-- the floor of a key whose slot is this; none where nothing was accepted
abbrev pub floor_in : List ℕ → Slot → Option Opening
floor_in key slot = option_map (opening_with key) slot.accepted

-- the floors of these slots: one for each key of which a state was accepted, and no other
pub record AreFloorsOf (slots : Slots) (floors : List Opening) : Type 0 where
  pub each : (floor : Opening) → Contains floors floor → (slot : Slot) × (slot_at slots floor.key ≡ Some slot) × (floor_in floor.key slot ≡ Some floor)
  pub all : (key : List ℕ) (slot : Slot) (floor : Opening) → slot_at slots key ≡ Some slot → floor_in key slot ≡ Some floor → Contains floors floor
  pub differ : KeysDiffer floors
  pub few : length floors ≤ slot_count slots
