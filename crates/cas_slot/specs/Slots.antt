-- The slots of one acceptor, as a finite map from the bytes of keys.
use Rattle.std.specs.Prelude.{◌≡◌, ℕ, ◌≤◌, ◌&&◌, Bool, true, List, [], ◌∷◌, filter, Option, None, Some}
use Rattle.std.specs.Ordering.{nat_cmp, is_lt}
use Rattle.std.specs.Cmp.Lexicographic.{slice_cmp}
use Rattle.std.specs.FinMap as map
use Rattle.cas_slot.specs.declared.slot.Slot.{Slot}
use Rattle.cas_slot.specs.declared.slots.TheConstants.{MOST_SLOTS}

-- a map from keys, in the order of their bytes, to slots
abbrev pub Slots : Type 0
Slots = map.FinMap (slice_cmp nat_cmp) Slot

-- no slot
abbrev pub no_slots : Slots
no_slots = map.empty

-- the slot of a key, if there is one
abbrev pub slot_at : Slots → List ℕ → Option Slot
slot_at slots key = map.get slots key

-- the slots with this one at the key, in the place of any other
abbrev pub with_slot : Slots → List ℕ → Slot → Slots
with_slot slots key slot = map.insert slots key slot

-- the slots with none at the key
abbrev pub without_slot : Slots → List ℕ → Slots
without_slot slots key = map.remove slots key

-- how many keys have a slot
abbrev pub slot_count : Slots → ℕ
slot_count slots = map.len slots

-- the key has no slot, and there is no room for one more
pub record IsFullFor (slots : Slots) (key : List ℕ) : Type 0 where
  pub new_key : slot_at slots key ≡ None
  pub no_room : MOST_SLOTS ≤ slot_count slots

-- whether a key comes after this one in the order of their bytes; each comes after none
abbrev pub is_above : Option (List ℕ) → List ℕ → Bool
is_above None key = true
is_above (Some after) key = is_lt (slice_cmp nat_cmp after key)

-- the keys above this one that have a slot, in the order of their bytes
abbrev pub keys_above : Slots → Option (List ℕ) → List (List ℕ)
keys_above slots after = filter (is_above after) (map.keys slots)

-- whether keys come one after another in the order of their bytes, all above this one
abbrev pub rises : Option (List ℕ) → List (List ℕ) → Bool
rises after [] = true
rises after (key ∷ keys) = is_above after key && rises (Some key) keys
