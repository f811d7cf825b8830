-- All that one acceptor keeps, and what may happen to it.
use Rattle.std.specs.Prelude.{ℕ, replicate, List, Option}
use Rattle.cas_slot.specs.declared.slot.Slot.{Slot}
use Rattle.cas_slot.specs.declared.ages.Ages.{Ages}
use Rattle.cas_slot.specs.Ages.{raised}
use Rattle.cas_slot.specs.Slots.{Slots, no_slots, slot_at, with_slot, without_slot}

-- its slots, and the least ages that it still answers
pub record Contents : Type 0 where
  pub slots : Slots
  pub ages : Ages

-- no age is too low
abbrev pub no_ages : Ages
no_ages = record { 0 = replicate 17 0 }

-- what a shelf holds at first
abbrev pub nothing : Contents
nothing = record { slots = no_slots; ages = no_ages }

-- the slot of a key, if there is one
abbrev pub kept_at : Contents → List ℕ → Option Slot
kept_at contents key = slot_at contents.slots key

-- the same with this slot at the key, in the place of any other
abbrev pub with_kept : Contents → List ℕ → Slot → Contents
with_kept contents key slot = record contents { slots = with_slot contents.slots key slot }

-- the same with no slot at the key
abbrev pub without_kept : Contents → List ℕ → Contents
without_kept contents key = record contents { slots = without_slot contents.slots key }

-- the same with each least age no lower than this one
abbrev pub with_raised : Contents → Ages → Contents
with_raised contents least = record contents { ages = raised contents.ages least }
