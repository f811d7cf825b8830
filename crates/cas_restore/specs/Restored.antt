-- A shelf that is brought to given slots, and what stands there in the meantime.
use Rattle.std.specs.Prelude.{◌≡◌, ◌⊎◌, ℕ, List, Ok, None, IfSome}
use Rattle.std.specs.BTreeMap.{BTreeMap}
use Rattle.std.specs.FinMap as map
use Rattle.cas_slot.specs.declared.slot.Slot.{Slot}
use Rattle.cas_slot.specs.Contents.{Contents, kept_at}
use Rattle.cas_slot.specs.Limits.{SlotBallotsFit}
use Rattle.cas_slot.specs.Shelf.{Left}
use Rattle.cas_slot.specs.Slots.{Slots, slot_at}

-- the slots of a `BTreeMap`
abbrev pub slots_of : BTreeMap (List ℕ) Slot → Slots
slots_of slots = map.from_entries slots.entries

-- the ballots of each of these slots are within their limits
abbrev pub EachSlotFits : Slots → Type 0
EachSlotFits slots = (key : List ℕ) → IfSome (slot_at slots key) SlotBallotsFit

-- the same with these slots and no others
abbrev pub with_slots : Contents → Slots → Contents
with_slots contents slots = record contents { slots = slots }

-- the shelf is up, and holds just these slots and the least ages that it held
pub record HoldsJust {S : Type 0} (contents : S → Contents) (is_up : S → Type 0) (slots : Slots) (was now : S) : Type 0 where
  pub up : is_up now
  pub holds : contents now ≡ with_slots (contents was) slots

-- no slot is kept for a key that these slots lack
abbrev pub HasNoOthers : Slots → Contents → Type 0
HasNoOthers slots contents = (key : List ℕ) → slot_at slots key ≡ None → kept_at contents key ≡ None

-- for each key what was kept before is kept, or what these slots have; the least ages stay
pub record IsBetween (old : Contents) (slots : Slots) (new : Contents) : Type 0 where
  pub each : (key : List ℕ) → (kept_at new key ≡ kept_at old key) ⊎ (kept_at new key ≡ slot_at slots key)
  pub ages : new.ages ≡ old.ages

-- a crash left a shelf whose contents are between
abbrev pub LeftBetween : Contents → Slots → Left → Type 0
LeftBetween old slots left = (contents : Contents) × (left ≡ Ok contents) × IsBetween old slots contents

-- What a shelf holds now, and all that a crash may leave, is between what it held and these slots.
pub record MovesTowards {S : Type 0} (tells : Type 0) (contents : S → Contents) (may_leave : S → Left → Type 0) (slots : Slots) (old new : S) : Type 0 where
  pub between : IsBetween (contents old) slots (contents new)
  pub left : tells → (left : Left) → may_leave new left → LeftBetween (contents old) slots left
