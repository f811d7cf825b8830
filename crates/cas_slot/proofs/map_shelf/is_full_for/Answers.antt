use Rattle.std.specs.Prelude.{is_some, IsTrue}
use Rattle.std.proofs.Common.{◌≡◌, ◌∙◌, Bool, Option, Some, None, ap, refl}
use Rattle.std.proofs.lemmas.Bool.{le-leb}
use Rattle.cas_slot.specs.Slots.{slot_at}
use Rattle.cas_slot.specs.declared.slot.Slot.{Slot}
use Rattle.cas_slot.proofs.SlotsLemmas.{lookup-slots}
use Rattle.cas_slot.proofs.ListingLemmas.{slot_count-entries}
use Rattle.std.specs.FinMap as maps
use mathlib.Core.Bool.{not}
use Rattle.cas_slot.proofs.map_shelf.is_full_for.Goals as goal

-- whether the key has a slot
found : (c : goal.After-contains_key) → c.contains_key.result ≡ is_some (slot_at (maps.from_entries c.args.slots.now.entries) c.args.key.now)
found c = c.contains_key.ensures ∙ ap (λ (o : Option Slot). is_some o) (lookup-slots c.args.key.now c.args.slots.now.entries)

absent : (slot : Option Slot) (some : Bool) → some ≡ is_some slot → IsTrue (not some) → slot ≡ None
absent None some is none = refl
absent (Some slot) some is none = absurd cc

present : (slot : Option Slot) (some : Bool) → some ≡ is_some slot → slot ≡ None → IsTrue (not some)
present slot some is none = rw (is, none) refl

pub returns-then-len-ge-MOST_SLOTS-clause-full : goal.returns-then-len-ge-MOST_SLOTS-clause-full
returns-then-len-ge-MOST_SLOTS-clause-full c = λ none. record {
  new_key = absent _ _ (found c) none;
  no_room = rw (slot_count-entries c.args.slots.now.entries c.len.ensures.ordered, ← c.len.ensures.len) c.if-len-ge-MOST_SLOTS.true;
}

pub returns-then-len-ge-MOST_SLOTS-clause-room : goal.returns-then-len-ge-MOST_SLOTS-clause-room
returns-then-len-ge-MOST_SLOTS-clause-room c = λ full. present _ _ (found c) full.new_key

pub returns-else-len-ge-MOST_SLOTS-clause-room : goal.returns-else-len-ge-MOST_SLOTS-clause-room
returns-else-len-ge-MOST_SLOTS-clause-room c = λ full. le-leb 4096 c.len.result (rw (c.len.ensures.len, ← slot_count-entries c.args.slots.now.entries c.len.ensures.ordered) full.no_room)
