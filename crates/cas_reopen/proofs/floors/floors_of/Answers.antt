use Rattle.std.proofs.Common.{◌++◌, ◌∙◌, ℕ, List, subst, sym, ap}
use Rattle.std.proofs.lemmas.List.{append-nil}
use Rattle.cas_slot.specs.declared.slot.Slot.{Slot}
use Rattle.cas_restore.specs.Restored.{slots_of}
use Rattle.cas_world.specs.Openings.OpeningOn.{openings_of}
use Rattle.cas_reopen.specs.Floors.{AreFloorsOf}
use Rattle.cas_reopen.proofs.Listing.{floors_in, floors_of_entries}
use Rattle.cas_reopen.proofs.floors.floors_of.Goals as goal

pub returns : goal.returns
returns c = subst (AreFloorsOf (slots_of c.args.slots.now)) (sym c.loop-key.invariant
    ∙ ap (λ (rest : List (List ℕ × Slot)). openings_of c.loop-key.floors.items ++ floors_in rest) (c.in-None.ensures {u = tt}).steps.0 ∙ append-nil (openings_of c.loop-key.floors.items))
    (floors_of_entries c.args.slots.now c.iter-key-items.ensures.ordered)
