use Rattle.std.specs.Prelude.{is_some}
use Rattle.std.proofs.Common.{◌∙◌, ap, Option}
use Rattle.cas_slot.specs.declared.slot.Slot.{Slot}
use Rattle.cas_slot.proofs.SlotsLemmas.{lookup-slots}
use Rattle.cas_disk_shelf.proofs.held.Held.has.Goals as goal

pub returns : goal.returns
returns c = c.contains_key.ensures ∙ ap (λ (o : Option Slot). is_some o) (rw (← c.self.view_is) (lookup-slots _ _))
