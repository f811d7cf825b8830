use Rattle.std.proofs.Common.{ap}
use Rattle.cas_slot.proofs.SlotsLemmas.{drop-slots}
use Rattle.cas_disk_shelf.proofs.held.Held.remove.Goals as goal

pub returns : goal.returns
returns c = rw (← c.self.view_is) (ap (λ slots. record { slots = slots; ages = c.self.inside.ages }) (drop-slots _ _ _ c.remove.ensures.updates.0))
