use Rattle.std.proofs.Common.{◌∙◌, sym}
use Rattle.cas_slot.proofs.ListingLemmas.{slot_count-entries}
use Rattle.cas_disk_shelf.proofs.held.Held.len.Goals as goal

pub returns : goal.returns
returns c = c.len.ensures.len ∙ rw (← c.self.view_is) (sym (slot_count-entries _ c.len.ensures.ordered))
