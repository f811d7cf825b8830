use Rattle.std.proofs.Common.{◌∙◌, ap, Some}
use Rattle.cas_slot.proofs.SlotsLemmas.{lookup-slots}
use Rattle.cas_disk_shelf.proofs.held.Held.get.Goals as goal

pub returns-in_ok-copy-in-Some : goal.returns-in_ok-copy-in-Some
returns-in_ok-copy-in-Some c = ap Some c.in_ok-copy-in-Some.ensures ∙ c.in-Some.ensures.value ∙ rw (← c.self.view_is) (lookup-slots _ _)

pub returns-in-None : goal.returns-in-None
returns-in-None c = c.in-None.ensures.value ∙ rw (← c.self.view_is) (lookup-slots _ _)
