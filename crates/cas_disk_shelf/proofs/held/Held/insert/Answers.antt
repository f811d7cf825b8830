use Rattle.std.specs.Prelude.{is_some, if◌then◌else◌}
use Rattle.std.proofs.Common.{◌∙◌, ◌+◌, ap, sym}
use Rattle.cas_slot.proofs.SlotsLemmas.{put-slots, lookup-slots}
use Rattle.cas_slot.proofs.ListingLemmas.{slot_count-entries}
use Rattle.cas_disk_shelf.proofs.held.Held.insert.Goals as goal

pub returns-in-Ok-clause-ok : goal.returns-in-Ok-clause-ok
returns-in-Ok-clause-ok c = rw (← c.self.view_is) (ap (λ slots. record { slots = slots; ages = c.self.inside.ages }) (put-slots _ _ _ _ c.in-Ok.ensures.updates.0))

pub returns-in-Ok-clause-len : goal.returns-in-Ok-clause-len
returns-in-Ok-clause-len c =
    let was = c.in-Ok.ensures.old ∙ lookup-slots c.args.key c.self.inside.slots.entries in
    let count = slot_count-entries c.self.inside.slots.entries c.insert.ensures.was_ordered in
    rw (← c.self.view_is) (slot_count-entries _ c.insert.ensures.ordered ∙ c.in-Ok.ensures.len ∙ (λ t. sym count t + (if is_some (was t) then 0 else 1)))

pub returns-clause-absent : goal.returns-clause-absent
returns-clause-absent c = rw (← c.self.view_is) (sym (lookup-slots _ _) ∙ c.in-Err.ensures.absent)
