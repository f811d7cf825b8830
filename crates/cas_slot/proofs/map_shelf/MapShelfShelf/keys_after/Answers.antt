use Rattle.cas_slot.proofs.map_shelf.MapShelfShelf.keys_after.Goals as goal

pub returns : goal.returns
returns c = rw (← c.self.view_is) c.keys_after.ensures
