use Rattle.cas_disk_shelf.proofs.held.Held.keys_after.Goals as goal

pub returns : goal.returns
returns c = rw (← c.self.view_is) c.keys_after.ensures
