use Rattle.cas_model.proofs.Exchanges.Tellings.{writable}
use Rattle.cas_model.proofs.Openings.Opens.{remembered_legal}
use Rattle.cas_world.proofs.world.World.record.Goals as goal

pub returns-clause-legal : goal.returns-clause-legal
returns-clause-legal g c shelves vaults = remembered_legal _ _ (c.self.invariant.remembered shelves vaults)

pub returns-clause-writable : goal.returns-clause-writable
returns-clause-writable g c = writable _ c.self.invariant.safe
