use Rattle.std.proofs.Common.{sym}
use Rattle.cas_model.specs.View.{meaning}
use Rattle.cas_board_world.proofs.Forwards.{proposes_steady}
use Rattle.cas_board_world.proofs.world.SteadyWorld.propose_tombstone.Goals as goal

pub invariant_of-self : goal.invariant_of-self
invariant_of-self g c = proposes_steady (meaning g.S.Shelf g.V.Disk) c.self.inside.world c.propose_tombstone.result c.propose_tombstone.new.self c.self.invariant c.propose_tombstone.ensures.empty c.propose_tombstone.ensures.held c.propose_tombstone.ensures.err

pub returns-clause-empty : goal.returns-clause-empty
returns-clause-empty g c = rw (sym c.self.view_is) c.propose_tombstone.ensures.empty

pub returns-clause-held : goal.returns-clause-held
returns-clause-held g c = rw (sym c.self.view_is) c.propose_tombstone.ensures.held

pub returns-clause-reads : goal.returns-clause-reads
returns-clause-reads g c = rw (sym c.self.view_is) c.propose_tombstone.ensures.reads
