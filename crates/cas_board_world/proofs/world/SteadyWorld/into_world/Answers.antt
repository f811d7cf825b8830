use Rattle.std.proofs.Common.{suc, subst, reverse}
use Rattle.cas_model_causes.specs.Eras.Tellings.{AreTellingsSo}
use Rattle.cas_board_world.proofs.world.SteadyWorld.into_world.Goals as goal

pub returns-clause-tellings : goal.returns-clause-tellings
returns-clause-tellings g c shelves disks = subst (λ v. AreTellingsSo (suc v.last_proposer) (reverse v.marks)) c.self.view_is (c.self.invariant.telling shelves disks).tellings
