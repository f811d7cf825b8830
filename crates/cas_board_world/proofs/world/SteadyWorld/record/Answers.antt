use Rattle.std.proofs.Common.{ℕ, suc, sym, ap, subst, List, reverse}
use Rattle.cas_model_causes.specs.Eras.Tellings.{AreTellingsSo}
use Rattle.cas_record.specs.declared.mark.Mark.{Mark}
use Rattle.cas_board_world.proofs.world.SteadyWorld.record.Goals as goal

pub returns-clause-tellings : goal.returns-clause-tellings
returns-clause-tellings g c shelves disks =
    subst (λ (marks : List Mark). AreTellingsSo (suc c.args.self.now.last_proposer) (reverse marks)) (sym c.record.ensures.marks)
    (subst (λ (n : ℕ). AreTellingsSo (suc n) (reverse c.self.inside.world.marks)) (ap (λ v. v.last_proposer) c.self.view_is) (c.self.invariant.telling shelves disks).tellings)
