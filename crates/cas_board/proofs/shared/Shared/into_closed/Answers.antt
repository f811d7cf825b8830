use Rattle.std.proofs.Common.{ℕ, suc, List, reverse, refl, sym, ap, subst, ◌∙◌}
use Rattle.cas_model_causes.specs.Eras.Tellings.{AreTellingsSo}
use Rattle.cas_record.specs.declared.mark.Mark.{Mark}
use Rattle.cas_board_world.specs.Steady.{IsBlamed}
use Rattle.cas_board.proofs.Blamed.{deserved_closed}
use Rattle.cas_board.proofs.shared.Shared.into_closed.Goals as goal

pub returns-clause-deserved : goal.returns-clause-deserved
returns-clause-deserved g c =
    deserved_closed _ g.D.Disk.fault_count c.into_world.result c.close-book.result.1.acceptors.items c.close-book.result.1.vaults.items c.close-book.result.0.marks (subst (IsBlamed _) (sym c.into_world.ensures.same) c.into_world.ensures.blamed) (λ shelf. refl) (λ disk. refl) c.close-book.ensures.acceptors c.close-book.ensures.vaults c.close-book.ensures.marks

pub returns-clause-tellings : goal.returns-clause-tellings
returns-clause-tellings g c tells =
    subst (λ (n : ℕ). AreTellingsSo (suc n) (reverse c.close-book.result.0.marks)) (ap (λ v. v.last_proposer) c.self.view_is)
    (subst (λ (marks : List Mark). AreTellingsSo (suc c.self.inside.world.last_proposer) (reverse marks)) (sym (c.close-book.ensures.marks ∙ ap (λ w. w.marks) c.into_world.ensures.same)) (c.into_world.ensures.tellings tells tells))
