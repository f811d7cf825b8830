use Rattle.std.proofs.Common.{ℕ, reverse, ap, subst, ◌∙◌}
use Rattle.std.specs.Prelude.{slice_index_or}
use Rattle.cas_model_causes.specs.Eras.Tellings.{AreTellingsSo}
use Rattle.cas_board_steps.specs.Mine.{mine}
use Rattle.cas_board_steps.proofs.Fronts.{mine_seen}
use Rattle.cas_board.proofs.board.Board.close.Goals as goal

pub returns-clause-mine : goal.returns-clause-mine
returns-clause-mine g c k d low =
    let pass = slice_index_or c.args.passes.items k d in
    ap (mine pass.number) c.into_closed.ensures.marks ∙ mine_seen pass.number pass.seen c.close.result.marks (c.close.ensures.seen k d low)

pub returns-clause-tellings : goal.returns-clause-tellings
returns-clause-tellings g c tells =
    subst (λ (n : ℕ). AreTellingsSo n (reverse c.into_closed.result.book.marks)) (c.close.ensures.seats ∙ ap (λ t. t.seats) c.self.view_is) (c.into_closed.ensures.tellings tells)
