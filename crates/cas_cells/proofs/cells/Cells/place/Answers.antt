use Rattle.std.proofs.Common.{◌*◌, ◌∙◌, ap, ℕ}
use Rattle.cas_cells.specs.Format.{frame_place, cell_place}
use Rattle.cas_cells.proofs.cells.Cells.place.Goals as goal

pub returns-clause-place : goal.returns-clause-place
returns-clause-place g c =
    c.frame_place.ensures.place ∙ ap (λ (n : ℕ). frame_place c.args.self.now.narrow (2 * n)) c.from.ensures
    ∙ ap (λ (n : ℕ). cell_place n c.args.cell) c.requires.stands.narrow
