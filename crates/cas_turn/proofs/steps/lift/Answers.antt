use Rattle.std.proofs.Common.{rules, ◌∷◌, ◌∙◌, sym, ap, List, ℕ}
use Rattle.std.specs.Prelude.{Option, Some}
use Rattle.atomic_table.specs.Table.{rest}
use Rattle.cas_turn.proofs.steps.lift.Goals as goal

pub exchange-requires : goal.exchange-requires
exchange-requires g c = let t = c.requires.table in let f = c.requires.full in (search rules, (Some (f.0), f.1 ∙ ap (λ (l : List (ℕ × Option g.row.V.Denot)). (0, Some (f.0)) ∷ rest l) (sym f.1)))
