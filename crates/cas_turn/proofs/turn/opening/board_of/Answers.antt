use Rattle.std.proofs.Common.{◌≡◌, ◌∙◌, sym, subst, ap, ◌++◌, [], ◌∷◌, List, ℕ}
use Rattle.std.specs.Prelude.{Option, Some}
use Rattle.atomic_table.specs.Table.{opening}
use Rattle.cas_turn.specs.declared.view.View.TheVariants.{Opens}
use Rattle.cas_turn.specs.Rule.{Kept}
use Rattle.cas_turn.proofs.Parting.{opens}
use Rattle.cas_turn.proofs.turn.opening.board_of.Goals as goal

pub new-requires : goal.new-requires
new-requires g c = let pushed : c.push_reserved.new.self.items ≡ Some c.args.value ∷ [] = c.push_reserved.ensures.items ∙ ap (λ (l : List (Option g.row.V.Denot)). l ++ Some c.args.value ∷ []) c.in-Ok.ensures.items in
    let opened = c.of-opened.ensures in
    subst (λ (x : ℕ × List (Option g.row.V.Denot) × g.row.V.Denot). Kept g.V.Grows.list g.V.Grows.owner g.V.Grows.part g.V.Grows.seats c.args.seats (opening (0 ∷ 0 ∷ x.0 ∷ []) x.1 (Opens 0 c.args.seats (g.V.Grows.list x.2)))) (λ i. (sym c.items.ensures i, sym pushed i, sym opened i))
    (opens g.V.Grows.list g.V.Grows.owner g.V.Grows.part g.V.Grows.seats c.args.seats c.args.value c.requires.no_parts c.requires.seats)
