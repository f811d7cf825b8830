use Rattle.std.proofs.Common.{ℕ, ◌∙◌, sym, ap, subst}
use Rattle.std.specs.Prelude.{IsSome}
use Rattle.cas_turn.specs.Steps.{Grew}
use Rattle.cas_turn.specs.Sitting.{Sitting}
use Rattle.cas_turn.proofs.SeenLemmas.{added_whole}
use Rattle.cas_turn.proofs.SeatedLemmas.{holds_value}
use Rattle.cas_turn.proofs.turn.Turn.give_back.Goals as goal

pub give_turn-requires-clause-grew : goal.give_turn-requires-clause-grew
give_turn-requires-clause-grew g c =
    let same = c.seat.view_is in
    let h = holds_value c.seat.inside.place.me c.seat.invariant.0 (subst (λ (s : Sitting g.row.V.Denot g.row.V-Item.Denot). IsSome s.holds) (sym same) c.requires.holds) in
    let held = sym (ap (λ (s : Sitting g.row.V.Denot g.row.V-Item.Denot). s.holds) same) ∙ h.1 in
    let number = ap (λ (s : Sitting g.row.V.Denot g.row.V-Item.Denot). s.number) same in (
      h.0,
      h.2,
      subst (λ (n : ℕ). Grew g.V.Grows.list g.V.Grows.owner g.V.Grows.part g.V.Grows.seats n (h.0) c.args.value) (sym number) (record {
        whole = added_whole _ _ (c.requires.grows (h.0) held);
        owned = c.requires.owned (h.0) held;
        others = c.requires.others (h.0) held;
        for_seats = c.requires.seats (h.0) held;
      }),
    )
