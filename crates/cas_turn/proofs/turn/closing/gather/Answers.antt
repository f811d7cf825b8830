use Rattle.std.proofs.Common.{ap, ◌∙◌}
use Rattle.cas_turn.specs.Sitting.{Sitting}
use Rattle.cas_turn.specs.Steps.{Sat}
use Rattle.cas_turn.proofs.SeatedLemmas.{idle_place}
use Rattle.cas_turn.proofs.Parting.{gathers_at}
use Rattle.cas_turn.proofs.turn.closing.gather.Goals as goal

pub join_seat-requires : goal.join_seat-requires
join_seat-requires g c =
    let is = idle_place c.seat.inside.place.me c.seat.invariant.0 (ap (λ (s : Sitting g.row.V.Denot g.row.V-Item.Denot). s.holds) c.seat.view_is ∙ c.requires.idle) in (
      c.requires.table,
      ap (λ (s : Sitting g.row.V.Denot g.row.V-Item.Denot). s.turn) c.seat.view_is ∙ c.requires.turn,
      ap (λ (m : Sat g.row.V.Denot g.row.V-Item.Denot). m.1) is,
      c.requires.words,
      gathers_at _ _ _ _ _ _ _ _ _ _ (ap (λ (m : Sat g.row.V.Denot g.row.V-Item.Denot). m.0) c.requires.gathers) (ap (λ (m : Sat g.row.V.Denot g.row.V-Item.Denot). m.0) is),
    )
