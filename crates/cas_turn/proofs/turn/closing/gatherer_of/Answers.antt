use Rattle.std.proofs.Common.{ap, ◌∙◌}
use Rattle.cas_turn.specs.Sitting.{Sitting}
use Rattle.cas_turn.proofs.Parting.{begins_gathering}
use Rattle.cas_turn.proofs.turn.closing.gatherer_of.Goals as goal

pub split_seat-requires : goal.split_seat-requires
split_seat-requires g c = (ap (λ (s : Sitting g.row.V.Denot g.row.V-Item.Denot). s.turn) c.seat.view_is ∙ c.requires.turn, c.requires.words, begins_gathering _ _ _ _ _ _ _)
