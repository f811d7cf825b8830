use Rattle.std.proofs.Common.{rules, ap}
use Rattle.cas_turn.specs.Steps.{Sat}
use Rattle.cas_turn.proofs.Parting.{numbers_at}
use Rattle.cas_turn.proofs.turn.opening.next_seat.Goals as goal

pub split_seat-requires : goal.split_seat-requires
split_seat-requires g c = let t = c.requires.table in (search rules, search rules, numbers_at _ _ _ _ _ _ c.args.number _ _ _ (ap (λ (m : Sat g.row.V.Denot g.row.V-Item.Denot). m.0) c.requires.opens) c.requires.room)
