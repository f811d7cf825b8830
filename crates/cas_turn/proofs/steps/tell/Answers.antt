use Rattle.std.proofs.Common.{rules, ap}
use mathlib.Core.Option.{none}
use Rattle.atomic_table.specs.Table.{step}
use Rattle.cas_turn.specs.Steps.{Sat}
use Rattle.cas_turn.proofs.Parting.{notes_at, tells_at, told_is, settles_at, hears}
use Rattle.cas_turn.proofs.steps.tell.Goals as goal

pub split_seat-note-requires : goal.split_seat-note-requires
split_seat-note-requires g c = let t = c.requires.table in (search rules, search rules, notes_at _ _ _ _ _ _ _ c.requires.seats.0)

pub join_seat-requires : goal.join_seat-requires
join_seat-requires g c = let t = c.requires.table in let n = c.split_seat-note.ensures in (
  search rules,
  search rules,
  ap (λ (m : Sat g.row.V.Denot g.row.V-Item.Denot). m.1) n.4,
  search rules,
  tells_at _ _ _ _ _ _ _ _ _ _ c.requires.seats.1 (ap (λ (m : Sat g.row.V.Denot g.row.V-Item.Denot). m.0) n.4),
)

pub load-requires : goal.load-requires
load-requires g c = let t = c.requires.table in let n = c.split_seat-note.ensures in let j = c.join_seat.ensures in (
  search rules,
  search rules,
  settles_at g.V.Grows.list g.V.Grows.owner g.V.Grows.part g.V.Grows.seats _ _ _ c.args.to.now.me _ _
      (told_is g.V.Grows.list g.V.Grows.owner g.V.Grows.part g.V.Grows.seats c.args.top.now.key.seats c.args.to.now.me c.split_seat-note.result.me c.join_seat.new.seat.me _ c.requires.seats.1 n.4 j.2),
)

pub returns : goal.returns
returns g c = let t = c.requires.table in let n = c.split_seat-note.ensures in let j = c.join_seat.ensures in let l = c.load.ensures in record {
  same = (record { table = search rules; place = search rules }, record { table = search rules; place = search rules });
  from = n.2;
  to = hears g.V.Grows.list g.V.Grows.owner g.V.Grows.part g.V.Grows.seats c.args.top.now.key.seats (step 0 0 0 0 none) 0 c.args.to.now.me _ _ _
      (told_is g.V.Grows.list g.V.Grows.owner g.V.Grows.part g.V.Grows.seats c.args.top.now.key.seats c.args.to.now.me c.split_seat-note.result.me c.join_seat.new.seat.me _ c.requires.seats.1 n.4 j.2)
      l.2;
}
