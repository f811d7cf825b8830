use Rattle.std.proofs.Common.{rules, ℕ, ap, sym, ◌∙◌}
use Rattle.cas_turn.specs.Sitting.{fresh_seat}
use Rattle.cas_turn.proofs.SeatedLemmas.{fresh_more}
use Rattle.cas_turn.proofs.turn.opening.seats_of.Goals as goal

pub loop-number-preserved : goal.loop-number-preserved
loop-number-preserved g c = let i = c.loop-number.invariant in record {
  same = search rules;
  opens = search rules;
  seats = fresh_more c.args.top.now.table_id c.args.count _ c.loop-number.number c.loop-number.room.items c.push_reserved.new.self.items c.next_seat-seat.result c.push_reserved.ensures.items i.seats (c.next_seat-seat.ensures.seat ∙ ap (λ (n : ℕ). fresh_seat c.args.top.now.table_id n (g.V.Grows.list c.args.top.now.key.opened.value) c.loop-number.number) (sym c.requires.count));
  count = search rules;
  room = search rules;
}
