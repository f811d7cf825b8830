use Rattle.std.proofs.Common.{rules, ◌≡◌}
use Rattle.std.specs.Prelude.{None}
use Rattle.std.proofs.lemmas.List.Elements.{All-pop}
use Rattle.cas_turn.specs.Sitting.{Sitting}
use Rattle.cas_turn.proofs.SeatedLemmas.{entries_pop, gathering_is, them_in}
use Rattle.cas_turn.proofs.turn.closing.gather_all.Goals as goal

pub loop-seat-preserved : goal.loop-seat-preserved
loop-seat-preserved g c = let i = c.loop-seat.invariant in record {
  same = search rules;
  gathers = gathering_is _ _ c.gather.ensures.gathers;
  entries = entries_pop _ _ _ _ _ _ c.in-Some.ensures.items (them_in _ _ c.gather.ensures.gathers) i.entries;
  turn = (All-pop (λ (s : Sitting g.row.V.Denot g.row.V-Item.Denot). s.turn ≡ c.args.top.now.table_id) _ _ _ c.pop.ensures.items i.turn).0;
  idle = (All-pop (λ (s : Sitting g.row.V.Denot g.row.V-Item.Denot). s.holds ≡ None) _ _ _ c.pop.ensures.items i.idle).0;
}
