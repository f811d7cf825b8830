use Rattle.cas_fate.specs.Links.{verdict_at}
use Rattle.casreg_script.proofs.Frames.Rules.{row_at, legs_more}
use Rattle.casreg_script.proofs.network.set_legs.Goals as goal

pub loop-leg-preserved : goal.loop-leg-preserved
loop-leg-preserved c = record {
  table = legs_more _ c.loop-leg.leg-index c.args.peer c.args.verdict (verdict_at c.args.links.now) (verdict_at c.loop-leg.links) (verdict_at c.set.new.self) (row_at c.loop-leg.leg-index c.loop-leg-test.true) c.set.ensures.here c.set.ensures.others c.loop-leg.invariant.table;
}
