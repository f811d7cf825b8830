use Rattle.std.proofs.Common.{arith}
use Rattle.cas_lines.proofs.Pieces.{Appends-take_more}
use Rattle.cas_lines.proofs.sink.put_all.Goals as goal

pub loop-written-preserved : goal.loop-written-preserved
loop-written-preserved g c = record {
  within = omega (arith, c.in_ok-written.ensures.bound);
  front = Appends-take_more _ _ _ c.args.bytes.now c.loop-written.written _ c.loop-written.invariant.front c.in_ok-written.ensures.bytes;
  counted = omega (arith, c.put.ensures.by_count.never_falls);
}
