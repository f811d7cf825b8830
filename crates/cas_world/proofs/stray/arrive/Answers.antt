use Rattle.std.proofs.Common.{ℕ, slice_set, ap, arith}
use Rattle.cas_world.specs.Frames.Stray.{at_desk}
use Rattle.cas_world.proofs.Parts.{at_place}
use Rattle.cas_world.proofs.stray.arrive.Goals as goal

-- src/stray.rt:132:1
pub returns-then-place-len : goal.returns-then-place-len
returns-then-place-len g c =
    at_desk c.index_mut.result.now c.arrive.new.self
    (at_place c.args.desks.now.items c.from-place.result c.args.reply.to c.index_mut.result.now c.from-place.ensures (omega (arith, c.from-place.ensures, c.if-place-len.true, c.len.ensures)) c.index_mut.ensures.value)
    (record { desk = c.arrive.ensures.desk; heard = c.arrive.ensures.heard }) c.arrive.ensures.open
    (ap (λ (i : ℕ). slice_set c.args.desks.now.items i c.arrive.new.self) c.from-place.ensures)
