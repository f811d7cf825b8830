use Rattle.std.proofs.Common.{arith}
use Rattle.std.proofs.lemmas.Result.{err_from_is_err_and}
use Rattle.cas_store.specs.Rack.{rack_meaning}
use Rattle.cas_store.proofs.Asking.{index_empty, index_is_not}
use Rattle.cas_store.proofs.rack.expect_all_empty.Goals as goal

pub loop-place-preserved : goal.loop-place-preserved
loop-place-preserved g c = record {
  empty = index_empty (rack_meaning g.D.Disk) c.args.disks.now.items c.from.result c.loop-place.place c.loop-place.disks.items c.index_mut.result.now c.expect_one_empty.new.disk
      c.from.ensures (omega (arith, c.loop-place.invariant.empty.places, c.args.disks.now.ok.0, c.requires.all)) c.index_mut.ensures.value c.loop-place.invariant.empty c.in_ok-expect_one_empty.ensures.ok;
  to = omega arith;
}

pub returns-in_err-expect_one_empty-clause-err : goal.returns-in_err-expect_one_empty-clause-err
returns-in_err-expect_one_empty-clause-err g c =
    let p = err_from_is_err_and c.from_residual.result c.from_residual.ensures.1 in
    rw (p.1, p.2)
    (index_is_not (rack_meaning g.D.Disk) c.args.disks.now.items c.args.first c.from.result c.loop-place.place c.loop-place.disks.items c.in_err-expect_one_empty.field-0.0 c.index_mut.result.now c.expect_one_empty.new.disk
    c.from.ensures (omega (arith, c.loop-place.invariant.empty.places, c.args.disks.now.ok.0, c.requires.all)) c.index_mut.ensures.value c.loop-place.invariant.empty c.in_err-expect_one_empty.ensures.err)
