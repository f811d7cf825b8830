use Rattle.std.proofs.Common.{◌≡◌, ◌+◌, ℕ, slice_set, subst, arith}
use Rattle.cas_world.specs.Openings.Opening.{AreStartedBelow}
use Rattle.cas_world.proofs.Openings.Starting.{none_below, member_starts, member_fails}
use Rattle.cas_world.proofs.open.start_members.Goals as goal
use Rattle.cas_model.specs.View.{shelf_meaning}

pub loop-number-init : goal.loop-number-init
loop-number-init g c = record {
  started = none_below (shelf_meaning g.S.Shelf) g.S.Shelf.fault_count c.args.acceptors.now.items;
  to = omega arith;
}

pub loop-number-preserved : goal.loop-number-preserved
loop-number-preserved g c =
    let by = c.in-Ok.ensures {u = tt} in
    record {
      started = member_starts (shelf_meaning g.S.Shelf) g.S.Shelf.fault_count c.args.acceptors.now.items c.loop-number.acceptors.items c.loop-number.number c.from.result c.index_mut.result.now c.restart.new.self
          c.from.ensures (omega (arith, c.loop-number.invariant.started.places, c.args.acceptors.now.ok.0, c.requires.few)) c.index_mut.ensures.value (omega arith) c.requires.fresh c.loop-number.invariant.started by.same by.started by.up by.afresh by.kept by.cause.never_falls;
      to = omega arith;
    }

pub returns-in-Err-clause-err : goal.returns-in-Err-clause-err
returns-in-Err-clause-err g c =
    let by = c.in-Err.ensures {u = tt} in
    member_fails (shelf_meaning g.S.Shelf) g.S.Shelf.fault_count c.args.acceptors.now.items c.loop-number.acceptors.items c.args.count c.loop-number.number c.from.result c.index_mut.result.now c.restart.new.self
    c.restart.result c.in-Err.fault c.fault_of_shelf.result c.from.ensures (omega (arith, c.loop-number.invariant.started.places, c.args.acceptors.now.ok.0, c.requires.few)) c.index_mut.ensures.value (omega arith) (omega arith) c.requires.fresh c.loop-number.invariant.started
    by.same by.not_started by.still_down by.err c.in-Err.is c.restart.ensures.cause c.fault_of_shelf.ensures

pub returns-clause-ok : goal.returns-clause-ok
returns-clause-ok g c =
    let last : c.loop-number.number ≡ c.args.count + 1 = omega (arith, c.loop-number.invariant.to, c.loop-number-test.false) in
    subst (λ (n : ℕ). AreStartedBelow (shelf_meaning g.S.Shelf) g.S.Shelf.fault_count c.args.acceptors.now.items n c.loop-number.acceptors.items) last c.loop-number.invariant.started

pub returns-in-Ok-clause-ok : goal.returns-in-Ok-clause-ok
returns-in-Ok-clause-ok g c =
    let by = c.in-Ok.ensures {u = tt} in
    let last : c.loop-number.number ≡ c.args.count = omega arith in
    subst (λ (n : ℕ). AreStartedBelow (shelf_meaning g.S.Shelf) g.S.Shelf.fault_count c.args.acceptors.now.items (n + 1) (slice_set c.loop-number.acceptors.items c.from.result c.restart.new.self)) last
    (member_starts (shelf_meaning g.S.Shelf) g.S.Shelf.fault_count c.args.acceptors.now.items c.loop-number.acceptors.items c.loop-number.number c.from.result c.index_mut.result.now c.restart.new.self
    c.from.ensures (omega (arith, c.loop-number.invariant.started.places, c.args.acceptors.now.ok.0, c.requires.few)) c.index_mut.ensures.value (omega arith) c.requires.fresh c.loop-number.invariant.started by.same by.started by.up by.afresh by.kept by.cause.never_falls)
