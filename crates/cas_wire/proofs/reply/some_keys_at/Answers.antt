use Rattle.std.proofs.lemmas.Result.{err_from_is_err_and}
use Rattle.cas_wire.specs.FrameReading.{list_at}
use Rattle.cas_wire.specs.Reading.{key_at}
use Rattle.cas_wire.proofs.Loops.{goes_on, ends, is_done}
use Rattle.cas_wire.proofs.reply.some_keys_at.Goals as goal

pub returns-in_err-key : goal.returns-in_err-key
returns-in_err-key c =
    let p = err_from_is_err_and c.from_residual.result c.from_residual.ensures.1 in
    rw (p.1, p.2) (ends key_at c.in_err-key.field-0.0 c.loop.keys.items c.args.count c.loop.counter c.loop.rest.now (list_at key_at c.args.count c.args.bytes.now) c.loop-test.true c.in_err-key.ensures c.loop.invariant)

pub loop-preserved : goal.loop-preserved
loop-preserved c = rw c.in_ok-push.ensures.items (goes_on key_at c.loop.keys.items c.args.count c.loop.counter c.loop.rest.now c.in_ok-key.key c.in_ok-key.after.now (list_at key_at c.args.count c.args.bytes.now) c.loop-test.true c.in_ok-key.ensures c.loop.invariant)

pub returns : goal.returns
returns c = is_done key_at c.loop.keys.items c.args.count c.loop.counter c.loop.rest.now (list_at key_at c.args.count c.args.bytes.now) c.loop-test.false c.loop.invariant
