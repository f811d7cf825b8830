use Rattle.std.proofs.lemmas.Result.{err_from_is_err_and}
use Rattle.cas_wire.proofs.Loops.{age_read, ages_wrong, ages_done}
use Rattle.cas_wire.proofs.request.ages_at.Goals as goal

pub returns-in_err-age : goal.returns-in_err-age
returns-in_err-age c =
    let p = err_from_is_err_and c.from_residual.result c.from_residual.ensures.1 in
    rw (p.1, p.2) (ages_wrong c.in_err-age.field-0.0 c.loop-i.least.0 c.loop-i.rest.now c.args.bytes.now c.loop-i.i c.loop-i-test.true c.loop-i.invariant c.in_err-age.ensures.reading)

pub loop-i-preserved : goal.loop-i-preserved
loop-i-preserved c = age_read c.loop-i.least.0 c.loop-i.rest.now c.args.bytes.now c.loop-i.i c.in_ok-age.age c.in_ok-age.after.now c.loop-i-test.true c.loop-i.invariant c.in_ok-age.ensures.reading

pub returns : goal.returns
returns c = ages_done c.loop-i.least.0 c.loop-i.rest.now c.args.bytes.now c.loop-i.i c.loop-i-test.false c.loop-i.invariant
