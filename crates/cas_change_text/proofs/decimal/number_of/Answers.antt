use Rattle.std.proofs.Common.{◌^◌, arith}
use Rattle.cas_change_text.proofs.Decimals.{number_beyond}
use Rattle.cas_change_text.proofs.decimal.number_of.Goals as goal

pub returns-in_err-checked_mul : goal.returns-in_err-checked_mul
returns-in_err-checked_mul c = rw c.from_residual.ensures (λ small.
    omega (arith, c.in_err-checked_mul.ensures, c.loop-byte.invariant.read, number_beyond c.args.digits.now c.loop-byte.byte-index c.loop-byte.number (2 ^ 64) (omega arith) (omega (arith, c.in_err-checked_mul.ensures))))

pub returns-in_err-number : goal.returns-in_err-number
returns-in_err-number c = rw c.from_residual-in_err-number.ensures (λ small.
    omega (arith, c.in_err-number.ensures, c.loop-byte.invariant.read, number_beyond c.args.digits.now c.loop-byte.byte-index c.loop-byte.number (2 ^ 64) (omega arith) (omega (arith, c.in_err-number.ensures))))
