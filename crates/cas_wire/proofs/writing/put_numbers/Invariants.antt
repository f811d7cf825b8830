use Rattle.std.proofs.Common.{◌<◌, ◌^◌}
use Rattle.std.specs.Int.{w64, to_be_bytes}
use Rattle.cas_wire.proofs.Puts.{PutsFront}
use Rattle.cas_wire.proofs.writing.put_numbers.Given as goal

abbrev pub invariant-loop-number : goal.invariant-loop-number
invariant-loop-number l = PutsFront (to_be_bytes w64) (λ number. number < 2 ^ 64) 8 l.fn.out l.out l.numbers l.number-index
