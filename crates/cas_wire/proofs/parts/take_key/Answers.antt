use Rattle.std.proofs.Common.{arith}
use Rattle.cas_wire.proofs.PartFormats.{key_format}
use Rattle.cas_wire.proofs.PartStops.{key_stops}
use Rattle.cas_wire.proofs.Taking.{left_over, found_spelled, found_place, wrong_spelled, wrong_place, wrong_first}
use Rattle.cas_wire.proofs.parts.take_key.Goals as goal

pub overflow_sub-result : goal.overflow_sub-result
overflow_sub-result c = left_over key_format c.args.bytes.now c.in-Ok.value c.in-Ok.rest.now (λ i. omega (arith, c.type_inv.bytes i)) c.in-Ok.ensures

pub overflow_sub-result-in-Err-Wrong : goal.overflow_sub-result-in-Err-Wrong
overflow_sub-result-in-Err-Wrong c = key_format.within c.args.bytes.now c.in-Err-Wrong.left (λ i. omega (arith, c.type_inv.bytes i)) (rw c.in-Err-Wrong.field-0-is at c.in-Err-Wrong.ensures)

pub returns-in-Ok-clause-spelled : goal.returns-in-Ok-clause-spelled
returns-in-Ok-clause-spelled c = found_spelled key_format c.args.bytes.now c.in-Ok.value c.in-Ok.rest.now (λ i. omega (arith, c.type_inv.bytes i)) c.in-Ok.ensures

pub returns-in-Ok-clause-place : goal.returns-in-Ok-clause-place
returns-in-Ok-clause-place c = found_place key_format c.args.bytes.now c.in-Ok.value c.in-Ok.rest.now (λ i. omega (arith, c.type_inv.bytes i)) c.in-Ok.ensures

pub returns-in-Err-Wrong-clause-spelled : goal.returns-in-Err-Wrong-clause-spelled
returns-in-Err-Wrong-clause-spelled c = wrong_spelled key_format c.args.bytes.now c.in-Err-Wrong.left (rw c.in-Err-Wrong.field-0-is at c.in-Err-Wrong.ensures)

pub returns-in-Err-Wrong-clause-place : goal.returns-in-Err-Wrong-clause-place
returns-in-Err-Wrong-clause-place c = wrong_place key_format c.args.bytes.now c.in-Err-Wrong.left (λ i. omega (arith, c.type_inv.bytes i)) (rw c.in-Err-Wrong.field-0-is at c.in-Err-Wrong.ensures)

pub returns-in-Err-Wrong-clause-first : goal.returns-in-Err-Wrong-clause-first
returns-in-Err-Wrong-clause-first c = wrong_first key_stops c.args.bytes.now c.in-Err-Wrong.left (λ i. omega (arith, c.type_inv.bytes i)) (rw c.in-Err-Wrong.field-0-is at c.in-Err-Wrong.ensures)
