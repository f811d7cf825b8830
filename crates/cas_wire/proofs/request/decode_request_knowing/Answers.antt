use Rattle.std.proofs.Common.{arith, ◌∙◌}
use Rattle.cas_wire.proofs.Frames.{request_found, request_only, request_wrong}
use Rattle.cas_wire.proofs.request.decode_request_knowing.Goals as goal

pub returns-in-Ok-clause-found : goal.returns-in-Ok-clause-found
returns-in-Ok-clause-found c = rw c.whole.ensures (request_found c.args.bytes.now c.in-Ok.request c.in-Ok.rest.now (λ i. omega (arith, c.type_inv.bytes i)) c.in-Ok.ensures)

pub returns-in-Ok-clause-only : goal.returns-in-Ok-clause-only
returns-in-Ok-clause-only c = λ other is. c.whole.ensures ∙ request_only c.args.bytes.now c.in-Ok.request c.in-Ok.rest.now c.in-Ok.ensures other is

pub returns-in-Err-Wrong-clause-only : goal.returns-in-Err-Wrong-clause-only
returns-in-Err-Wrong-clause-only c = λ other is. absurd (request_wrong c.args.bytes.now c.in-Err-Wrong.field-0-0 (rw c.in-Err-Wrong.field-0-is at c.in-Err-Wrong.ensures) other is)
