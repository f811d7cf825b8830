use Rattle.std.proofs.Common.{arith}
use Rattle.cas_http.proofs.Fronts.{front_is}
use Rattle.cas_http.proofs.head.front_of.Goals as goal

pub returns : goal.returns
returns c = front_is c.args.bytes.now c.min.result (λ less. omega (arith, c.min.ensures)) (λ more. omega (arith, c.min.ensures))
