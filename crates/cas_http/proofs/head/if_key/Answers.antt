use Rattle.std.proofs.Common.{ap, sym, ◌∙◌, Some, ◌≡◌, rules}
use Rattle.cas_change.specs.declared.key.KeyFault.TheVariants.{NoMemory}
use Rattle.cas_http.proofs.KeyTests.{if_key_is, if_key_not}
use Rattle.cas_http.proofs.head.if_key.Goals as goal

pub returns-in-Ok : goal.returns-in-Ok
returns-in-Ok c = ap Some c.in-Ok.ensures.key.0 ∙ sym (if_key_is c.args.bytes.now c.in-Ok.ensures.key.1)

pub returns-else-eq : goal.returns-else-eq
returns-else-eq c = sym (if_key_not c.args.bytes.now (λ key. let full : c.in-Err.fault ≡ NoMemory = c.in-Err.ensures.no_memory.1 key in search rules))
