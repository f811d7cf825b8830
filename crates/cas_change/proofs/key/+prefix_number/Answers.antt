use Rattle.std.proofs.Common.{◌≡◌, ◌∙◌, sym, ap, arith}
use Rattle.cas_change.specs.KeyPrefix.{prefix_number}
use Rattle.cas_change.proofs.Prefixes.{weightless, prefix_below, sum_of}
use Rattle.cas_change.proofs.key.+prefix_number.Goals as goal

pub overflow_add-result : goal.overflow_add-result
overflow_add-result t c = rw (c.from.ensures, c.prefix_number.ensures)
    (omega (
      arith,
      sum_of c.args.bytes.now c.args.weight c.in-len1-up.len_at_least,
      prefix_below c.args.bytes.now c.args.weight (λ i. omega (arith, c.type_inv.bytes i)),
      c.requires,
    ))

pub returns-in_default-2 : goal.returns-in_default-2
returns-in_default-2 t c =
    let none : c.args.weight ≡ 0 = omega (arith, c.if-weight-gt0.false) in
    sym (ap (prefix_number c.args.bytes.now) none ∙ weightless c.args.bytes.now)
