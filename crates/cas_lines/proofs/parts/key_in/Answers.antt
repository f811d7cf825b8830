use Rattle.std.proofs.Common.{Ok, Err, sym, ap, ◌∙◌}
use Rattle.cas_lines.proofs.ChangeLines.{key_in-again, key_in-refused}
use Rattle.cas_lines.proofs.parts.key_in.Goals as goal

pub returns-in-Ok : goal.returns-in-Ok
returns-in-Ok c =
    let key = c.in-Ok.ensures.key in
    key_in-again c.args.at c.args.word.now key.1 ∙ (λ i. Ok (sym key.0 i))

pub returns-in-Err : goal.returns-in-Err
returns-in-Err c = rw c.why_no_key.ensures
    (key_in-refused c.args.at c.args.word.now c.in-Err.fault
    (λ is. c.in-Err.ensures.too_long.0 (ap Err is))
    (λ is. c.in-Err.ensures.empty.0 (ap Err is))
    (λ place is. (c.in-Err.ensures.bad_byte place).0 (ap Err is)))
