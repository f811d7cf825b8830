use Rattle.std.proofs.Common.{ap, sym, ◌∙◌, Some, None}
use Rattle.cas_http.proofs.Utf8.{if_utf8_is, if_utf8_not}
use Rattle.cas_http.proofs.outcome.as_utf8.Goals as goal

pub returns-in-Ok : goal.returns-in-Ok
returns-in-Ok c = ap Some c.in-Ok.ensures.cases.0 ∙ sym (if_utf8_is c.args.bytes.now (Some c.args.bytes.now) None c.in-Ok.ensures.cases.1)

pub returns-in-Err : goal.returns-in-Err
returns-in-Err c = sym (if_utf8_not c.args.bytes.now (Some c.args.bytes.now) None (λ h. absurd (c.in-Err.ensures.cases.0 h)))
