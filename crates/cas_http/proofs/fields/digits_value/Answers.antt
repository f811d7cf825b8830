use Rattle.std.proofs.Common.{ap, ◌∙◌}
use Rattle.std.specs.Result.{result_ok}
use Rattle.cas_http.proofs.Lengths.{digits_are_utf8, number_read}
use Rattle.cas_http.proofs.fields.digits_value.Goals as goal

pub returns-in-Ok : goal.returns-in-Ok
returns-in-Ok c = c.ok.ensures.value ∙ ap result_ok (number_read c.args.digits.now c.in-Ok.text.now c.parse.result c.in-Ok.ensures.cases.0 c.requires c.parse.ensures.value.0)

pub returns-in-Err : goal.returns-in-Err
returns-in-Err c = absurd (c.in-Err.ensures.cases.0 (digits_are_utf8 c.args.digits.now c.requires))
