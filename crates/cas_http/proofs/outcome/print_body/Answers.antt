use Rattle.std.proofs.lemmas.Result.{IfOk-weaker}
use Rattle.cas_http.proofs.OutcomeJson.{answer_has_no_float, answer_is_shallow, printed, read_again}
use Rattle.cas_http.proofs.outcome.print_body.Goals as goal

pub returns-clause-text : goal.returns-clause-text
returns-clause-text c = IfOk-weaker c.to_string.result _ _ (λ text h. printed _ _ _ c.in_ok-answer_value.ensures (answer_has_no_float c.args.answer.now) h) c.to_string.ensures.text

pub returns-clause-reads_back : goal.returns-clause-reads_back
returns-clause-reads_back c = IfOk-weaker c.to_string.result _ _ (λ text h. read_again _ _ _ c.in_ok-answer_value.ensures (answer_is_shallow c.args.answer.now) h) c.to_string.ensures.reads_back
