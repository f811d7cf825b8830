use Rattle.std.proofs.Common.{◌≡◌, ◌||◌, arith, rules}
use Rattle.cas_http.specs.Answers.{answer_text_of}
use Rattle.cas_http.specs.Codes.{closes}
use Rattle.cas_http.proofs.Responses.{reads}
use Rattle.cas_http.proofs.answer.print_answer.Goals as goal

pub returns-clause-response : goal.returns-clause-response
returns-clause-response c =
    let text : c.into_bytes.result.items ≡ answer_text_of c.args.code c.args.body.now (c.args.last || closes c.args.code) = search rules in
    reads c.into_bytes.result.items c.args.code c.args.body.now (c.args.last || closes c.args.code) (omega arith) text
