use Rattle.std.proofs.Common.{sym, ◌∙◌}
use Rattle.std.proofs.lemmas.Result.{IfOk-weaker}
use Rattle.serde_json.specs.View.{view}
use Rattle.cas_http.proofs.BodyPrograms.{spelled, none_spelled}
use Rattle.cas_http.proofs.program.read_program.Goals as goal

pub returns-in-Ok : goal.returns-in-Ok
returns-in-Ok c = IfOk-weaker c.program_in.result _ _ (λ program h. h ∙ sym (spelled c.args.body.now (view c.in-Ok.value) c.in-Ok.ensures.ok.0 c.in-Ok.ensures.ok.1)) c.program_in.ensures

pub returns-else-is_memory : goal.returns-else-is_memory
returns-else-is_memory c = sym (none_spelled c.args.body.now (c.in-Err.ensures.err (λ memory. cc (c.is_memory.ensures.1 memory))))
