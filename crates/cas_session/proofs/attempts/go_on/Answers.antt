use Rattle.std.proofs.Common.{◌≡◌, ◌∙◌, ap, to_z, of_z}
use Rattle.std.specs.Prelude.{ℤ, FitsSigned}
use Rattle.std.specs.Int.{w64}
use Rattle.std.proofs.Math.Facts.{to_z-of_z}
use Rattle.cas_session_text.specs.Contents.{after_reply}
use Rattle.cas_session.specs.Request.{Request, request_of, reply_to, change_to}
use Rattle.cas_session.specs.Serving.{ends_with}
use Rattle.cas_session.proofs.Runs.{fits_of, none_stands, some_stands, gone_memory, gone_no_session, gone_answer, gone_change}
use Rattle.cas_session.proofs.attempts.go_on.Goals as goal

pub returns-in_default-clause-gone_on : goal.returns-in_default-clause-gone_on
returns-in_default-clause-gone_on g c = gone_memory c.without_memory.ensures

pub returns-in_default-found-clause-gone_on : goal.returns-in_default-found-clause-gone_on
returns-in_default-found-clause-gone_on g c = gone_no_session (none_stands c.args.state.now c.in-Ok.found c.in-Ok.ensures c.in_default-found.is)

pub returns-in_default-change_to-clause-gone_on : goal.returns-in_default-change_to-clause-gone_on
returns-in_default-change_to-clause-gone_on g c = gone_memory c.without_memory-in_default-change_to.ensures

pub returns-in-Answered-clause-gone_on : goal.returns-in-Answered-clause-gone_on
returns-in-Answered-clause-gone_on g c =
    gone_answer (g.C.Changer.caller_of c.args.changer.now) c.args.number c.caller-caller.result c.args.act c.in-Some.session c.decide.result c.caller-caller.ensures.caller
    (some_stands c.args.state.now c.in-Ok.found c.in-Some.session c.in-Ok.ensures c.in-Some.is) c.decide.ensures.decided c.in-Answered.is

pub returns-in-Ok-change_to-clause-gone_on : goal.returns-in-Ok-change_to-clause-gone_on
returns-in-Ok-change_to-clause-gone_on g c =
    let left : ℤ = c.in-Proposes.left in
    let fits : FitsSigned w64 left = fits_of c.decide.result left c.decide.ensures.fits c.in-Proposes.is in
    let same : to_z w64 (of_z w64 left) ≡ left = to_z-of_z fits in
    let request : Request = request_of c.caller-caller.result c.args.number c.args.act in
    let program = c.in-Ok-change_to.ensures ∙ ap (λ (l : ℤ). change_to c.args.state.now (after_reply (reply_to request l) c.in-Some.session)) same in
    let end = c.ends_with.ensures ∙ ap (λ (l : ℤ). ends_with l c.change-answer.result c.args.pending) same in
    gone_change (g.C.Changer.caller_of c.args.changer.now) c.args.number c.caller-caller.result c.args.act c.in-Some.session c.decide.result left c.in-Ok-change_to.program c.change-answer.result
    c.caller-caller.ensures.caller (some_stands c.args.state.now c.in-Ok.found c.in-Some.session c.in-Ok.ensures c.in-Some.is) c.decide.ensures.decided c.in-Proposes.is program
    c.change-answer.ensures.answer end
