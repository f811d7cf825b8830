use Rattle.std.proofs.Common.{sym, ◌∙◌, arith}
use Rattle.std.proofs.lemmas.Result.{err_from_is_err_and}
use Rattle.cas_http_connection.proofs.Spelling.{more_may_come}
use Rattle.cas_http_connection.proofs.Serving.{midway_nothing, input_over, read_failed, next_request, last_told, next_fits, goes_on, closed_behind, broken_off}
use Rattle.cas_http_connection.proofs.connection.serve.Goals as goal

pub loop-held-init : goal.loop-held-init
loop-held-init g c = record {
  midway = rw c.new-held.ensures.items (midway_nothing _ _ _);
  few = omega arith;
  short = omega arith;
  source_faults = omega arith;
  sink_faults = omega arith;
}

pub returns-in_err-asked-clause-serves : goal.returns-in_err-asked-clause-serves
returns-in_err-asked-clause-serves g c =
    let p = err_from_is_err_and c.from_residual.result c.from_residual.ensures.1 in
    rw (p.1, p.2) (read_failed _ _ _ _ _ _ _ _ _ _ c.in_err-asked.field-0.0 c.loop-held.invariant.midway c.in_err-asked.ensures.hears)

pub answer_request-requires : goal.answer_request-requires
answer_request-requires g c =
    let hears = rw c.in-Some.is at c.in_ok-asked.ensures.hears in
    let next = next_request _ _ _ _ _ _ _ c.in-Some.asked _ _ _ c.loop-held.invariant.midway hears in
    λ closing. c.is_last-last.ensures ∙ last_told _ _ _ _ _ _ _ _ next closing

pub returns-in_err-answer_request-clause-serves : goal.returns-in_err-answer_request-clause-serves
returns-in_err-answer_request-clause-serves g c =
    let hears = rw c.in-Some.is at c.in_ok-asked.ensures.hears in
    let next = next_request _ _ _ _ _ _ _ c.in-Some.asked _ _ _ c.loop-held.invariant.midway hears in
    let p = err_from_is_err_and c.from_residual-in_err-answer_request.result c.from_residual-in_err-answer_request.ensures.1 in
    let told = rw c.is_last-last.ensures at c.in_err-answer_request.ensures.answers in
    rw (p.1, p.2) (broken_off _ _ _ _ _ _ _ told.0 _ _ _ c.in_err-answer_request.field-0.0 next told.1 told.2)

pub returns-then-last-clause-serves : goal.returns-then-last-clause-serves
returns-then-last-clause-serves g c =
    let hears = rw c.in-Some.is at c.in_ok-asked.ensures.hears in
    let next = next_request _ _ _ _ _ _ _ c.in-Some.asked _ _ _ c.loop-held.invariant.midway hears in
    let told = rw c.is_last-last.ensures at c.in_ok-answer_request.ensures.answers in
    closed_behind _ _ _ _ _ _ _ told.0 _ _ _ next told.1 told.2 (sym c.is_last-last.ensures ∙ c.if-last.true)

pub overflow_add-passed : goal.overflow_add-passed
overflow_add-passed g c =
    let hears = rw c.in-Some.is at c.in_ok-asked.ensures.hears in
    let next = next_request _ _ _ _ _ _ _ c.in-Some.asked _ _ _ c.loop-held.invariant.midway hears in
    let fits = next_fits _ _ _ _ _ _ _ _ next in
    omega (arith, fits, c.loop-held.invariant.few, c.loop-held.invariant.short)

pub loop-held-preserved : goal.loop-held-preserved
loop-held-preserved g c =
    let hears = rw c.in-Some.is at c.in_ok-asked.ensures.hears in
    let next = next_request _ _ _ _ _ _ _ c.in-Some.asked _ _ _ c.loop-held.invariant.midway hears in
    let fits = next_fits _ _ _ _ _ _ _ _ next in
    let told = rw c.is_last-last.ensures at c.in_ok-answer_request.ensures.answers in
    record {
      midway = goes_on _ _ _ _ _ _ _ told.0 _ _ _ next told.1 told.2 (sym c.is_last-last.ensures ∙ c.if-last.false);
      few = more_may_come c.loop-held.answered c.in-Some.asked (sym c.is_last-last.ensures ∙ c.if-last.false) c.loop-held.invariant.few;
      short = omega (arith, fits, c.loop-held.invariant.short);
      source_faults = omega (arith, c.loop-held.invariant.source_faults, c.next_request.ensures.never_falls);
      sink_faults = omega (arith, c.loop-held.invariant.sink_faults, c.answer_request.ensures.never_falls);
    }

pub returns-clause-serves : goal.returns-clause-serves
returns-clause-serves g c =
    let hears = rw c.in_default.is at c.in_ok-asked.ensures.hears in
    let nothing = rw c.deref.ensures.value at c.expect_nothing.ensures.nothing in
    let cut = rw c.deref.ensures.value at c.expect_nothing.ensures.cut in
    input_over _ _ _ _ _ _ _ _ _ _ c.expect_nothing.result c.loop-held.invariant.midway hears nothing cut
