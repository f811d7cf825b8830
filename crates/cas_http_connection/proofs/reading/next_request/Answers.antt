use Rattle.std.proofs.Common.{Some, None, Err, ap, arith}
use Rattle.std.proofs.lemmas.Result.{err_from_is_err_and}
use Rattle.cas_http.specs.Requests.{BeginsWith}
use Rattle.cas_http.proofs.RequestSizes.{waits_for_few, request_fits}
use Rattle.cas_http_connection.proofs.Hearing.{begins_with, gathered_nothing, gathered_more, hears_request, hears_fault, no_piece}
use Rattle.cas_http_connection.proofs.reading.next_request.Goals as goal

pub loop-asked-init : goal.loop-asked-init
loop-asked-init g c = record { gathered = gathered_nothing _ _ _ _; counted = omega arith }

pub drop_front-requires : goal.drop_front-requires
drop_front-requires g c =
    let begins : BeginsWith c.loop-asked.held.items (Some c.in-Some.asked) = begins_with _ _ _ _ c.deref.ensures.value c.in-Some.is c.in_ok-asked.ensures in
    omega (arith, (request_fits _ _ begins).0)

pub returns-in-Some-clause-hears : goal.returns-in-Some-clause-hears
returns-in-Some-clause-hears g c =
    let begins : BeginsWith c.loop-asked.held.items (Some c.in-Some.asked) = begins_with _ _ _ _ c.deref.ensures.value c.in-Some.is c.in_ok-asked.ensures in
    hears_request _ _ _ _ _ _ _ _ _ c.loop-asked.invariant.gathered begins c.drop_front.ensures.items

pub returns-in_err-take_piece-clause-hears : goal.returns-in_err-take_piece-clause-hears
returns-in_err-take_piece-clause-hears g c =
    let p = err_from_is_err_and c.from_residual-in_err-take_piece.result c.from_residual-in_err-take_piece.ensures.1 in
    let begins : BeginsWith c.loop-asked.held.items None = begins_with _ _ _ _ c.deref.ensures.value c.in_default.is c.in_ok-asked.ensures in
    let err = c.in_err-take_piece.ensures.err in
    rw (p.1, p.2) (hears_fault _ _ _ _ _ _ _ _ _ _ c.in_err-take_piece.field-0.0 c.loop-asked.invariant.gathered begins err (no_piece _ _ _ _ err c.in_err-take_piece.ensures.taken)
    (λ is. c.in_err-take_piece.ensures.failed (ap Err is)) (λ is. c.in_err-take_piece.ensures.not_asked (ap Err is))
    (λ is. (c.in_err-take_piece.ensures.no_other 0).0 (ap Err is)) (λ at is. (c.in_err-take_piece.ensures.no_other at).1 (ap Err is)))

pub loop-asked-smaller : goal.loop-asked-smaller
loop-asked-smaller g c =
    let begins : BeginsWith c.loop-asked.held.items None = begins_with _ _ _ _ c.deref.ensures.value c.in_default.is c.in_ok-asked.ensures in
    let few = waits_for_few c.loop-asked.held.items begins in
    let more = (c.in_ok-take_piece.ensures.bytes cc).0 in
    omega (arith, few, more)

pub loop-asked-preserved : goal.loop-asked-preserved
loop-asked-preserved g c =
    let begins : BeginsWith c.loop-asked.held.items None = begins_with _ _ _ _ c.deref.ensures.value c.in_default.is c.in_ok-asked.ensures in
    record {
      gathered = gathered_more _ _ _ _ _ _ _ _ _ _ c.loop-asked.invariant.gathered begins c.in_ok-take_piece.ensures.front (c.in_ok-take_piece.ensures.bytes cc).1 c.in_ok-take_piece.ensures.taken;
      counted = omega (arith, c.loop-asked.invariant.counted, c.in_ok-take_piece.ensures.never_falls);
    }
