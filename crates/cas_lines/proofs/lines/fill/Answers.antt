use Rattle.std.proofs.Common.{◌≡◌, length, arith, rules, refl, ap, Err}
use Rattle.std.proofs.lemmas.List.{take_all}
use Rattle.std.proofs.lemmas.Grind.{common_steps}
use Rattle.std.proofs.lemmas.Result.{err_from_is_err_and}
use Rattle.std.proofs.KnownBytes.{Keeps-trans}
use Rattle.cas_lines.proofs.Calls.{gathered_nothing, is_open, gathered_more, nothing_added, grows_on, grows_to, grows_not}
use Rattle.cas_lines.proofs.Newlines.{newline_added, no_newline_added, no_newline_beyond, StartsWith-trans}
use Rattle.cas_lines.proofs.lines.fill.Goals as goal
use Rattle.cas_lines.proofs.lines.fill.Goals.{else-len-room-via-then-len-room+else-has_newline_from, else-len-room-via-else-len-room}

pub returns-then-has_newline_from-clause-line : goal.returns-then-has_newline_from-clause-line
returns-then-has_newline_from-clause-line g c = λ _.
    newline_added c.args.room c.loop-held.held.items c.take_piece.new.held.items c.in_ok-count.ensures.front (omega arith) cc

pub loop-held-init : goal.loop-held-init
loop-held-init g c = record {
  ahead = search rules;
  front = take_all (length c.args.held.now.items) _ (omega arith);
  none = grind (arith, common_steps);
  bound = omega arith;
  gathered = gathered_nothing _ _ _ _;
  counted = omega arith;
}

pub loop-held-preserved : goal.loop-held-preserved
loop-held-preserved g c = record {
  ahead = Keeps-trans _ _ _ c.loop-held.invariant.ahead c.in_ok-count.ensures.ahead;
  front = StartsWith-trans c.args.held.now.items c.loop-held.held.items c.take_piece.new.held.items c.loop-held.invariant.front c.in_ok-count.ensures.front;
  none = elim c.else-len-room.branch [
    | else-len-room-via-then-len-room+else-has_newline_from w ↦ no_newline_added c.args.room c.loop-held.held.items c.take_piece.new.held.items c.in_ok-count.ensures.front (omega arith) (omega arith) c.loop-held.invariant.none cc
    | else-len-room-via-else-len-room w ↦ no_newline_beyond c.args.room c.loop-held.held.items c.take_piece.new.held.items c.in_ok-count.ensures.front (omega (arith, c.in_ok-count.ensures.bound)) c.loop-held.invariant.none
  ];
  bound = omega (arith, c.in_ok-count.ensures.bound);
  gathered = gathered_more _ _ _ _ _ _ _ _ c.loop-held.invariant.gathered (is_open c.args.room c.loop-held.held.items c.loop-held.invariant.none (omega arith)) c.in_ok-count.ensures.front (c.in_ok-count.ensures.bytes c.if-count-eq0.false);
  counted = omega (arith, c.in_ok-count.ensures.never_falls);
}

-- ---- what the source was asked
pub returns-then-has_newline_within-clause-asks : goal.returns-then-has_newline_within-clause-asks
returns-then-has_newline_within-clause-asks g c = grows_on _ _ _ _ _ _ _ (gathered_nothing _ _ _ _) refl

pub returns-in_err-count-clause-asks : goal.returns-in_err-count-clause-asks
returns-in_err-count-clause-asks g c =
    let p = err_from_is_err_and c.from_residual.result c.from_residual.ensures.1 in
    let still = is_open c.args.room c.loop-held.held.items c.loop-held.invariant.none (omega arith) in
    rw (p.1, p.2, c.in_err-count.ensures.err) (grows_not _ _ _ _ _ _ _ c.in_err-count.field-0.0 c.loop-held.invariant.gathered still
    (λ is. c.in_err-count.ensures.failed (ap Err is)) (λ is. c.in_err-count.ensures.not_asked (ap Err is))
    (λ is. c.in_err-count.ensures.not_too_many (ap Err is)) (λ line is. c.in_err-count.ensures.not_endless line (ap Err is)))

pub returns-then-count-eq0-clause-asks : goal.returns-then-count-eq0-clause-asks
returns-then-count-eq0-clause-asks g c =
    let still = is_open c.args.room c.loop-held.held.items c.loop-held.invariant.none (omega arith) in
    let same : c.take_piece.new.held.items ≡ c.loop-held.held.items =
    nothing_added c.loop-held.held.items c.take_piece.new.held.items c.in_ok-count.ensures.front (omega (arith, c.in_ok-count.ensures.count)) in
    rw same (grows_to _ _ _ _ _ _ _ _ _ c.loop-held.invariant.gathered still (c.in_ok-count.ensures.ended c.if-count-eq0.true) refl)

pub returns-then-has_newline_from-clause-asks : goal.returns-then-has_newline_from-clause-asks
returns-then-has_newline_from-clause-asks g c =
    let still = is_open c.args.room c.loop-held.held.items c.loop-held.invariant.none (omega arith) in
    grows_on _ _ _ _ _ _ _ (gathered_more _ _ _ _ _ _ _ _ c.loop-held.invariant.gathered still c.in_ok-count.ensures.front (c.in_ok-count.ensures.bytes c.if-count-eq0.false)) refl

pub returns-clause-asks : goal.returns-clause-asks
returns-clause-asks g c = grows_on _ _ _ _ _ _ _ c.loop-held.invariant.gathered refl
