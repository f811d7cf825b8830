use Rattle.std.proofs.Common.{◌≡◌, length, arith, refl, ap, Err}
use Rattle.std.proofs.lemmas.Grind.{common_steps}
use Rattle.std.proofs.lemmas.Result.{err_from_is_err_and}
use Rattle.cas_lines.proofs.Calls.{gathered_nothing, empty_open, gathered_more, nothing_added, grows_on, grows_to, grows_not}
use Rattle.cas_lines.specs.Lines.{LinesState}
use Rattle.cas_lines.proofs.FirstLens.{has_more}
use Rattle.cas_lines.proofs.lines.Lines.expect_end.Goals as goal
use Rattle.cas_lines.proofs.lines.Lines.expect_end.Goals.{then-branch-eq0, else-branch-eq0}

pub returns-then-not-is_empty-clause-asks : goal.returns-then-not-is_empty-clause-asks
returns-then-not-is_empty-clause-asks g c = grows_on _ _ _ _ _ _ _ (gathered_nothing _ _ _ _) (λ is. cc, λ is. cc)

pub returns-in_err-take_piece-clause-asks : goal.returns-in_err-take_piece-clause-asks
returns-in_err-take_piece-clause-asks g c =
    let p = err_from_is_err_and c.from_residual.result c.from_residual.ensures.1 in
    let none : length c.drop_front.new.bytes.items ≡ 0 = grind (arith, common_steps) in
    rw (← c.self.view_is, ← c.drop_front.ensures.items, p.1, p.2, c.in_err-take_piece.ensures.err) (grows_not _ _ _ _ _ _ _ c.in_err-take_piece.field-0.0 (gathered_nothing _ _ _ _) (empty_open _ none)
    (λ is. c.in_err-take_piece.ensures.failed (ap Err is)) (λ is. c.in_err-take_piece.ensures.not_asked (ap Err is))
    (λ is. c.in_err-take_piece.ensures.not_too_many (ap Err is)) (λ line is. c.in_err-take_piece.ensures.not_endless line (ap Err is)))

pub returns-clause-too_many : goal.returns-clause-too_many
returns-clause-too_many g c = λ is. let old : LinesState = record { held = c.drop_front.new.bytes.items; handed = c.self.inside.handed } in rw (← c.self.view_is, ← c.drop_front.ensures.items) (elim c.if-branch-eq0.branch [
  | then-branch-eq0 w ↦ absurd cc
  | else-branch-eq0 w ↦ has_more old _ _ _ c.in_ok-take_piece.ensures.ahead (grind (arith, c.in_ok-take_piece.ensures.count))
])

pub returns-clause-asks : goal.returns-clause-asks
returns-clause-asks g c =
    let none : length c.drop_front.new.bytes.items ≡ 0 = grind (arith, common_steps) in
    let still = empty_open c.drop_front.new.bytes.items none in
    rw (← c.self.view_is, ← c.drop_front.ensures.items) (elim c.if-branch-eq0.branch [
      | then-branch-eq0 w ↦
          let same : c.take_piece.new.held.items ≡ c.drop_front.new.bytes.items =
          nothing_added c.drop_front.new.bytes.items c.take_piece.new.held.items c.in_ok-take_piece.ensures.front (omega (arith, c.in_ok-take_piece.ensures.count)) in
          rw (w.result-is, same) (grows_to _ _ _ _ _ _ _ _ _ (gathered_nothing _ _ _ _) still (c.in_ok-take_piece.ensures.ended w.if-branch-eq0.true) refl)
      | else-branch-eq0 w ↦ rw w.result-is
          (grows_on _ _ _ _ _ _ _ (gathered_more _ _ _ _ _ _ _ _ (gathered_nothing _ _ _ _) still c.in_ok-take_piece.ensures.front (c.in_ok-take_piece.ensures.bytes w.if-branch-eq0.false)) (λ is. cc, λ is. cc))
    ])
