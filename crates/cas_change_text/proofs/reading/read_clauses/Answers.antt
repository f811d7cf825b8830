use Rattle.std.proofs.Common.{◌+◌, ◌-◌, List, Ok, sym, ap, ◌∙◌, arith}
use Rattle.std.proofs.lemmas.Result.{err_from_is_err_and}
use Rattle.cas_change.specs.declared.program.TheConstants.{MOST_CLAUSES}
use Rattle.cas_change.specs.declared.program.Clause.{Clause}
use Rattle.cas_change_text.specs.Reading.{clauses_at}
use Rattle.cas_change_text.proofs.ClauseLists.{with_front, one_clause, last_clause, no_clause, no_semicolon}
use Rattle.cas_change_text.proofs.reading.read_clauses.Goals as goal

pub returns-in_err-clause-clause-clauses : goal.returns-in_err-clause-clause-clauses
returns-in_err-clause-clause-clauses c =
    let p = err_from_is_err_and c.from_residual.result c.from_residual.ensures.1 in
    rw (p.1, p.2) (λ known. sym c.loop-clause.invariant.read
    ∙ no_clause MOST_CLAUSES c.loop-clause._clause c.loop-clause.clauses.items c.loop-clause.words c.in_err-clause.field-0.0 (omega arith) (c.in_err-clause.ensures known))

pub returns-in_err-read_semicolon-clause-clauses : goal.returns-in_err-read_semicolon-clause-clauses
returns-in_err-read_semicolon-clause-clauses c =
    let p = err_from_is_err_and c.from_residual-in_err-read_semicolon.result c.from_residual-in_err-read_semicolon.ensures.1 in
    rw (p.1, p.2) (λ known. sym c.loop-clause.invariant.read
    ∙ no_semicolon MOST_CLAUSES c.loop-clause._clause c.loop-clause.clauses.items c.loop-clause.words c.read_clause.new.words c.in_ok-clause.clause c.in_err-read_semicolon.field-0.0 (omega arith) c.in_ok-clause.ensures c.in_err-read_semicolon.ensures)

pub returns-then-not-branch-clause-clauses : goal.returns-then-not-branch-clause-clauses
returns-then-not-branch-clause-clauses c =
    sym c.loop-clause.invariant.read
    ∙ last_clause MOST_CLAUSES c.loop-clause._clause c.loop-clause.clauses.items c.loop-clause.words c.read_clause.new.words c.read_semicolon.new.words c.in_ok-clause.clause (omega arith) c.in_ok-clause.ensures (rw c.if-not-branch.true at c.in_ok-read_semicolon.ensures)
    ∙ (λ i. Ok (sym c.in_ok-push_clause.ensures.ok i))

pub loop-clause-preserved : goal.loop-clause-preserved
loop-clause-preserved c = record {
  read = ap (λ (cs : List Clause). with_front cs (clauses_at (MOST_CLAUSES - (c.loop-clause._clause + 1)) c.read_semicolon.new.words)) c.in_ok-push_clause.ensures.ok
      ∙ sym (one_clause MOST_CLAUSES c.loop-clause._clause c.loop-clause.clauses.items c.loop-clause.words c.read_clause.new.words c.read_semicolon.new.words c.in_ok-clause.clause (omega arith) c.in_ok-clause.ensures (rw c.if-not-branch.false at c.in_ok-read_semicolon.ensures))
      ∙ c.loop-clause.invariant.read;
  count = omega (arith, c.in_ok-push_clause.ensures.len);
}
