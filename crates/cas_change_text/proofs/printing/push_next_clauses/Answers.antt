use Rattle.std.proofs.Common.{◌≡◌, ◌+◌, ◌++◌, ◌∷◌, [], List, ℕ, take, string_bytes, sym, ap, ◌∙◌, subst, arith, append_assoc}
use Rattle.std.specs.Prelude.{codes}
use Rattle.std.specs.List.{flat_map}
use Rattle.std.proofs.lemmas.List.{flat_map_more, take_more}
use Rattle.std.proofs.lemmas.List.Elements.{All-more}
use Rattle.cas_change.specs.declared.program.Clause.{Clause}
use Rattle.cas_change_text.specs.Printing.{clause_text, next_clause_text}
use Rattle.cas_change_text.specs.Ranges.{ClauseFits}
use Rattle.cas_change_text.proofs.printing.push_next_clauses.Goals as goal

pub loop-clause-preserved : goal.loop-clause-preserved
loop-clause-preserved c =
    let clauses : List Clause = c.args.clauses.now in
    let i = c.loop-clause.clause-index in
    let clause : Clause = c.clause-item.result in
    let old : List ℕ = string_bytes c.args.text.now in
    let more : take (i + 1) clauses ≡ take i clauses ++ clause ∷ [] = take_more clauses i clause (omega arith) ∙ ap (λ (x : Clause). take i clauses ++ x ∷ []) (sym c.clause-item.is) in
    record {
      text = c.in_ok-push_clause.ensures.ok
          ∙ ap (λ (t : List ℕ). t ++ clause_text clause) (c.in_ok-push_str.ensures.bytes ∙ ap (λ (t : List ℕ). t ++ codes " ; ") c.loop-clause.invariant.text)
          ∙ append_assoc (old ++ flat_map next_clause_text (take i clauses)) (codes " ; ") (clause_text clause)
          ∙ flat_map_more next_clause_text old (take i clauses) clause
          ∙ ap (λ (cs : List Clause). old ++ flat_map next_clause_text cs) (sym more);
      fits = All-more ClauseFits clauses i clause (omega arith) c.loop-clause.invariant.fits (subst ClauseFits c.clause-item.is c.in_ok-push_clause.ensures.fits);
    }
