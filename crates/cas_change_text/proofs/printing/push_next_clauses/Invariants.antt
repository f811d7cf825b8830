use Rattle.std.proofs.Common.{◌≡◌, ◌++◌, take, string_bytes}
use Rattle.std.specs.List.{All, flat_map}
use Rattle.cas_change_text.specs.Printing.{next_clause_text}
use Rattle.cas_change_text.specs.Ranges.{ClauseFits}
use Rattle.cas_change_text.proofs.printing.push_next_clauses.Given as goal

abbrev pub invariant-loop-clause : goal.invariant-loop-clause
invariant-loop-clause l = record {
  text : string_bytes l.text ≡ string_bytes l.initial.text ++ flat_map next_clause_text (take l.clause-index l.clauses);
  fits : All ClauseFits (take l.clause-index l.clauses);
}
