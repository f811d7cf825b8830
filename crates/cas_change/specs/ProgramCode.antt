-- How a program keeps its clauses.
use Rattle.std.specs.Prelude.{List}
use Rattle.cas_change.specs.declared.program.Clause.{Clause}
use Rattle.cas_change.specs.declared.program.Clauses.{Clauses}
use Rattle.cas_change.specs.declared.program.Clauses.TheVariants.{One, Listed}

-- the clauses, in order
abbrev pub clauses_in : Clauses → List Clause
clauses_in (One clauses) = clauses
clauses_in (Listed clauses) = clauses.items
