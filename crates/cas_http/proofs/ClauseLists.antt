-- The clauses of an array, as they are read one after another.
use Rattle.std.proofs.Common.{List, ◌++◌, Option, Some, None}
use Rattle.cas_change.specs.declared.program.Clause.{Clause}

-- those that were read, and then the others, where there are any
abbrev pub behind : List Clause → Option (List Clause) → Option (List Clause)
behind front None = None
behind front (Some others) = Some (front ++ others)
