-- the clauses so far are copied
use Rattle.std.proofs.Common.{◌≡◌, take}
use Rattle.cas_change.proofs.program.copy_clauses.Given as goal

abbrev pub invariant-loop-clause : goal.invariant-loop-clause
invariant-loop-clause l = l.copies.items ≡ take l.clause-index l.clauses
