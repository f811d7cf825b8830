-- The JSON of a program.
use Rattle.std.specs.Prelude.{ℕ, List, [], ◌∷◌, codes}
use Rattle.serde_json.specs.Data.{Data, number, unsigned, string, array, object, Items, no_items, item, no_members, member}
use Rattle.serde_json.specs.Find.{of_integer}
use Rattle.cas_change.specs.declared.program.Guard.{Guard}
use Rattle.cas_change.specs.declared.program.Guard.TheVariants.{Always, IsEmpty, VersionIs, NumberBelow, TextIs}
use Rattle.cas_change.specs.declared.program.Act.{Act}
use Rattle.cas_change.specs.declared.program.Act.TheVariants.{Keep, PutText, PutNumber, Add, Clear}
use Rattle.cas_change.specs.declared.program.Clause.{Clause}

-- an object of this one member
abbrev pub lone : List ℕ → Data → Data
lone name d = object (member name d no_members)

abbrev pub guard_data : Guard → Data
guard_data Always = string (codes "always")
guard_data IsEmpty = string (codes "empty")
guard_data (VersionIs version) = lone (codes "version") (number (unsigned version))
guard_data (NumberBelow n) = lone (codes "below") (number (of_integer n))
guard_data (TextIs bytes) = lone (codes "is") (string bytes)

abbrev pub act_data : Act → Data
act_data Keep = string (codes "keep")
act_data (PutText bytes) = lone (codes "text") (string bytes)
act_data (PutNumber n) = lone (codes "num") (number (of_integer n))
act_data (Add n) = lone (codes "add") (number (of_integer n))
act_data Clear = string (codes "clear")

-- members stand in the order of their names
abbrev pub clause_data : Clause → Data
clause_data clause = object (member (codes "act") (act_data clause.act) (member (codes "guard") (guard_data clause.guard) no_members))

abbrev pub clauses_data : List Clause → Items
clauses_data [] = no_items
clauses_data (clause ∷ clauses) = item (clause_data clause) (clauses_data clauses)

abbrev pub program_data : List Clause → Data
program_data clauses = array (clauses_data clauses)
