-- Programs and states as they are written: their words, with a space between any two.
use Rattle.std.specs.Prelude.{ℕ, List, [], ◌∷◌, ◌++◌, codes, decimal}
use Rattle.std.specs.Fmt.{signed_decimal}
use Rattle.std.specs.List.{flat_map}
use Rattle.cas_change.specs.declared.program.Guard.{Guard}
use Rattle.cas_change.specs.declared.program.Guard.TheVariants.{Always, IsEmpty, VersionIs, NumberBelow, TextIs}
use Rattle.cas_change.specs.declared.program.Act.{Act}
use Rattle.cas_change.specs.declared.program.Act.TheVariants.{Keep, PutText, PutNumber, Add, Clear}
use Rattle.cas_change.specs.declared.program.Clause.{Clause}
use Rattle.cas_change.specs.declared.state.Body.{Body}
use Rattle.cas_change.specs.declared.state.Body.TheVariants.{Number, Text}
use Rattle.cas_change.specs.declared.state.State.{State}
use Rattle.cas_change.specs.declared.state.State.TheVariants.{Empty, Held}
use Rattle.cas_change_text.specs.Escapes.{escaped}

abbrev pub guard_text : Guard → List ℕ
guard_text Always = codes "always"
guard_text IsEmpty = codes "empty"
guard_text (VersionIs version) = codes "version " ++ decimal version
guard_text (NumberBelow number) = codes "below " ++ signed_decimal number
guard_text (TextIs bytes) = codes "is " ++ escaped bytes

abbrev pub act_text : Act → List ℕ
act_text Keep = codes "keep"
act_text (PutText bytes) = codes "text " ++ escaped bytes
act_text (PutNumber number) = codes "num " ++ signed_decimal number
act_text (Add number) = codes "add " ++ signed_decimal number
act_text Clear = codes "clear"

abbrev pub clause_text : Clause → List ℕ
clause_text clause = guard_text clause.guard ++ codes " " ++ act_text clause.act

-- a semicolon and a clause
abbrev pub next_clause_text : Clause → List ℕ
next_clause_text clause = codes " ; " ++ clause_text clause

-- the first clause, and each other behind a semicolon
abbrev pub program_text : List Clause → List ℕ
program_text [] = []
program_text (clause ∷ clauses) = clause_text clause ++ flat_map next_clause_text clauses

abbrev pub body_text : Body → List ℕ
body_text (Number number) = codes "num " ++ signed_decimal number
body_text (Text bytes) = codes "text " ++ escaped bytes

abbrev pub state_text : State → List ℕ
state_text Empty = codes "empty"
state_text (Held version body) = codes "v" ++ decimal version ++ codes " " ++ body_text body
