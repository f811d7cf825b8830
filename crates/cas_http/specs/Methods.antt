-- What is done to a register, by the method of a request.
use Rattle.std.specs.Prelude.{ℕ, if◌then◌else◌, List, [], ◌∷◌, codes, Option, Some, None}
use Rattle.std.specs.Str.{bytes_eq}
use Rattle.cas_change.specs.declared.program.Guard.TheVariants.{Always}
use Rattle.cas_change.specs.declared.program.Act.{Act}
use Rattle.cas_change.specs.declared.program.Act.TheVariants.{Keep, Clear}
use Rattle.cas_change.specs.declared.program.Clause.{Clause}
use Rattle.cas_http.specs.declared.method.Method.{Method}
use Rattle.cas_http.specs.declared.method.Method.TheVariants as method
use Rattle.cas_http.specs.Programs.{program_of_body}

abbrev pub method_named : List ℕ → Option Method
method_named name = if bytes_eq name (codes "GET") then Some method.Get
    else (if bytes_eq name (codes "POST") then Some method.Post
    else (if bytes_eq name (codes "DELETE") then Some method.Delete else None))

-- the program that does this to every state
abbrev pub always_does : Act → List Clause
always_does act = record { guard = Always; act = act } ∷ []

-- the program that is run: a GET keeps, a DELETE clears, and a POST does what its body spells, if that is a program
abbrev pub program_asked : Method → List ℕ → Option (List Clause)
program_asked method.Get body = Some (always_does Keep)
program_asked method.Post body = program_of_body body
program_asked method.Delete body = Some (always_does Clear)
