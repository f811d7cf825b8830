-- States, and what a put and an addition make of them.
use Rattle.std.specs.Prelude.{◌+◌, ◌-◌, ◌^◌, Bool, nat_lt, ℤ, pos, negsuc, ◌+ℤ◌, if◌then◌else◌, Option, Some, None}
use Rattle.cas_change.specs.declared.state.Body.{Body}
use Rattle.cas_change.specs.declared.state.Body.TheVariants.{Number, Text}
use Rattle.cas_change.specs.declared.state.State.{State}
use Rattle.cas_change.specs.declared.state.State.TheVariants.{Empty, Held}

-- whether a number is an i64
abbrev pub fits_i64 : ℤ → Bool
fits_i64 (pos n) = nat_lt n (2 ^ 63)
fits_i64 (negsuc n) = nat_lt n (2 ^ 63)

-- the state that holds the body next: at version 0, or at one more than before, which there is none of at the greatest u64
abbrev pub after_put : Body → State → Option State
after_put body Empty = Some (Held 0 body)
after_put body (Held version old) = if nat_lt version (2 ^ 64 - 1) then Some (Held (version + 1) body) else None

-- the state with the number added to what it holds: it is put on an empty state, and cannot be added to a text
-- or beyond i64
abbrev pub after_add : ℤ → State → Option State
after_add n Empty = Some (Held 0 (Number n))
after_add n (Held version (Text text)) = None
after_add n (Held version (Number m)) = if fits_i64 (m +ℤ n) then after_put (Number (m +ℤ n)) (Held version (Number m)) else None
