-- What a program of change does to a state.
use Rattle.std.specs.Prelude.{◌≡◌, ℕ, ◌<◌, Bool, true, false, nat_eq, int_lt, List, Option, Some, None, IsTrue, All, position, slice_get}
use Rattle.std.specs.Cmp.Lexicographic.{pointwise}
use Rattle.std.specs.Option.{option_and_then}
use Rattle.cas_change.specs.State.{after_put, after_add}
use Rattle.cas_change.specs.declared.state.Body.TheVariants.{Number, Text}
use Rattle.cas_change.specs.declared.state.State.{State}
use Rattle.cas_change.specs.declared.state.State.TheVariants.{Empty, Held}
use Rattle.cas_change.specs.declared.program.Guard.{Guard}
use Rattle.cas_change.specs.declared.program.Guard.TheVariants.{Always, IsEmpty, VersionIs, NumberBelow, TextIs}
use Rattle.cas_change.specs.declared.program.Act.{Act}
use Rattle.cas_change.specs.declared.program.Act.TheVariants.{Keep, PutText, PutNumber, Add, Clear}
use Rattle.cas_change.specs.declared.program.Clause.{Clause}
use Rattle.cas_change.specs.declared.outcome.Outcome.{Outcome}
use Rattle.cas_change.specs.declared.outcome.Took.{Took}
use Rattle.cas_change.specs.declared.outcome.Took.TheVariants.{Clause as ByClause, Nothing, Unfit}

-- whether the guard holds of the state
abbrev pub holds : Guard → State → Bool
holds Always state = true
holds IsEmpty Empty = true
holds (VersionIs v) (Held version body) = nat_eq version v
holds (NumberBelow n) (Held version (Number m)) = int_lt m n
holds (TextIs x) (Held version (Text text)) = pointwise nat_eq text x
holds guard state = false

-- the state that the act leaves; none where it is unfit
abbrev pub acted : Act → State → Option State
acted Keep state = Some state
acted (PutText x) state = after_put (Text x) state
acted (PutNumber x) state = after_put (Number x) state
acted (Add n) state = after_add n state
acted Clear state = Some Empty

-- the number, from 0, of the first clause whose guard holds
abbrev pub first_to_hold : List Clause → State → Option ℕ
first_to_hold program state = position (λ clause. holds clause.guard state) program

-- the outcome where the clause of that number acts on the state, by what its act leaves: where that is none, the state stays
abbrev pub outcome_by : ℕ → State → Option State → Outcome
outcome_by number state (Some after) = record { state = after; took = ByClause number }
outcome_by number state None = record { state = state; took = Unfit number }

-- the outcome by the number of the clause that acts: where none does, the state stays
abbrev pub outcome_at : List Clause → State → Option ℕ → Outcome
outcome_at program state (Some number) = outcome_by number state (option_and_then (λ clause. acted clause.act state) (slice_get program number))
outcome_at program state None = record { state = state; took = Nothing }

-- the outcome of a program: the first clause whose guard holds acts
abbrev pub outcome_of : List Clause → State → Outcome
outcome_of program state = outcome_at program state (first_to_hold program state)

-- the clause of that number is the first whose guard holds
pub record IsFirstToHold (program : List Clause) (state : State) (number : ℕ) (clause : Clause) : Type 0 where
  pub stands : slice_get program number ≡ Some clause
  pub guard_holds : IsTrue (holds clause.guard state)
  pub none_before : (earlier : ℕ) (other : Clause) → earlier < number → slice_get program earlier ≡ Some other → holds other.guard state ≡ false

-- what a program made of the old state, by who took it: a clause acted, or it was unfit, or no guard holds
abbrev pub IsOutcome : List Clause → State → State → Took → Type 0
IsOutcome program old new (ByClause number) = (clause : Clause) × IsFirstToHold program old number clause × (acted clause.act old ≡ Some new)
IsOutcome program old new (Unfit number) = (clause : Clause) × IsFirstToHold program old number clause × (acted clause.act old ≡ None) × (new ≡ old)
IsOutcome program old new Nothing = All (λ clause. holds clause.guard old ≡ false) program × (new ≡ old)
