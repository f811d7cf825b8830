-- Lemmas on what a program does to a state.
use Rattle.std.proofs.Common.{◌≡◌, ℕ, false, IfOk, Result, Ok, Err, List, get_or, Option, Some, None, refl, sym, subst}
use Rattle.std.specs.Option.{option_and_then}
use Rattle.std.proofs.lemmas.List.Quantifiers.{position-Some}
use Rattle.std.proofs.lemmas.Option.{get_or_from_slice_get, slice_get-get_or}
use Rattle.cas_change.specs.declared.state.State.{State}
use Rattle.cas_change.specs.declared.program.Guard.TheVariants.{Always}
use Rattle.cas_change.specs.declared.program.Act.TheVariants.{Keep}
use Rattle.cas_change.specs.declared.program.Clause.{Clause}
use Rattle.cas_change.specs.declared.outcome.Outcome.{Outcome}
use Rattle.cas_change.specs.Outcome.{holds, acted, first_to_hold, outcome_by, outcome_at, outcome_of, IsFirstToHold, IsOutcome}
use Rattle.cas_change.proofs.Positions.{none_passes}

-- the clause at the first place at which a guard holds is the first whose guard holds
first_clause : (program : List Clause) (state : State) (number : ℕ) (any : Clause) → first_to_hold program state ≡ Some number →
    IsFirstToHold program state number (get_or program number any)
first_clause program state number any found =
    let at = position-Some (λ (clause : Clause). holds clause.guard state) program number any found in
    record {
      stands = slice_get-get_or program number any at.0;
      guard_holds = at.1;
      none_before = λ earlier other below stands.
          subst (λ (clause : Clause). holds clause.guard state ≡ false) (get_or_from_slice_get program earlier other any stands) (at.2 earlier below);
    }

-- what the act of the first such clause leaves is an outcome
outcome_by_clause : (program : List Clause) (state : State) (number : ℕ) (clause : Clause) → IsFirstToHold program state number clause →
    (after : Option State) → acted clause.act state ≡ after → IsOutcome program state (outcome_by number state after).state (outcome_by number state after).took
outcome_by_clause program state number clause first (Some after) acts = (clause, first, acts)
outcome_by_clause program state number clause first None acts = (clause, first, acts, refl)

outcome_at_place : (program : List Clause) (state : State) (place : Option ℕ) → first_to_hold program state ≡ place →
    IsOutcome program state (outcome_at program state place).state (outcome_at program state place).took
outcome_at_place program state None none = (none_passes (λ (clause : Clause). holds clause.guard state) program none, refl)
outcome_at_place program state (Some number) found =
    let any : Clause = record { guard = Always; act = Keep } in
    let clause : Clause = get_or program number any in
    let first : IsFirstToHold program state number clause = first_clause program state number any found in
    subst (λ (got : Option Clause). let outcome = outcome_by number state (option_and_then (λ (c : Clause). acted c.act state) got) in IsOutcome program state outcome.state outcome.took)
    (sym first.stands) (outcome_by_clause program state number clause first (acted clause.act state) refl)

-- what a program does, by who took it
outcome_by_cases : (program : List Clause) (state : State) → IsOutcome program state (outcome_of program state).state (outcome_of program state).took
outcome_by_cases program state = outcome_at_place program state (first_to_hold program state) refl

pub by_cases-from_outcome : {E : Type 0} (program : List Clause) (state : State) (result : Result Outcome E) → IfOk result (λ outcome. outcome ≡ outcome_of program state) →
    IfOk result (λ outcome. IsOutcome program state outcome.state outcome.took)
by_cases-from_outcome program state (Ok outcome) is = subst (λ (o : Outcome). IsOutcome program state o.state o.took) (sym is) (outcome_by_cases program state)
by_cases-from_outcome program state (Err error) is = tt
