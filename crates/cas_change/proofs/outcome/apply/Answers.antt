-- The outcome read by cases follows from the outcome.
use Rattle.cas_change.proofs.Outcomes.{by_cases-from_outcome}
use Rattle.cas_change.proofs.outcome.apply.Goals as goal

pub returns-clause-by_cases : goal.returns-clause-by_cases
returns-clause-by_cases c = by_cases-from_outcome c.args.program.now c.args.state.now c.outcome_of.result (rw (← c.clauses.ensures.clauses) c.outcome_of.ensures)
