-- Lemmas on the equality of clauses: the derived tests are true exactly where the two values are one.
use Rattle.std.proofs.Common.{◌≡◌, Bool, true, ◌&&◌, rules, List, ap}
use Rattle.std.specs.Bool.{Decides}
use Rattle.std.specs.Cmp.{IsEquivalence, decided, first_so, second_so}
use Rattle.std.specs.Cmp.Lexicographic.{pointwise, pointwise_decides}
use Rattle.cas_change.specs.declared.program.Guard.{Guard}
use Rattle.cas_change.specs.declared.program.Act.{Act}
use Rattle.cas_change.specs.declared.program.Clause.{Clause}
use Rattle.cas_change.specs.contracts.program.GuardPartialEq.TheImpl as guards
use Rattle.cas_change.specs.contracts.program.ActPartialEq.TheImpl as acts
use Rattle.cas_change.specs.contracts.program.ClausePartialEq.TheImpl as clauses

guard_decides : (a b : Guard) → Decides (guards.ghosts.eq a b) (a ≡ b)
guard_decides a b = search rules

act_decides : (a b : Act) → Decides (acts.ghosts.eq a b) (a ≡ b)
act_decides a b = search rules

both : (p q : Bool) → p ≡ true → q ≡ true → (p && q) ≡ true
both p q h k = λ i. h i && k i

pub clause_decides : (a b : Clause) → Decides (clauses.ghosts.eq a b) (a ≡ b)
clause_decides a b =
    let guard = guards.ghosts.eq a.guard b.guard in
    let act = acts.ghosts.eq a.act b.act in (
      λ e. λ i. record {
        guard = (guard_decides a.guard b.guard).0 (first_so guard act e) i;
        act = (act_decides a.act b.act).0 (second_so guard act e) i;
      },
      λ e. both guard act ((guard_decides a.guard b.guard).1 (ap (λ (c : Clause). c.guard) e)) ((act_decides a.act b.act).1 (ap (λ (c : Clause). c.act) e)),
    )

pub program_decides : (a b : List Clause) → Decides (pointwise clauses.ghosts.eq a b) (a ≡ b)
program_decides = pointwise_decides clause_decides

pub program_equiv : IsEquivalence (pointwise clauses.ghosts.eq)
program_equiv = decided (pointwise clauses.ghosts.eq) program_decides
