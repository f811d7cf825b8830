-- The laws of the order of ballots, so that no proof above compares counters.
use Rattle.std.proofs.Common.{false, ◌≡◌, cond, arith, subst, refl, ◌<◌}
use Rattle.std.specs.Prelude.{◌⊎◌}
use Rattle.std.specs.declared.cmp.Ordering.{Ordering}
use Rattle.std.specs.declared.cmp.Ordering.TheVariants.{Less, Equal, Greater}
use Rattle.std.specs.Ordering.{is_lt, MatchOrdering, nat_cmp, ordering_then}
use Rattle.std.proofs.lemmas.Cmp.{ranked}
use mathlib.Core.Logic.{inl, inr}
use Rattle.cas_ballot.specs.declared.ballot.Ballot.{Ballot}
use Rattle.cas_ballot.specs.Ballot.{ballot_cmp, zero_ballot, greater_of, BallotAtMost, BallotLess}

-- ---- at most, a total order
pub at_most_refl : (a : Ballot) → BallotAtMost a a
at_most_refl a = record { counters = omega arith; proposers = λ h. omega arith }

pub at_most_trans : {a b c : Ballot} → BallotAtMost a b → BallotAtMost b c → BallotAtMost a c
at_most_trans p q = record { counters = omega arith; proposers = λ h. omega arith }

pub at_most_antisym : {a b : Ballot} → BallotAtMost a b → BallotAtMost b a → a ≡ b
at_most_antisym {a} {b} p q =
    let counters : a.counter ≡ b.counter = omega arith in
    let proposers : a.proposer ≡ b.proposer = omega arith in
    λ i. record { counter = counters i; proposer = proposers i }

-- what the comparison says, from what it says of the counters and of the proposers
by_parts : (counters proposers : Ordering) (a b : Ballot) → MatchOrdering counters (a.counter < b.counter) (a.counter ≡ b.counter) (b.counter < a.counter)
    → MatchOrdering proposers (a.proposer < b.proposer) (a.proposer ≡ b.proposer) (b.proposer < a.proposer)
    → MatchOrdering (ordering_then counters proposers) (BallotLess a b) (a ≡ b) (BallotLess b a)
by_parts Less proposers a b p q = record { counters = omega arith; proposers = λ h. absurd (omega arith) }
by_parts Greater proposers a b p q = record { counters = omega arith; proposers = λ h. absurd (omega arith) }
by_parts Equal Less a b p q = record { counters = omega arith; proposers = λ h. q }
by_parts Equal Equal a b p q = λ i. record { counter = p i; proposer = q i }
by_parts Equal Greater a b p q = record { counters = omega arith; proposers = λ h. q }

pub compared : (a b : Ballot) → MatchOrdering (ballot_cmp a b) (BallotLess a b) (a ≡ b) (BallotLess b a)
compared a b = by_parts (nat_cmp a.counter b.counter) (nat_cmp a.proposer b.proposer) a b (ranked a.counter b.counter _ refl) (ranked a.proposer b.proposer _ refl)

by_order : (r : Ordering) (a b : Ballot) → MatchOrdering r (BallotLess a b) (a ≡ b) (BallotLess b a) → BallotAtMost a b ⊎ BallotLess b a
by_order Less a b p = inl (record { counters = omega arith; proposers = λ h. omega arith })
by_order Equal a b p = inl (subst (λ x. BallotAtMost a x) p (at_most_refl a))
by_order Greater a b p = inr p

pub at_most_or_less : (a b : Ballot) → BallotAtMost a b ⊎ BallotLess b a
at_most_or_less a b = by_order (ballot_cmp a b) a b (compared a b)

-- ---- less
pub less_irreflexive : {a : Ballot} → BallotLess a a → ⊥
less_irreflexive p = grind arith

pub less_trans : {a b c : Ballot} → BallotLess a b → BallotLess b c → BallotLess a c
less_trans p q = record { counters = omega arith; proposers = λ h. omega arith }

pub at_most_of_less : {a b : Ballot} → BallotLess a b → BallotAtMost a b
at_most_of_less p = record { counters = omega arith; proposers = λ h. omega arith }

pub less_not_at_most : {a b : Ballot} → BallotLess a b → BallotAtMost b a → ⊥
less_not_at_most p q = grind arith

-- ---- the two extensions of less by at most
pub less_at_most : {a b c : Ballot} → BallotLess a b → BallotAtMost b c → BallotLess a c
less_at_most p q = record { counters = omega arith; proposers = λ h. omega arith }

pub at_most_less : {a b c : Ballot} → BallotAtMost a b → BallotLess b c → BallotLess a c
at_most_less p q = record { counters = omega arith; proposers = λ h. omega arith }

-- ---- zero
pub zero_at_most : (a : Ballot) → BallotAtMost zero_ballot a
zero_at_most a = record { counters = omega arith; proposers = λ h. omega arith }

pub none_below_zero : {a : Ballot} → BallotLess a zero_ballot → ⊥
none_below_zero p = grind arith

-- ---- the greater of two
chosen : (r : Ordering) (a b : Ballot) → MatchOrdering r (BallotLess a b) (a ≡ b) (BallotLess b a)
    → ((cond (is_lt r) b a ≡ a) × BallotAtMost b a) ⊎ ((cond (is_lt r) b a ≡ b) × BallotLess a b)
chosen Less a b p = inr (refl, p)
chosen Equal a b p = inl (refl, subst (λ x. BallotAtMost x a) p (at_most_refl a))
chosen Greater a b p = inl (refl, at_most_of_less p)

-- it is the one of two that is not below the other
pub greater_cases : (a b : Ballot) → ((greater_of a b ≡ a) × BallotAtMost b a) ⊎ ((greater_of a b ≡ b) × BallotLess a b)
greater_cases a b = chosen (ballot_cmp a b) a b (compared a b)

pub at_most_greater_left : (a b : Ballot) → BallotAtMost a (greater_of a b)
at_most_greater_left a b = elim (greater_cases a b) as (λ _. BallotAtMost a (greater_of a b)) [
  | inl same ↦ rw same.0 (at_most_refl a)
  | inr other ↦ rw other.0 (at_most_of_less other.1)
]

pub at_most_greater_right : (a b : Ballot) → BallotAtMost b (greater_of a b)
at_most_greater_right a b = elim (greater_cases a b) as (λ _. BallotAtMost b (greater_of a b)) [
  | inl same ↦ rw same.0 same.1
  | inr other ↦ rw other.0 (at_most_refl b)
]

pub greater_at_most : {a b c : Ballot} → BallotAtMost a c → BallotAtMost b c → BallotAtMost (greater_of a b) c
greater_at_most {a} {b} {c} p q = elim (greater_cases a b) as (λ _. BallotAtMost (greater_of a b) c) [
  | inl same ↦ rw same.0 p
  | inr other ↦ rw other.0 q
]

-- ---- the answers of the comparison
less_is : (r : Ordering) (a b : Ballot) → MatchOrdering r (BallotLess a b) (a ≡ b) (BallotLess b a) → BallotLess a b → r ≡ Less
less_is Less a b p q = refl
less_is Equal a b p q = absurd (less_irreflexive (subst (λ x. BallotLess x b) p q))
less_is Greater a b p q = absurd (less_irreflexive (less_trans p q))

pub cmp_of_less : {a b : Ballot} → BallotLess a b → ballot_cmp a b ≡ Less
cmp_of_less {a} {b} p = less_is (ballot_cmp a b) a b (compared a b) p

not_lt : (r : Ordering) (a b : Ballot) → MatchOrdering r (BallotLess a b) (a ≡ b) (BallotLess b a) → BallotAtMost b a → is_lt r ≡ false
not_lt Less a b p q = absurd (less_not_at_most p q)
not_lt Equal a b p q = refl
not_lt Greater a b p q = refl

pub not_lt_of_at_most : {a b : Ballot} → BallotAtMost b a → is_lt (ballot_cmp a b) ≡ false
not_lt_of_at_most {a} {b} p = not_lt (ballot_cmp a b) a b (compared a b) p

same_is : (r : Ordering) (a : Ballot) → MatchOrdering r (BallotLess a a) (a ≡ a) (BallotLess a a) → r ≡ Equal
same_is Less a p = absurd (less_irreflexive p)
same_is Equal a p = refl
same_is Greater a p = absurd (less_irreflexive p)

pub cmp_refl : (a : Ballot) → ballot_cmp a a ≡ Equal
cmp_refl a = same_is (ballot_cmp a a) a (compared a a)
