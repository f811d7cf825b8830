-- The one order of ballots: by counter, and by proposer where the counters are equal.
use Rattle.std.specs.Prelude.{ℕ, List, ◌++◌, decimal, codes, ◌<◌, ◌≤◌, ◌^◌, if◌then◌else◌}
use Rattle.std.specs.declared.cmp.Ordering.{Ordering}
use Rattle.std.specs.Ordering.{nat_cmp, on, then_cmp, is_lt}
use Rattle.cas_ballot.specs.declared.ballot.Ballot.{Ballot}

-- how two ballots compare
abbrev pub ballot_cmp : Ballot → Ballot → Ordering
ballot_cmp = then_cmp (on (λ b. b.counter) nat_cmp) (on (λ b. b.proposer) nat_cmp)

-- the ballot below every drawn one
abbrev pub zero_ballot : Ballot
zero_ballot = record { counter = 0; proposer = 0 }

-- a ballot within its limits: a counter of at most 2^48, and a proposer's number of at most 16
pub record FitsBallot (ballot : Ballot) : Type 0 where
  pub counter : ballot.counter ≤ 2 ^ 48
  pub proposer : ballot.proposer ≤ 16

-- a comes before b, or is b
pub record BallotAtMost (a b : Ballot) : Type 0 where
  pub counters : a.counter ≤ b.counter
  pub proposers : b.counter ≤ a.counter → a.proposer ≤ b.proposer

-- a comes before b
pub record BallotLess (a b : Ballot) : Type 0 where
  pub counters : a.counter ≤ b.counter
  pub proposers : b.counter ≤ a.counter → a.proposer < b.proposer

-- the later of two ballots
abbrev pub greater_of : Ballot → Ballot → Ballot
greater_of a b = if is_lt (ballot_cmp a b) then b else a

-- how a ballot is printed: its counter, a point, and its proposer's number
abbrev pub ballot_text : Ballot → List ℕ
ballot_text b = decimal b.counter ++ codes "." ++ decimal b.proposer
