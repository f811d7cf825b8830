-- Quorums by size: so many of a set.
use Rattle.std.specs.Prelude.{◌≡◌, ℕ, ◌+◌, ◌/◌, ◌<◌, Bool, true, nat_le, List, length}
use Rattle.cas_ballot.specs.Members.{has_member, union_of, intersection_of}

-- how many of the set are among these acceptors
abbrev pub count_in : List ℕ → List ℕ → ℕ
count_in set by = length (intersection_of set by)

-- whether at least so many of the set are among these acceptors
abbrev pub has_quorum : ℕ → List ℕ → List ℕ → Bool
has_quorum need set by = nat_le need (count_in set by)

-- the least number that is above half of so many
abbrev pub majority_of : ℕ → ℕ
majority_of n = n / 2 + 1

-- so many of the one set and so many of the other are together more than both sets have
abbrev pub SizesMeet : List ℕ → ℕ → List ℕ → ℕ → Type 0
SizesMeet prep need_prep acc need_acc = length (union_of prep acc) < need_prep + need_acc

-- an acceptor that is in both sets
pub record Shared (a b : List ℕ) : Type 0 where
  pub acceptor : ℕ
  pub left : has_member a acceptor ≡ true
  pub right : has_member b acceptor ≡ true
