-- Sets of acceptors, as the rising list of their numbers, all below 64.
use Rattle.std.specs.Prelude.{◌≡◌, ℕ, ◌^◌, Bool, ◌==◌, ◌&&◌, ◌||◌, not, List, filter, sum_by}
use Rattle.std.specs.Int.{bit_at}
use Rattle.std.specs.List.{range_with_len, list_any}

-- the identities that pass a test
unfoldable pub members_where : (ℕ → Bool) → List ℕ
members_where test = filter test (range_with_len 0 64)

-- whether n is one of the set
abbrev pub has_member : List ℕ → ℕ → Bool
has_member ids n = list_any (λ m. m == n) ids

-- the set with one more
abbrev pub with_member : List ℕ → ℕ → List ℕ
with_member ids id = members_where (λ n. n == id || has_member ids n)

-- the set without one
abbrev pub without_member : List ℕ → ℕ → List ℕ
without_member ids id = members_where (λ n. not (n == id) && has_member ids n)

-- those of either set
abbrev pub union_of : List ℕ → List ℕ → List ℕ
union_of a b = members_where (λ n. has_member a n || has_member b n)

-- those of both sets
abbrev pub intersection_of : List ℕ → List ℕ → List ℕ
intersection_of a b = members_where (λ n. has_member a n && has_member b n)

-- the list is a set of acceptors: it lists just its members, in rising order
pub record IsMemberSet (ids : List ℕ) : Type 0 where
  pub lists : ids ≡ members_where (has_member ids)

-- the set whose identities are the places of the ones
abbrev pub members_of_bits : ℕ → List ℕ
members_of_bits bits = members_where (λ n. bit_at bits n == 1)

-- a one for each identity of the set
abbrev pub bits_of_members : List ℕ → ℕ
bits_of_members ids = sum_by (λ n. 2 ^ n) ids
