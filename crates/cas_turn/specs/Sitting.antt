-- A seat as its user sees it.
use Rattle.std.specs.Prelude.{ℕ, List, [], Option, None, map}
use Rattle.std.specs.List.{range_with_len}
use Rattle.atomic_table.specs.Seated.{TableId}

-- which turn it is
abbrev pub TurnId : Type 0
TurnId = TableId

-- a seat between two calls
pub record Sitting (V I : Type 0) : Type 0 where
  -- the turn that the seat belongs to
  pub turn : TurnId
  pub number : ℕ
  -- how many seats its turn has
  pub seats : ℕ
  -- while the seat holds, the value as the hold gave it
  pub holds : Option V
  -- what it has seen of the value's list
  pub seen : List I
  -- the part of the value that is its number's own, as it left it
  pub own : List ℕ

-- a seat of a new turn that has so many, around a value with this list
abbrev pub fresh_seat : {V I : Type 0} → TurnId → ℕ → List I → ℕ → Sitting V I
fresh_seat turn count seen n = record { turn = turn; number = n; seats = count; holds = None; seen = seen; own = [] }

-- the first seats of a new turn, in order
abbrev pub first_seats : {V I : Type 0} → TurnId → ℕ → List I → ℕ → List (Sitting V I)
first_seats turn count seen given = map (fresh_seat turn count seen) (range_with_len 0 given)

-- all of them
abbrev pub fresh_seats : {V I : Type 0} → TurnId → ℕ → List I → List (Sitting V I)
fresh_seats turn count seen = first_seats turn count seen count

-- a turn as its user sees it: which one it is, and how many seats it gave out
pub record Turning : Type 0 where
  pub id : TurnId
  pub seats : ℕ
