-- What a caller's own part tells of what it has open.
use Rattle.std.specs.Prelude.{◌≡◌, ℕ, zero, suc, ◌==◌, get_or, Bool, false, if◌then◌else◌, List, [], ◌∷◌, ◌++◌, Option, None}
use Rattle.cas_model.specs.Council.{Council, PlanView}
use Rattle.cas_model.specs.Calls.Step.{one_more}
use Rattle.cas_board_steps.specs.OwnParts.{call_part, plan_part, council_part}

-- nothing is open, but a change of membership may be
pub record NothingIsOpen (own : List ℕ) : Type 0 where
  pub plan : Option PlanView
  pub is : own ≡ plan_part plan

-- no call of the caller is open, and no exchange; of the operator all else may be under way
pub record IsIdle (own : List ℕ) : Type 0 where
  pub council : Council
  pub unasked : council.exchange ≡ None
  pub is : own ≡ council_part council

-- the call of that number is open, and no exchange
pub record HasOpen (call : ℕ) (own : List ℕ) : Type 0 where
  pub rounds : ℕ
  pub phase : ℕ
  pub council : Council
  pub unasked : council.exchange ≡ None
  pub is : own ≡ call_part call rounds phase ++ council_part council

-- what stands beside its open call
abbrev pub beside_in : List ℕ → List ℕ
beside_in (kind ∷ size ∷ number ∷ rounds ∷ phase ∷ later) = later
beside_in other = []

-- ---- rounds
-- how many rounds its open call had, and whether the last of them ended with a conflict
abbrev pub rounds_in : List ℕ → ℕ
rounds_in (kind ∷ size ∷ number ∷ rounds ∷ later) = rounds
rounds_in other = 0

abbrev pub is_met_in : List ℕ → Bool
is_met_in (kind ∷ size ∷ number ∷ rounds ∷ phase ∷ later) = phase == 2
is_met_in other = false

-- how many it has had once it goes on: behind a conflict comes another one
abbrev pub rounds_after : List ℕ → ℕ
rounds_after own = if is_met_in own then one_more (rounds_in own) else rounds_in own

-- ---- a change of membership
-- how many keys the one that is under way has proposed anew, behind so many numbers that are of something else
abbrev pub rescanned_behind : ℕ → List ℕ → ℕ
rescanned_behind others [] = 0
rescanned_behind (suc others) (number ∷ later) = rescanned_behind others later
rescanned_behind zero (kind ∷ []) = 0
rescanned_behind zero (kind ∷ size ∷ later) = if kind == 3 then get_or later 2 0 else rescanned_behind size later

abbrev pub rescanned_in : List ℕ → ℕ
rescanned_in own = rescanned_behind 0 own
