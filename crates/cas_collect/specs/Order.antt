-- The order of a collection's steps.
use Rattle.std.specs.Prelude.{◌≡◌, ⊤, ℕ, ◌+◌, ◌≤◌, nat_lt, if◌then◌else◌, List, [], ◌∷◌, ◌++◌, map}
use Rattle.std.specs.List.{range_with_len}
use Rattle.cas_quorum.specs.declared.era.Era.{Era}
use Rattle.cas_collect.specs.declared.collect.CollectStep.{CollectStep}
use Rattle.cas_collect.specs.declared.collect.CollectStep.TheVariants.{Round, Renew, Ages, Floor, Remove, End}

-- a collection as it stands: the steps that were confirmed, and the one that comes next
pub record Collection : Type 0 where
  pub key : List ℕ
  pub era : Era
  pub proposers : ℕ
  pub confirmed : List CollectStep
  pub step : CollectStep

-- the steps in their order, with a renewal of each proposer from 0 to the greatest
abbrev pub collection_steps : ℕ → List CollectStep
collection_steps proposers = Round ∷ (map Renew (range_with_len 0 (proposers + 1)) ++ Ages ∷ Floor ∷ Remove ∷ End ∷ [])

-- the step stands in the order right behind those that were confirmed
pub record IsNext (proposers : ℕ) (confirmed : List CollectStep) (step : CollectStep) : Type 0 where
  pub later : List CollectStep
  pub order : collection_steps proposers ≡ confirmed ++ step ∷ later

-- the steps that were confirmed, with one more; the end is none
abbrev pub with_step : List CollectStep → CollectStep → List CollectStep
with_step confirmed End = confirmed
with_step confirmed step = confirmed ++ step ∷ []

-- the place of a step in the order, from 0
abbrev pub place_of : ℕ → CollectStep → ℕ
place_of proposers Round = 0
place_of proposers (Renew proposer) = proposer + 1
place_of proposers Ages = proposers + 2
place_of proposers Floor = proposers + 3
place_of proposers Remove = proposers + 4
place_of proposers End = proposers + 5

-- only the proposers that there are are renewed
abbrev pub IsStepOf : ℕ → CollectStep → Type 0
IsStepOf proposers (Renew proposer) = proposer ≤ proposers
IsStepOf proposers step = ⊤

-- the step behind a step
abbrev pub step_after : ℕ → CollectStep → CollectStep
step_after proposers Round = Renew 0
step_after proposers (Renew proposer) = if nat_lt proposer proposers then Renew (proposer + 1) else Ages
step_after proposers Ages = Floor
step_after proposers Floor = Remove
step_after proposers Remove = End
step_after proposers End = End
