-- The steps of a plan that are left.
use Rattle.std.specs.Prelude.{Bool, true, false, List, [], ◌∷◌}
use Rattle.cas_quorum.specs.declared.era.Era.{Era}
use Rattle.cas_members.specs.declared.plan.PlanStep.{PlanStep}
use Rattle.cas_members.specs.declared.plan.PlanStep.TheVariants.{Settle, Enter}

-- a plan as it stands: the era that was entered last, and the steps that are left
pub record Progress : Type 0 where
  pub era : Era
  pub left : List PlanStep

-- the steps that enter these eras, where the one before them is settled or not
abbrev pub steps_left : Bool → List Era → List PlanStep
steps_left settled [] = []
steps_left true (era ∷ later) = Enter era ∷ steps_left false later
steps_left false (era ∷ later) = Settle ∷ Enter era ∷ steps_left false later
