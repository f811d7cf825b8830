-- What a script in progress is seen as, and what it keeps true between two lines.
use Rattle.std.specs.Prelude.{◌≡◌, ◌≤◌, ℕ, List}
use Rattle.cas_model.specs.Council.{IsAtRest}
use Rattle.cas_model.specs.View.{View}
use Rattle.cas_world.specs.Calls.Beginning.{HasNoCall}
use Rattle.casreg_script.specs.Frames.Conditions.{Rule, Ruled}
use Rattle.casreg_script.specs.Frames.Network.{IsNetwork}
use Rattle.casreg_script.specs.declared.halt.Halt.{Halt}
use Rattle.casreg_script.specs.declared.network.Network.{Network}

pub record Stage (S V : Type 0) : Type 0 where
  pub world : View S V
  pub network : Network
  -- where each proposer is to halt
  pub halts : List Halt
  -- how many rounds a change has at most
  pub tries : ℕ

-- no call is open
abbrev pub AllIdle : {S V : Type 0} → View S V → Type 0
AllIdle view = (id : ℕ) → id ≤ view.last_proposer → HasNoCall view id

pub record IsStage {S V : Type 0} (stage : Stage S V) (proposers : ℕ) : Type 0 where
  pub known : stage.world.last_proposer ≡ proposers
  pub few : proposers ≤ 16
  pub some : 1 ≤ stage.tries
  pub idle : AllIdle stage.world
  -- and neither is one of the operator's, nor an exchange
  pub quiet : IsAtRest stage.world.council
  pub ruled : (rules : List Rule) × IsNetwork stage.network (Ruled rules)
