-- What a player keeps true of its world, of which it remembers the open calls.
use Rattle.std.specs.Prelude.{◌≡◌, ◌≢◌, ◌≤◌, ℕ, ⊤, Bool, false, List, Option, None, Some, slice_get}
use Rattle.cas_collect.specs.declared.collect.CollectStep.TheVariants.{Renew, Ages}
use Rattle.cas_model.specs.Safe.{IsSafe}
use Rattle.cas_model.specs.View.{View}
use Rattle.cas_world.specs.Calls.Beginning.{HasNoCall}
use Rattle.cas_world.specs.Eras.Plans.{IsUnderWay, asked_to}
use Rattle.casreg_script.specs.Collection.Collecting.{IsDue}
use Rattle.casreg_script.specs.Exchanges.Orders.{KeepsIdle}
use Rattle.test_world.specs.declared.task.Task.{Task}
use Rattle.test_world.specs.declared.task.Task.TheVariants.{Change, Collection}

-- ---- what the operator's calls leave
-- all but caller 0 that have no open call have none after it
pub record Leads {S V : Type 0} (old new : View S V) : Type 0 where
  pub last_proposer : new.last_proposer ≡ old.last_proposer
  pub others : (id : ℕ) → id ≢ 0 → HasNoCall old id → HasNoCall new id
  pub safe : IsSafe old → IsSafe new

-- and so has caller 0
pub record Goes {S V : Type 0} (old new : View S V) : Type 0 where
  pub idle : KeepsIdle old new
  pub safe : IsSafe old → IsSafe new

-- ---- what it has under way
-- the renewal of a proposer is due, or all members are to be told the new ages
pub data IsRenewing {S V : Type 0} (view : View S V) (key : List ℕ) : Type 0 where
  renews : (proposer : ℕ) → IsDue view key (Renew proposer) → IsRenewing view key
  renewed : IsDue view key Ages → IsRenewing view key

-- the operator has no open call; or it asks for that change of membership, which is under way; or for a collection, whose call is over
abbrev pub IsOrder : {S V : Type 0} → View S V → Option Task → Type 0
IsOrder world None = world.council.order ≡ None
IsOrder world (Some (Change plan)) = IsUnderWay world (asked_to plan.kind plan.id)
IsOrder world (Some (Collection key)) = IsRenewing world key

-- caller 0 has no open call while a collection is led on
abbrev pub StandsStill : List Bool → Option Task → Type 0
StandsStill calls None = ⊤
StandsStill calls (Some (Change plan)) = ⊤
StandsStill calls (Some (Collection key)) = slice_get calls 0 ≡ Some false

-- ---- the whole
pub record IsPlay {S V : Type 0} (world : View S V) (proposers : ℕ) (calls : List Bool) (task : Option Task) : Type 0 where
  pub known : world.last_proposer ≡ proposers
  pub few : proposers ≤ 16
  pub safe : IsSafe world
  -- a caller that is not remembered to have an open call has none
  pub idle : (id : ℕ) → id ≤ proposers → slice_get calls id ≡ Some false → HasNoCall world id
  -- no exchange is open
  pub quiet : world.council.exchange ≡ None
  pub order : IsOrder world task
  pub still : StandsStill calls task
