-- What stays of the promises of a desk whose vault failed in a draw.
use Rattle.std.proofs.Common.{◌≡◌, List, ℕ, ap}
use Rattle.std.specs.Prelude.{◌⊎◌}
use mathlib.Core.Logic.{inl, inr}
use Rattle.cas_cache.specs.Entries.{without}
use Rattle.cas_proposer.specs.Desk.{DeskView}
use Rattle.cas_model.specs.View.{DiskMeaning}
use Rattle.cas_model.specs.Calls.Desks.{FailsToDraw}

pub failed_without : {V : Type 0} (m : DiskMeaning V) (key : List ℕ) (old new : DeskView V) → FailsToDraw m (without key old.cache) old new
    → (new.cache ≡ old.cache) ⊎ (new.cache ≡ without key old.cache)
failed_without m key old new by = inr (ap (λ (d : DeskView _). d.cache) by.desk)

pub failed_still : {V : Type 0} (m : DiskMeaning V) (key : List ℕ) (old new : DeskView V) → FailsToDraw m old.cache old new → (new.cache ≡ old.cache) ⊎ (new.cache ≡ without key old.cache)
failed_still m key old new by = inl (ap (λ (d : DeskView _). d.cache) by.desk)
