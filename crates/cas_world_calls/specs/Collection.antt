-- What a collection that is under way shows, and what it keeps true.
use Rattle.std.specs.Prelude.{◌≡◌, ℕ, ◌≤◌, false, List, take, Option, Some}
use Rattle.cas_collect.specs.Order.{Collection}
use Rattle.cas_slot.specs.declared.ages.Ages.{Ages}
use Rattle.cas_model.specs.Collection.Logged.{is_after_floor}
use Rattle.cas_model.specs.Collection.State as cluster
use Rattle.cas_model.specs.Collection.State.{ages_of}
use Rattle.cas_world_calls.specs.declared.collection.Tombstone.{Tombstone}
use Rattle.cas_world_calls.specs.declared.collection.Tombstone.TheVariants as tombstone

abbrev pub tombstone_view : Tombstone → cluster.Tombstone
tombstone_view tombstone.Sought = cluster.Sought
tombstone_view (tombstone.FoundHeld version) = cluster.FoundHeld version
tombstone_view (tombstone.Acknowledged ballot by) = cluster.Acknowledged ballot by

-- the proposers below that number were renewed, and no age is told of the others
pub record IsRenewedTo (renewed : ℕ) (least : Ages) : Type 0 where
  pub few : renewed ≤ 17
  pub shown : least ≡ ages_of (take renewed least.0)

-- and the mark of its floor, until that is made, has a key to bear
pub record IsOpenCollection (renewed : ℕ) (least : Ages) (course : Collection) (for_floor : Option (List ℕ)) : Type 0 where
  pub ages : IsRenewedTo renewed least
  pub floor : is_after_floor course.step ≡ false → for_floor ≡ Some course.key
