use Rattle.std.proofs.Common.{◌≡◌, take, map}
use Rattle.std.specs.Prelude.{All}
use Rattle.cas_model.specs.Eras.Listings.{moved}
use Rattle.cas_model.specs.Eras.Remaining.{IsPageOfKeys}
use Rattle.cas_world_listing.proofs.places.Places.moved.Given as goal

-- the places so far are moved, and their pages are of keys
abbrev pub invariant-loop-place : goal.invariant-loop-place
invariant-loop-place l = (l.places.items ≡ map (moved l.told) (take l.place-index l.place-items)) × All (IsPageOfKeys l.told) (take l.place-index l.place-items)
