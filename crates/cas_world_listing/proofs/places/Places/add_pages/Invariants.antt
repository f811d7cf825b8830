use Rattle.std.proofs.Common.{take}
use Rattle.cas_model.specs.Eras.Listings.{is_listed}
use Rattle.cas_world_listing.specs.Keys.{Adds}
use Rattle.cas_world_listing.proofs.places.Places.add_pages.Given as goal

-- the pages so far are added
abbrev pub invariant-loop-place : goal.invariant-loop-place
invariant-loop-place l = Adds (is_listed l.told (take l.place-index l.place-items)) l.fn.keys.items l.keys.items
