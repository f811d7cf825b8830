use Rattle.std.proofs.Common.{◌≡◌, drop}
use Rattle.cas_model.specs.Council.{place_in}
use Rattle.cas_model.specs.Eras.Listings.{stands_in}
use Rattle.cas_world_listing.proofs.places.place_of.Given as goal

-- none of the places so far is the member's
abbrev pub invariant-loop-place : goal.invariant-loop-place
invariant-loop-place l = (stands_in l.places l.member ≡ stands_in (drop l.place-index l.places) l.member) × (place_in l.places l.member ≡ place_in (drop l.place-index l.places) l.member)
