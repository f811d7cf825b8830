use Rattle.std.proofs.Common.{◌≡◌, take}
use Rattle.cas_world_listing.proofs.places.Places.copy.Given as goal

-- the places so far are copied
abbrev pub invariant-loop-place : goal.invariant-loop-place
invariant-loop-place l = l.copies.items ≡ take l.place-index l.place-items
