use Rattle.std.proofs.Common.{◌≡◌}
use Rattle.cas_model.specs.Eras.Listings.{counts}
use Rattle.cas_world_listing.proofs.MemberWalks.{members_below}
use Rattle.cas_world_listing.proofs.places.Places.counted.Given as goal

-- those so far
abbrev pub invariant-loop-number : goal.invariant-loop-number
invariant-loop-number l = l.counted ≡ members_below l.number (counts l.told l.self)
