use Rattle.std.proofs.Common.{◌≡◌}
use Rattle.cas_model.specs.Council.{place_in, has_ended}
use Rattle.cas_world_listing.proofs.MemberWalks.{members_below}
use Rattle.cas_world_listing.proofs.places.Places.ended.Given as goal

-- those so far
abbrev pub invariant-loop-number : goal.invariant-loop-number
invariant-loop-number l = l.ended ≡ members_below l.number (λ member. has_ended (place_in l.self member))
