use Rattle.std.proofs.Common.{◌≡◌}
use Rattle.std.specs.Prelude.{◌&&◌, not}
use Rattle.cas_ballot.specs.Members.{has_member}
use Rattle.cas_model.specs.Council.{place_in, has_ended}
use Rattle.cas_world_listing.proofs.MemberWalks.{members_below}
use Rattle.cas_world_listing.proofs.places.Places.asked.Given as goal

-- those so far
abbrev pub invariant-loop-number : goal.invariant-loop-number
invariant-loop-number l = l.asked ≡ members_below l.number (λ member. has_member l.everyone member && not (has_ended (place_in l.self member)))
