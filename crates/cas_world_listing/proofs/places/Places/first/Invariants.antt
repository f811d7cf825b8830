use Rattle.std.proofs.Common.{◌≡◌, map}
use Rattle.std.specs.List.{filter, range_with_len}
use Rattle.cas_ballot.specs.Members.{has_member}
use Rattle.cas_world_listing.proofs.MemberWalks.{first_place}
use Rattle.cas_world_listing.proofs.places.Places.first.Given as goal

-- a place for each member so far
abbrev pub invariant-loop-number : goal.invariant-loop-number
invariant-loop-number l = l.places.items ≡ map first_place (filter (has_member l.members) (range_with_len 0 l.number))
