use Rattle.std.proofs.Common.{◌≡◌}
use Rattle.cas_model.specs.Eras.Listings.{told_by}
use Rattle.cas_model.specs.Exchanges.Read.{tells_ballot}
use Rattle.cas_world_listing.proofs.MemberWalks.{members_below}
use Rattle.cas_world_calls.proofs.read.holders.Given as goal

-- those so far
abbrev pub invariant-loop-number : goal.invariant-loop-number
invariant-loop-number l = l.those ≡ members_below l.number (λ member. tells_ballot l.ballot (told_by l.told member))
