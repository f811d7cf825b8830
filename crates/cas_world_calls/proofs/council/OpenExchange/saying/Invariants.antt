use Rattle.std.proofs.Common.{◌≡◌}
use Rattle.cas_model.specs.Eras.Listings.{told_by}
use Rattle.cas_world_calls.specs.Collecting.{says}
use Rattle.cas_world_calls.specs.Council.{question_view}
use Rattle.cas_world_listing.proofs.MemberWalks.{members_below}
use Rattle.cas_world_calls.proofs.council.OpenExchange.saying.Given as goal

-- those so far
abbrev pub invariant-loop-number : goal.invariant-loop-number
invariant-loop-number l = l.those ≡ members_below l.number (λ member. says (question_view l.self.question) l.saying (told_by l.self.told.items member))
