use Rattle.std.proofs.Common.{rules, subst}
use Rattle.std.specs.Prelude.{All}
use Rattle.cas_model.specs.Council.{ListingView}
use Rattle.cas_model.specs.Eras.Remaining.{IsPageOfKeys}
use Rattle.cas_model.proofs.Eras.Remaining.{lists_less}
use Rattle.cas_world_listing.proofs.listing.Listing.next.Goals as goal

pub returns-clause-goes_on : goal.returns-clause-goes_on
returns-clause-goes_on c = search rules

pub returns-clause-less : goal.returns-clause-less
returns-clause-less c = lists_less c.args.era.now c.args.told.now c.args.self.now _ (subst (λ (v : ListingView). All (IsPageOfKeys c.args.told.now) v.places) c.self.view_is (c.in_ok-places.ensures.keys)) (returns-clause-goes_on c)
