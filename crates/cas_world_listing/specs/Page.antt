-- The next keys of a member, as a listing sees them.
use Rattle.cas_model.specs.Eras.Listings.{Page}
use Rattle.cas_world_listing.specs.declared.page.NextKeys.{NextKeys}

abbrev pub page_view : NextKeys → Page
page_view page = record { keys = page.keys.now; more = page.more }
