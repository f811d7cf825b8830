-- How far a listing has come, as the model of the store sees it.
use Rattle.cas_model.specs.Council as council
use Rattle.cas_world_listing.specs.declared.place.Place.{Place}
use Rattle.cas_world_listing.specs.declared.place.Place.TheVariants.{GoesOn, Ended}

abbrev pub place_view : Place → council.Place
place_view (GoesOn after) = council.GoesOn after
place_view Ended = council.Ended
