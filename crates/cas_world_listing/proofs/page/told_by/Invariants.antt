use Rattle.std.proofs.Common.{◌≡◌, drop}
use Rattle.cas_model.specs.Eras.Listings.{told_by}
use Rattle.cas_world_listing.proofs.page.told_by.Given as goal

-- none of the probes so far is the member's
abbrev pub invariant-loop-probe : goal.invariant-loop-probe
invariant-loop-probe l = told_by l.told l.member ≡ told_by (drop l.probe-index l.told) l.member
