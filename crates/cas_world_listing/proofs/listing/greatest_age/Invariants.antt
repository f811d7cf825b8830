use Rattle.std.proofs.Common.{◌≡◌, ℕ, Option, None, Some, drop, max}
use Rattle.cas_model.specs.Eras.Listings.{greatest_age}
use Rattle.cas_world_listing.proofs.listing.greatest_age.Given as goal

-- the greater of two ages that may be there
abbrev pub greater : Option ℕ → Option ℕ → Option ℕ
greater None b = b
greater (Some a) None = Some a
greater (Some a) (Some b) = Some (max a b)

-- the greatest so far, or of those that are left
abbrev pub invariant-loop-probe : goal.invariant-loop-probe
invariant-loop-probe l = greater l.greatest (greatest_age (drop l.probe-index l.told)) ≡ greatest_age l.told
