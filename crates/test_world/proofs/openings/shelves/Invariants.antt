use Rattle.std.proofs.Common.{ℕ, [], ◌∷◌}
use Rattle.cas_slot.specs.Contents.{Contents}
use Rattle.cas_slot.specs.Limits.{AllBallotsFit}
use Rattle.cas_model.specs.Openings.{HoldsFloors}
use Rattle.cas_model.specs.View.{IsAt}
use Rattle.cas_world.specs.Openings.OpeningOn.{opening_of}
use Rattle.test_world.proofs.openings.shelves.Given as goal

-- each shelf that was made holds the floor
abbrev pub invariant-loop-place : goal.invariant-loop-place
invariant-loop-place l = (id : ℕ) (shelf : Contents) → IsAt l.shelves.items id shelf → AllBallotsFit shelf × HoldsFloors (opening_of l.fn.floor ∷ []) shelf
