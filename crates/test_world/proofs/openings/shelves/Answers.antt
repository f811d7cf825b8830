use Rattle.std.proofs.Common.{List, [], ◌∷◌, inl, inr, sym, subst}
use Rattle.cas_slot.specs.Contents.{Contents}
use Rattle.cas_slot.specs.Limits.{AllBallotsFit}
use Rattle.cas_model.specs.Openings.{HoldsFloors}
use Rattle.cas_model.specs.View.{IsAt}
use Rattle.cas_world.specs.Openings.OpeningOn.{opening_of}
use Rattle.cas_world.proofs.Lists.{at_pushed}
use Rattle.test_world.proofs.openings.shelves.Goals as goal

pub loop-place-preserved : goal.loop-place-preserved
loop-place-preserved c id shelf at =
    elim (at_pushed c.loop-place.shelves.items c.in_ok-holding.field-0 id shelf (subst (λ (l : List Contents). IsAt l id shelf) c.in_ok-push.ensures.items at)) [
      | inl before ↦ c.loop-place.invariant id shelf before
      | inr new ↦ subst (λ (s : Contents). AllBallotsFit s × HoldsFloors (opening_of c.args.floor.now ∷ []) s) (sym new.1) (c.in_ok-holding.ensures.up, c.in_ok-holding.ensures.holds)
    ]
