use Rattle.std.proofs.Common.{subst, arith}
use Rattle.std.proofs.lemmas.Grind.{common_steps}
use Rattle.std.proofs.lemmas.List.Elements.{All-more}
use Rattle.cas_model.specs.Eras.Remaining.{IsPageOfKeys}
use Rattle.cas_world_listing.proofs.places.Places.moved.Goals as goal

pub loop-place-preserved : goal.loop-place-preserved
loop-place-preserved c = (
  grind (arith, common_steps, c.loop-place.invariant.0, c.in_ok-moved.ensures.next),
  All-more (IsPageOfKeys c.args.told.now) c.deref-place-items.result.now c.loop-place.place-index c.place-item.result c.loop-place-test.true c.loop-place.invariant.1
      (subst (IsPageOfKeys c.args.told.now) c.place-item.is (c.in_ok-moved.ensures.keys)),
)
