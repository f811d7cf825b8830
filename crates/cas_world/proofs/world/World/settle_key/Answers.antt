use Rattle.std.proofs.Common.{◌≡◌, refl, sym, ap, ◌∙◌}
use Rattle.std.specs.Prelude.{option_copied, option_map}
use Rattle.cas_model.specs.View.{View}
use Rattle.cas_model.proofs.Places.{some_is}
use Rattle.cas_world_calls.specs.Council.{due_key, plan_view}
use Rattle.cas_world.specs.Eras.Plans.{IsPartial}
use Rattle.cas_world.proofs.Eras.Planning.{if_none, none_due}
use Rattle.cas_world.proofs.world.World.settle_key.Goals as goal

pub returns-in-Some-clause-none : goal.returns-in-Some-clause-none
returns-in-Some-clause-none g c =
    if_none option_copied c.due.result (IsPartial c.args.self.now.council.plan) refl
    (λ none. record {
      partial = λ plan listing is_plan is_listing.
          let there = ap (λ (v : View _ _). v.council.plan) c.self.view_is ∙ is_plan in
          let one : plan_view c.in-Some.plan ≡ plan = some_is (sym (ap (option_map plan_view) c.in-Some.is) ∙ there) in
          none_due plan listing is_listing (c.self.invariant.safe.sound.council.0 plan listing there is_listing) (sym (ap due_key one) ∙ sym c.due.ensures ∙ none);
    })
