use Rattle.std.proofs.Common.{Option, Ok, Err, refl, sym, ap, subst, ◌∙◌}
use Rattle.std.specs.Prelude.{IfSome}
use Rattle.cas_model.specs.Council.{ListingView}
use Rattle.cas_model.specs.Eras.Listings.{counted, missing, why_short}
use Rattle.cas_record.specs.declared.answer.Answer.{Answer}
use Rattle.cas_world_calls.specs.Council.{plan_view, GoesOnBy, listed_if, lists, is_short}
use Rattle.cas_world_calls.specs.Council as council
use Rattle.cas_world_calls.specs.declared.council.Gathered.{Gathered}
use Rattle.cas_world_calls.proofs.Listed.{made_from, made_none}
use Rattle.cas_world_calls.proofs.plan.OpenPlan.go_on.Goals as goal
use Rattle.cas_world_calls.proofs.plan.OpenPlan.go_on.Goals.{then-is_complete, else-is_complete}

pub returns-in-Some-short-clause-gone_on : goal.returns-in-Some-short-clause-gone_on
returns-in-Some-short-clause-gone_on c =
    let made = made_from (why_short c.args.told.now) (missing c.args.era.now (counted c.args.told.now c.in-Some.listing.places)) c.in-Some-short.short (sym c.short.ensures ∙ c.in-Some-short.is) in
    subst (λ (o : Option ListingView). IfSome o (λ listing. GoesOnBy c.args.era.now c.args.told.now listing (plan_view c.args.self.now) (Err c.in-Some-short.short) (plan_view c.args.self.now))) (sym c.in-Some.is)
    (council.is_short made.0 made.1 (ap (λ (a : Answer). Err a) (sym made.2)) refl)

pub returns-clause-gone_on : goal.returns-clause-gone_on
returns-clause-gone_on c =
    subst (λ (o : Option ListingView). IfSome o (λ listing. GoesOnBy c.args.era.now c.args.told.now listing (plan_view c.args.self.now) (Ok c.if-is_complete.gathered) (plan_view c.settle_listed.new.self))) (sym c.in-Some.is)
    (council.lists c.in_ok-next.next (made_none (why_short c.args.told.now) _ (sym c.short.ensures ∙ c.in_default-short.is)) c.in_ok-next.ensures.goes_on c.in_ok-next.ensures.less
    (ap (λ (x : Gathered). Ok x)
    (elim c.if-is_complete.branch [
      | then-is_complete w ↦ w.gathered-is ∙ ap listed_if (sym (sym c.is_complete.ensures ∙ w.if-is_complete.true))
      | else-is_complete w ↦ w.gathered-is ∙ ap listed_if (sym (sym c.is_complete.ensures ∙ w.if-is_complete.false))
    ]))
    c.settle_listed.ensures)
